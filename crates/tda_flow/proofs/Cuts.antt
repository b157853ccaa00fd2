-- Where the terms of each arc stand in the list of all terms.
use Rattle.std.proofs.Common.{◌≡◌, ℕ, zero, suc, ◌+◌, ◌-◌, ◌<◌, ◌≤◌, List, [], ◌∷◌, ◌++◌, length, get_or, set, drop, refl, sym, ap, ◌∙◌, arith, add-one, length-drop}
use Rattle.std.proofs.lemmas.List.{drop-append-le, take-append-le, take_all, map_push, length-map}
use Rattle.std.specs.List.{slice_range}
use Rattle.tda_flow.specs.declared.net.Term.{Term}
use Rattle.tda_flow.specs.declared.lanes.Lane.{Lane}
use Rattle.tda_flow.specs.Network.{with_arc, with_term, terms_at}
use Rattle.tda_flow.specs.Lanes.{arc_of, start_of, cut, AreInOrder, no_lane, lane_at}
use Rattle.tda_flow.specs.NetView.{seen}

range-empty : (terms : List Term) (a b : ℕ) → b ≤ a → slice_range terms a b ≡ []
range-empty terms a b h = let e : b - a ≡ 0 = omega arith in rw e refl

range-push : (terms : List Term) (term : Term) (a b : ℕ) → a ≤ b → b ≤ length terms → slice_range (terms ++ term ∷ []) a b ≡ slice_range terms a b
range-push terms term a b low high =
    let whole : a ≤ length terms = omega arith in
    let rest : b - a ≤ length (drop a terms) = omega (arith, length-drop a terms) in
    rw (drop-append-le a terms (term ∷ []) whole, take-append-le (b - a) (drop a terms) (term ∷ []) rest) refl

range-push_end : (terms : List Term) (term : Term) (a : ℕ) → a ≤ length terms
    → slice_range (terms ++ term ∷ []) a (length (terms ++ term ∷ [])) ≡ slice_range terms a (length terms) ++ term ∷ []
range-push_end terms term a low =
    take_all (length (terms ++ term ∷ []) - a) (drop a (terms ++ term ∷ [])) (omega (arith, length-drop a (terms ++ term ∷ [])))
    ∙ drop-append-le a terms (term ∷ []) low
    ∙ ap (λ z. z ++ term ∷ []) (sym (take_all (length terms - a) (drop a terms) (omega (arith, length-drop a terms))))

start_of-push : (lanes : List Lane) (lane : Lane) (n : ℕ) → lane.first_term ≡ n → start_of (lanes ++ lane ∷ []) n ≡ start_of lanes n
start_of-push [] lane n e = e
start_of-push (x ∷ xs) lane n e = refl

start_of-more : (lanes : List Lane) (n : ℕ) → (start_of lanes n ≤ start_of lanes (n + 1)) × (start_of lanes n ≤ n → start_of lanes (n + 1) ≤ n + 1)
start_of-more [] n = (omega arith, λ h. omega arith)
start_of-more (x ∷ xs) n = (omega arith, λ h. omega arith)

pub length-cut : (lanes : List Lane) (terms : List Term) → length (cut lanes terms) ≡ length lanes
length-cut [] terms = refl
length-cut (x ∷ xs) terms = ap suc (length-cut xs terms)

-- a lane without terms at the end
pub cut-push_lane : (lanes : List Lane) (lane : Lane) (terms : List Term) → lane.first_term ≡ length terms → cut (lanes ++ lane ∷ []) terms ≡ cut lanes terms ++ [] ∷ []
cut-push_lane [] lane terms e = ap (λ z. z ∷ []) (range-empty terms lane.first_term (length terms) (omega arith))
cut-push_lane (x ∷ xs) lane terms e = rw (start_of-push xs lane (length terms) e, cut-push_lane xs lane terms e) refl

pub seen-push_lane : (nodes : ℕ) (lanes : List Lane) (lane : Lane) (terms : List Term) → lane.first_term ≡ length terms
    → seen nodes (lanes ++ lane ∷ []) terms ≡ with_arc (seen nodes lanes terms) lane.arc
seen-push_lane nodes lanes lane terms e = rw (map_push arc_of lanes lane, cut-push_lane lanes lane terms e) refl

-- a term at the end goes to the last lane
pub cut-push_term : (lanes : List Lane) (terms : List Term) (term : Term) → AreInOrder lanes (length terms) → 0 < length lanes
    → cut lanes (terms ++ term ∷ []) ≡ set (cut lanes terms) (length lanes - 1) (get_or (cut lanes terms) (length lanes - 1) [] ++ term ∷ [])
cut-push_term [] terms term o some = absurd (omega arith)
cut-push_term (x ∷ []) terms term o some = ap (λ z. z ∷ []) (range-push_end terms term x.first_term o.0)
cut-push_term (x ∷ y ∷ ys) terms term o some =
    let e : length (x ∷ y ∷ ys) - 1 ≡ suc (length (y ∷ ys) - 1) = omega arith in
    rw (e, range-push terms term x.first_term y.first_term o.0 o.1, cut-push_term (y ∷ ys) terms term o.2 (omega arith)) refl

cut-at_suc : (lanes : List Lane) (terms : List Term) (i : ℕ) → i < length lanes
    → get_or (cut lanes terms) i [] ≡ slice_range terms (get_or lanes i no_lane).first_term (start_of (drop (suc i) lanes) (length terms))
cut-at_suc [] terms i l = absurd (omega arith)
cut-at_suc (x ∷ xs) terms zero l = refl
cut-at_suc (x ∷ xs) terms (suc i) l = cut-at_suc xs terms i (omega arith)

in_order-at_suc : (lanes : List Lane) (i n : ℕ) → AreInOrder lanes n → i < length lanes
    → ((get_or lanes i no_lane).first_term ≤ start_of (drop (suc i) lanes) n) × (start_of (drop (suc i) lanes) n ≤ n)
in_order-at_suc [] i n o l = absurd (omega arith)
in_order-at_suc (x ∷ xs) zero n o l = (o.0, o.1)
in_order-at_suc (x ∷ xs) (suc i) n o l = in_order-at_suc xs i n o.2 (omega arith)

pub in_order-push_lane : (lanes : List Lane) (lane : Lane) (n : ℕ) → AreInOrder lanes n → lane.first_term ≡ n → AreInOrder (lanes ++ lane ∷ []) n
in_order-push_lane [] lane n o e = (omega arith, omega arith, tt)
in_order-push_lane (x ∷ xs) lane n o e = rw (start_of-push xs lane n e) (o.0, o.1, in_order-push_lane xs lane n o.2 e)

pub in_order-push_term : (lanes : List Lane) (n : ℕ) → AreInOrder lanes n → AreInOrder lanes (n + 1)
in_order-push_term [] n o = tt
in_order-push_term (x ∷ xs) n o =
    let more = start_of-more xs n in
    let most = more.1 o.1 in
    (omega arith, most, in_order-push_term xs n o.2)

-- where the terms of lane i stand
pub cut-at : (lanes : List Lane) (terms : List Term) (i : ℕ) → i < length lanes
    → get_or (cut lanes terms) i [] ≡ slice_range terms (get_or lanes i no_lane).first_term (start_of (drop (i + 1) lanes) (length terms))
cut-at lanes terms i l = rw add-one (cut-at_suc lanes terms i l)

pub in_order-at : (lanes : List Lane) (i n : ℕ) → AreInOrder lanes n → i < length lanes
    → ((get_or lanes i no_lane).first_term ≤ start_of (drop (i + 1) lanes) n) × (start_of (drop (i + 1) lanes) n ≤ n)
in_order-at lanes i n o l = rw add-one (in_order-at_suc lanes i n o l)

pub seen-push_term : (nodes : ℕ) (lanes : List Lane) (terms : List Term) (term : Term) → AreInOrder lanes (length terms) → 0 < length lanes
    → seen nodes lanes (terms ++ term ∷ []) ≡ with_term (seen nodes lanes terms) term
seen-push_term nodes lanes terms term o some = rw (length-map lanes arc_of, cut-push_term lanes terms term o some) refl

-- what is read of lane i, where its terms begin and end
pub terms_at-seen : (nodes : ℕ) (lanes : List Lane) (terms : List Term) (i : ℕ) (ls : List Lane) (ts : List Term) (count a b : ℕ) → i < length lanes
    → ls ≡ lanes → ts ≡ terms → count ≡ length terms → a ≡ (lane_at ls i).first_term → b ≡ start_of (drop (i + 1) ls) count
    → slice_range ts a b ≡ terms_at (seen nodes lanes terms) i
terms_at-seen nodes lanes terms i ls ts count a b l el et ec ea eb = rw (ea, eb, ec, el, et) (sym (cut-at lanes terms i l))
