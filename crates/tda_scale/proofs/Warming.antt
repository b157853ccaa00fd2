-- Flows that are least for prices that were handed in.
use Rattle.std.proofs.Common.{◌≡◌, ℕ, ◌+◌, ◌-◌, ◌*◌, ◌<◌, ◌≤◌, ℤ, pos, neg_ℤ, ◌+ℤ◌, ◌-ℤ◌, ◌*ℤ◌, ◌≤ℤ◌, ◌<ℤ◌, refl, sym, ap, subst, ◌∙◌, List, length, slice_index, set, inl, inr, arith, length-set, Bool, true, false, cond, ltb}
use Rattle.std.proofs.lemmas.Int.{ints, by_lt_z}
use Rattle.std.proofs.lemmas.Bool.{cases_eq, cases_lt, ltb-true, ltb-false}
use Rattle.std.proofs.lemmas.List.{get_or_past}
use Rattle.tda_loss.specs.Curve.{IsWithin}
use Rattle.tda_loss.proofs.Ring.{mul-add, mul-sub, pos-mul-le}
use Rattle.tda_flow.specs.declared.net.Arc.{Arc}
use Rattle.tda_flow.specs.Network.{Network, arc_at, terms_at}
use Rattle.tda_flow.specs.Flow.{arc_cost}
use Rattle.tda_flow.specs.Certificate.{price_at}
use Rattle.tda_flow.specs.Walk.{stepped, bumped}
use Rattle.tda_flow.proofs.Changes.{flow-here}
use Rattle.tda_scale.specs.declared.slopes.Slope.{Slope}
use Rattle.tda_scale.specs.declared.spots.Spot.{Spot}
use Rattle.tda_scale.specs.Slopes.{IsSlope}
use Rattle.tda_scale.specs.Spots.{no_spot, spot_at, priced_spot}
use Rattle.tda_scale.specs.Quotes.{up_rate, down_rate}
use Rattle.tda_scale.specs.Adjusted.{Keeps, KeepsAt}
use Rattle.tda_scale.specs.Tracked.{IsTracked}
use Rattle.tda_scale.specs.Phase.{square, AreWithin}
use Rattle.tda_scale.specs.Warm.{ArePriced}
use Rattle.tda_scale.proofs.Adjusting.{keeps_rates}
use Rattle.tda_scale.proofs.Searched.{spot-here, spot-other}

-- the least and the greatest of the least flows
pub meets : (z least most : ℤ) (n : ℕ) → (pos n *ℤ least) <ℤ (z +ℤ pos n) → z <ℤ (pos n *ℤ most) → least ≤ℤ most
meets z least most n below above =
    by_lt_z most least
    (λ less.
    let m = pos-mul-le n (most +ℤ pos 1) least (omega (arith, ints)) in
    let a = mul-add (pos n) most (pos 1) in
    absurd (omega (arith, ints)))
    (λ ok. omega (arith, ints))

neg-times : (n q : ℤ) → n *ℤ neg_ℤ q ≡ neg_ℤ (n *ℤ q)
neg-times n q =
    let e : neg_ℤ q ≡ pos 0 -ℤ q = omega (arith, ints) in
    let a = ap (λ y. n *ℤ y) e in
    let b = mul-sub n (pos 0) q in
    let c : n *ℤ pos 0 ≡ pos 0 = omega (arith, ints) in
    omega (arith, ints)

pub ceiling : (z q r : ℤ) (n : ℕ) → r ≡ neg_ℤ q → neg_ℤ z <ℤ (pos n *ℤ q +ℤ pos n) → (pos n *ℤ r) <ℤ (z +ℤ pos n)
ceiling z q r n e high = let a = neg-times (pos n) q in let b = ap (λ y. pos n *ℤ y) e in omega (arith, ints)

pub one_past : (z q r : ℤ) (n : ℕ) → r ≡ q +ℤ pos 1 → (pos n *ℤ q) ≤ℤ z → z <ℤ (pos n *ℤ q +ℤ pos n) → (z <ℤ (pos n *ℤ r)) × ((pos n *ℤ r) ≤ℤ (z +ℤ pos n))
one_past z q r n e low high = let a = mul-add (pos n) q (pos 1) in let b = ap (λ y. pos n *ℤ y) e in (omega (arith, ints), omega (arith, ints))

double : (w y : ℕ) → pos (2 * w) *ℤ pos y ≡ pos (w * y) +ℤ pos (w * y)
double w y = let e : 2 * w * y ≡ w * y + w * y = omega arith in omega (arith, ints, e)

odd_up : (w y : ℕ) → pos ((2 * y + 1) * w) ≡ pos (w * y) +ℤ pos (w * y) +ℤ pos w
odd_up w y = let e : (2 * y + 1) * w ≡ w * y + w * y + w = omega arith in omega (arith, ints, e)

odd_down : (w y : ℕ) → 1 ≤ y → pos ((2 * y - 1) * w) ≡ pos (w * y) +ℤ pos (w * y) -ℤ pos w
odd_down w y l =
    let k : ℕ = y - 1 in
    let s : y ≡ k + 1 = omega arith in
    let e : 2 * y - 1 ≡ 2 * k + 1 = omega arith in
    let a = ap (λ z. pos (z * w)) e in
    let b = odd_up w k in
    let c : w * y ≡ w * k + w = ap (λ z. w * z) s ∙ (omega arith) in
    omega (arith, ints, a, b, c)

pub least_up : (s : Slope) (g rest least : ℤ) (y : ℕ) → rest ≡ g +ℤ s.pull -ℤ pos s.weight → rest ≤ℤ (pos (2 * s.weight) *ℤ least) → least ≤ℤ pos y → g ≤ℤ up_rate s 1 y
least_up s g rest least y e h l =
    let m = pos-mul-le (2 * s.weight) least (pos y) l in
    omega (arith, ints, m, double s.weight y, odd_up s.weight y, h, e)

pub least_down : (s : Slope) (g rest most : ℤ) (y : ℕ) → 1 ≤ y → rest ≡ g +ℤ s.pull -ℤ pos s.weight → (pos (2 * s.weight) *ℤ most) ≤ℤ (rest +ℤ pos (2 * s.weight)) → pos y ≤ℤ most → neg_ℤ g ≤ℤ down_rate s 1 y
least_down s g rest most y one e h l =
    let m = pos-mul-le (2 * s.weight) (pos y) most l in
    omega (arith, ints, m, double s.weight y, odd_down s.weight y one, h, e)

-- an arc without weight
pub flat_up : (s : Slope) (g : ℤ) (y : ℕ) → s.weight ≡ 0 → (g +ℤ s.pull -ℤ pos s.weight) ≤ℤ pos 0 → g ≤ℤ up_rate s 1 y
flat_up s g y e h = let a = ap (λ w. pos ((2 * y + 1) * w)) e in omega (arith, ints, a, h)

pub flat_down : (s : Slope) (g : ℤ) (y : ℕ) → s.weight ≡ 0 → pos 0 ≤ℤ (g +ℤ s.pull -ℤ pos s.weight) → neg_ℤ g ≤ℤ down_rate s 1 y
flat_down s g y e h = let a = ap (λ w. pos ((2 * y - 1) * w)) e in omega (arith, ints, a, h)

pub settled_arc : (net : Network) (slope : Slope) (k y : ℕ) (more : List ℕ) (p q : ℕ → ℤ) (arc : Arc) (g : ℤ) → arc ≡ arc_at net k → g ≡ p arc.to -ℤ p arc.from → ((v : ℕ) → q v ≡ p v) → IsSlope (terms_at net k) slope
    → slice_index more k ≡ y → (y + 1 ≤ arc.high → g ≤ℤ up_rate slope 1 y) → (arc.low + 1 ≤ y → neg_ℤ g ≤ℤ down_rate slope 1 y)
    → KeepsAt square net 1 more q k
settled_arc net slope k y more p q arc g ea eg same sl ey up down =
    subst (λ a. Keeps (arc_cost square (terms_at net k)) a.low a.high (q a.to -ℤ q a.from) 1 (slice_index more k)) ea
    (subst (λ x. Keeps (arc_cost square (terms_at net k)) arc.low arc.high (q arc.to -ℤ q arc.from) 1 x) (sym ey)
    (subst (λ z. Keeps (arc_cost square (terms_at net k)) arc.low arc.high z 1 y) (let a = same arc.to in let b = same arc.from in omega (arith, ints))
    (keeps_rates (terms_at net k) slope arc 1 y g sl up down)))

-- one more price
pub priced-none : (prices : List ℤ) (spots : List Spot) → ArePriced prices 0 spots spots
priced-none prices spots = record { count = refl; price = λ v l. absurd (omega arith); later = λ v l. refl; excess = λ v. refl; mark = λ v. refl }

pub priced_more : (prices : List ℤ) (n : ℕ) (x : ℤ) (spots more next : List Spot) → n < length spots → x ≡ price_at prices n → ArePriced prices n spots more → next ≡ set more n (priced_spot (spot_at more n) x)
    → ArePriced prices (n + 1) spots next
priced_more prices n x spots more next l ex h e = record {
  count = ap length e ∙ length-set more n (priced_spot (spot_at more n) x) ∙ h.count;
  price =
      λ v m.
      elim (cases_eq v n) [
        | inl q ↦ subst (λ z. (spot_at next z).price ≡ price_at prices z) (sym q) (ap (λ (s : Spot). s.price) here ∙ ex)
        | inr ne ↦ ap (λ (s : Spot). s.price) (other v ne) ∙ h.price v (omega arith)
      ];
  later = λ v m. ap (λ (s : Spot). s.price) (other v (λ q. omega arith)) ∙ h.later v (omega arith);
  excess =
      λ v.
      elim (cases_eq v n) [
        | inl q ↦ subst (λ z. (spot_at next z).excess ≡ (spot_at spots z).excess) (sym q) (ap (λ (s : Spot). s.excess) here ∙ h.excess n)
        | inr ne ↦ ap (λ (s : Spot). s.excess) (other v ne) ∙ h.excess v
      ];
  mark =
      λ v.
      elim (cases_eq v n) [
        | inl q ↦ subst (λ z. (spot_at next z).mark ≡ (spot_at spots z).mark) (sym q) (ap (λ (s : Spot). s.mark) here ∙ h.mark n)
        | inr ne ↦ ap (λ (s : Spot). s.mark) (other v ne) ∙ h.mark v
      ];
}
  where
    here : spot_at next n ≡ priced_spot (spot_at more n) x
    here = ap (λ z. spot_at z n) e ∙ spot-here more n (priced_spot (spot_at more n) x) (let c = h.count in omega arith)

    other : (v : ℕ) → (v ≡ n → ⊥) → spot_at next v ≡ spot_at more v
    other v ne = ap (λ z. spot_at z v) e ∙ spot-other more n v (priced_spot (spot_at more n) x) ne

-- an arc that is brought from the flow x to the flow y
pub flow_reached : (k x y d : ℕ) (flow more : List ℕ) → k < length flow → x ≡ slice_index flow k → d ≡ (y - x) + (x - y) → more ≡ bumped (record { arc = k; back = ltb y x }) d flow → slice_index more k ≡ y
flow_reached k x y d flow more l ex ed e =
    ap (λ z. slice_index z k) e ∙ flow-here flow k (stepped (record { arc = k; back = ltb y x }) d (slice_index flow k)) l ∙ go (ltb y x) refl
  where
    go : (b : Bool) → ltb y x ≡ b → cond b (slice_index flow k - d) (slice_index flow k + d) ≡ y
    go true q = let m = ltb-true y x q in omega arith
    go false q = let m = ltb-false y x q in omega arith

-- the prices are within bounds
pub priced_within : (b : ℕ) (prices : List ℤ) (spots more last : List Spot) → ArePriced prices (length prices) spots more → length prices ≡ length spots → ((v : ℕ) → v < length prices → IsWithin b (price_at prices v))
    → ((v : ℕ) → (spot_at last v).price ≡ (spot_at more v).price) → AreWithin b last
priced_within b prices spots more last h e small same v =
    elim (cases_lt v (length prices)) [
      | inl l ↦ subst (IsWithin b) (sym (same v ∙ h.price v l)) (small v l)
      | inr past ↦
          let p : (spot_at last v).price ≡ pos 0 = same v ∙ h.later v past ∙ ap (λ (s : Spot). s.price) (get_or_past spots v no_spot (omega (arith, e))) in
          record { low = omega (arith, ints, p); high = omega (arith, ints, p) }
    ]

pub priced_tracked : (net : Network) (flow : List ℕ) (prices : List ℤ) (n : ℕ) (spots more : List Spot) → ArePriced prices n spots more → IsTracked net flow spots → IsTracked net flow more
priced_tracked net flow prices n spots more h t = record {
  nodes = h.count ∙ t.nodes;
  flows = t.flows;
  within = t.within;
  excesses = λ v l. h.excess v ∙ t.excesses v l;
}
