-- What a step of flow along a walk changes: the excess of its two ends alone. Within the bounds it stays there,
-- and the cost rises by no more than the walk's, where no turn comes twice.
use Rattle.std.proofs.Common.{◌≡◌, ◌≢◌, ◌⊎◌, ℕ, zero, suc, ◌+◌, ◌-◌, ◌^◌, ◌<◌, ◌≤◌, ℤ, pos, ◌+ℤ◌, ◌-ℤ◌, ◌≤ℤ◌, Bool, true, false, cond, eqb, IsTrue, refl, sym, ap, subst, ◌∙◌, List, [], ◌∷◌, All, length, slice_index, get_or, inl, inr, arith, length-set, add-zero, add-suc}
use Rattle.std.proofs.lemmas.Int.{ints}
use Rattle.std.proofs.lemmas.Bool.{cases_eq}
use Rattle.std.proofs.lemmas.List.Elements.{All-head, All-tail, All-cons, All-nil}
use Rattle.tda_loss.specs.Curve.{IsConvex}
use Rattle.tda_flow.specs.declared.net.Turn.{Turn}
use Rattle.tda_flow.specs.Network.{Network, arc_count, arc_at, terms_at}
use Rattle.tda_flow.specs.Turns.{turn_from, turn_to}
use Rattle.tda_flow.specs.Flow.{into, out_of, cost, arc_cost, IsCirculation}
use Rattle.tda_flow.specs.Walk.{Space, IsUsable, IsWalk, IsBounded, Follows, stepped, bumped, moved, after, Misses, IsDistinct, AvoidsArc, IsApart, turn_cost, walk_cost, CanMove, net_space}
use Rattle.tda_flow.proofs.Changes.{sum-set, cond-add, cond-sub, flow-here, flow-other}
use Rattle.tda_flow.proofs.Convex.{Bends}
use Rattle.tda_flow.proofs.Exchange.{excess}
use Rattle.tda_flow.proofs.Least.{arc_cost-bends}

-- what node v gets, where w gets d
abbrev pub given : ℕ → ℕ → ℕ → ℤ
given d w v = cond (eqb w v) (pos d) (pos 0)

length-bumped : (t : Turn) (d : ℕ) (flow : List ℕ) → length (bumped t d flow) ≡ length flow
length-bumped t d flow = length-set flow t.arc (stepped t d (slice_index flow t.arc))

pub length-moved : (ts : List Turn) (d : ℕ) (flow : List ℕ) → length (moved ts d flow) ≡ length flow
length-moved [] d flow = refl
length-moved (t ∷ ts) d flow = length-moved ts d (bumped t d flow) ∙ length-bumped t d flow

-- the excess of a node after a step along one turn
excess-bumped_way : (net : Network) (flow : List ℕ) (d k : ℕ) (back : Bool) (v : ℕ) → k < arc_count net → length flow ≡ arc_count net → (IsTrue back → d ≤ slice_index flow k)
    → excess net (bumped (record { arc = k; back = back }) d flow) v
    ≡ excess net flow v +ℤ given d (turn_to net (record { arc = k; back = back })) v -ℤ given d (turn_from net (record { arc = k; back = back })) v
unfolding into out_of
excess-bumped_way net flow d k false v l e able =
    let m : ℕ = arc_count net in
    let x : ℕ = slice_index flow k in
    let in_arc : ℕ → ℕ → ℤ = λ j y. cond (eqb (arc_at net j).to v) (pos y) (pos 0) in
    let out_arc : ℕ → ℕ → ℤ = λ j y. cond (eqb (arc_at net j).from v) (pos y) (pos 0) in
    omega (
      arith,
      ints,
      sum-set m in_arc flow k (x + d) l e,
      sum-set m out_arc flow k (x + d) l e,
      cond-add (eqb (arc_at net k).to v) x d,
      cond-add (eqb (arc_at net k).from v) x d,
    )
excess-bumped_way net flow d k true v l e able =
    let m : ℕ = arc_count net in
    let x : ℕ = slice_index flow k in
    let in_arc : ℕ → ℕ → ℤ = λ j y. cond (eqb (arc_at net j).to v) (pos y) (pos 0) in
    let out_arc : ℕ → ℕ → ℤ = λ j y. cond (eqb (arc_at net j).from v) (pos y) (pos 0) in
    omega (
      arith,
      ints,
      sum-set m in_arc flow k (x - d) l e,
      sum-set m out_arc flow k (x - d) l e,
      cond-sub (eqb (arc_at net k).to v) x d (able refl),
      cond-sub (eqb (arc_at net k).from v) x d (able refl),
    )

pub excess-bumped : (net : Network) (flow : List ℕ) (d : ℕ) (t : Turn) (v : ℕ) → t.arc < arc_count net → length flow ≡ arc_count net → (IsTrue t.back → d ≤ slice_index flow t.arc)
    → excess net (bumped t d flow) v ≡ excess net flow v +ℤ given d (turn_to net t) v -ℤ given d (turn_from net t) v
excess-bumped net flow d t v l e able = excess-bumped_way net flow d t.arc t.back v l e able

-- each turn is over an arc of the net, and a step back is no larger than the flow where it is taken
abbrev pub IsAble : Network → ℕ → List ℕ → List Turn → Type 0
IsAble net d flow [] = Unit {0}
IsAble net d flow (t ∷ ts) = (t.arc < arc_count net) × (IsTrue t.back → d ≤ slice_index flow t.arc) × IsAble net d (bumped t d flow) ts

-- the excess of a node after a step along a walk from a to b: only that of a and b changes
pub excess-moved : (net : Network) (ts : List Turn) (flow : List ℕ) (d a b v : ℕ) → length flow ≡ arc_count net → Follows net a ts b → IsAble net d flow ts
    → excess net (moved ts d flow) v ≡ excess net flow v +ℤ given d b v -ℤ given d a v
excess-moved net [] flow d a b v e h able = let same = ap (λ z. given d z v) h in omega (arith, ints)
excess-moved net (t ∷ ts) flow d a b v e h able =
    let first = excess-bumped net flow d t v able.0 e able.1 in
    let rest = excess-moved net ts (bumped t d flow) d (turn_to net t) b v (length-bumped t d flow ∙ e) h.1 able.2 in
    let start = ap (λ z. given d z v) h.0 in
    omega (arith, ints, first, rest, start)

-- one turn on the same arc the other way
other_way : (b c : Bool) → b ≢ c → ((b ≡ true) × (c ≡ false)) ⊎ ((b ≡ false) × (c ≡ true))
other_way true true ne = absurd (ne refl)
other_way false false ne = absurd (ne refl)
other_way true false ne = inl (refl, refl)
other_way false true ne = inr (refl, refl)

same_turn : (t u : Turn) → u.arc ≡ t.arc → u.back ≡ t.back → u ≡ t
same_turn t u e f = ap (λ k. way k u.back) e ∙ ap (λ b. way t.arc b) f
  where
    way : ℕ → Bool → Turn
    way k b = record { arc = k; back = b }

flow-bumped : (t : Turn) (d : ℕ) (flow : List ℕ) → t.arc < length flow → slice_index (bumped t d flow) t.arc ≡ stepped t d (slice_index flow t.arc)
flow-bumped t d flow l = flow-here flow t.arc (stepped t d (slice_index flow t.arc)) l

stepped-forth : (t : Turn) (d x : ℕ) → t.back ≡ false → stepped t d x ≡ x + d
stepped-forth t d x e = ap (λ b. cond b (x - d) (x + d)) e

stepped-back : (t : Turn) (d x : ℕ) → t.back ≡ true → stepped t d x ≡ x - d
stepped-back t d x e = ap (λ b. cond b (x - d) (x + d)) e

-- a step along one turn stays within the bounds
bounded-step : (s : Space) (t : Turn) → IsBounded s → IsUsable s t → IsBounded (after s (t ∷ []))
bounded-step s t h u = record {
  length_is = length-bumped t s.step s.flow ∙ h.length_is;
  low = λ k l. (both k l).0;
  high = λ k l. (both k l).1;
}
  where
    x : ℕ
    x = slice_index s.flow t.arc

    here : (b : Bool) → t.back ≡ b → (s.low t.arc ≤ stepped t s.step x) × (stepped t s.step x ≤ s.high t.arc)
    here true e =
        let room = u.backwards e in
        let top = h.high t.arc u.arc in
        rw (stepped-back t s.step x e) (omega arith, omega arith)
    here false e =
        let room = u.forwards e in
        let bottom = h.low t.arc u.arc in
        rw (stepped-forth t s.step x e) (omega arith, omega arith)

    both : (k : ℕ) → k < arc_count s.net → (s.low k ≤ slice_index (bumped t s.step s.flow) k) × (slice_index (bumped t s.step s.flow) k ≤ s.high k)
    both k l =
        elim (cases_eq k t.arc) [
          | inl e ↦
              let at = flow-bumped t s.step s.flow (omega (arith, u.arc, h.length_is)) in
              subst (λ z. (s.low z ≤ slice_index (bumped t s.step s.flow) z) × (slice_index (bumped t s.step s.flow) z ≤ s.high z)) (sym e)
              (subst (λ z. (s.low t.arc ≤ z) × (z ≤ s.high t.arc)) (sym at) (here t.back refl))
          | inr ne ↦
              subst (λ z. (s.low k ≤ z) × (z ≤ s.high k)) (sym (flow-other s.flow t.arc k (stepped t s.step x) ne)) (h.low k l, h.high k l)
        ]

-- and another turn stays usable
usable-step : (s : Space) (t u : Turn) → IsBounded s → IsUsable s t → IsUsable s u → (u ≡ t → ⊥) → IsUsable (after s (t ∷ [])) u
usable-step s t u h ut uu ne =
    elim (cases_eq u.arc t.arc) [
      | inl e ↦ same_arc e (other_way u.back t.back (λ f. ne (same_turn t u e f)))
      | inr far ↦
          let at = flow-other s.flow t.arc u.arc (stepped t s.step (slice_index s.flow t.arc)) far in
          record {
            arc = uu.arc;
            forwards = λ f. subst (λ z. z + s.step ≤ s.high u.arc) (sym at) (uu.forwards f);
            backwards = λ f. subst (λ z. s.low u.arc + s.step ≤ z) (sym at) (uu.backwards f);
          }
    ]
  where
    same_arc : u.arc ≡ t.arc → ((u.back ≡ true) × (t.back ≡ false)) ⊎ ((u.back ≡ false) × (t.back ≡ true)) → IsUsable (after s (t ∷ [])) u
    same_arc e (inl w) =
        let at = flow-bumped t s.step s.flow (omega (arith, ut.arc, h.length_is)) ∙ stepped-forth t s.step (slice_index s.flow t.arc) w.1 in
        let bottom = h.low t.arc ut.arc in
        record {
          arc = uu.arc;
          forwards = λ f. let a = w.0 in absurd (cc);
          backwards = λ f. subst (λ z. s.low z + s.step ≤ slice_index (bumped t s.step s.flow) z) (sym e) (omega (arith, at, bottom));
        }
    same_arc e (inr w) =
        let at = flow-bumped t s.step s.flow (omega (arith, ut.arc, h.length_is)) ∙ stepped-back t s.step (slice_index s.flow t.arc) w.1 in
        let top = h.high t.arc ut.arc in
        let room = ut.backwards w.1 in
        record {
          arc = uu.arc;
          forwards = λ f. subst (λ z. slice_index (bumped t s.step s.flow) z + s.step ≤ s.high z) (sym e) (omega (arith, at, top, room));
          backwards = λ f. let a = w.0 in absurd (cc);
        }

all_usable-step : (s : Space) (t : Turn) (us : List Turn) → IsBounded s → IsUsable s t → All (IsUsable s) us → Misses t us → All (IsUsable (after s (t ∷ []))) us
all_usable-step s t [] h ut a m = All-nil (IsUsable (after s (t ∷ [])))
all_usable-step s t (u ∷ us) h ut a m =
    All-cons (IsUsable (after s (t ∷ []))) u us (usable-step s t u h ut (All-head (IsUsable s) u us a) m.0)
    (all_usable-step s t us h ut (All-tail (IsUsable s) u us a) m.1)

-- a step along a walk on which no turn comes twice stays within the bounds
pub bounded-moved : (s : Space) (ts : List Turn) → IsBounded s → All (IsUsable s) ts → IsDistinct ts → IsBounded (after s ts)
bounded-moved s [] h a d = h
bounded-moved s (t ∷ ts) h a d =
    let u = All-head (IsUsable s) t ts a in
    bounded-moved (after s (t ∷ [])) ts (bounded-step s t h u) (all_usable-step s t ts h u (All-tail (IsUsable s) t ts a) d.0) d.1

pub able_of_usable : (s : Space) (ts : List Turn) → IsBounded s → All (IsUsable s) ts → IsDistinct ts → IsAble s.net s.step s.flow ts
able_of_usable s [] h a d = tt
able_of_usable s (t ∷ ts) h a d =
    let u = All-head (IsUsable s) t ts a in (
      u.arc,
      λ e. omega (arith, u.backwards e),
      able_of_usable (after s (t ∷ [])) ts (bounded-step s t h u) (all_usable-step s t ts h u (All-tail (IsUsable s) t ts a) d.0) d.1,
    )

-- so flow may be moved along it
pub can_move : (s : Space) (ts : List Turn) → IsBounded s → All (IsUsable s) ts → IsDistinct ts → ((k : ℕ) → k < arc_count s.net → s.high k < 2 ^ 64) → CanMove s.step s.flow ts
can_move s [] h a d top = tt
can_move s (t ∷ ts) h a d top =
    let u = All-head (IsUsable s) t ts a in (
      omega (arith, u.arc, h.length_is),
      λ e. omega (arith, u.backwards e),
      λ e. omega (arith, u.forwards e, top t.arc u.arc),
      can_move (after s (t ∷ [])) ts (bounded-step s t h u) (all_usable-step s t ts h u (All-tail (IsUsable s) t ts a) d.0) d.1 top,
    )

-- steps of d don't fall either
rises : (c : ℕ → ℤ) → Bends c → (n k : ℕ) → (c (suc n) -ℤ c n) ≤ℤ (c (suc (n + k)) -ℤ c (n + k))
rises c b n zero = rw add-zero (omega (arith, ints))
rises c b n (suc k) = rw add-suc (omega (arith, ints, rises c b n k, b (n + k)))

far_rises : (c : ℕ → ℤ) → Bends c → (n k d : ℕ) → (c (n + d) -ℤ c n) ≤ℤ (c (n + k + d) -ℤ c (n + k))
far_rises c b n k zero =
    let e : n + 0 ≡ n = omega arith in
    let f : n + k + 0 ≡ n + k = omega arith in
    rw (e, f) (omega (arith, ints))
far_rises c b n k (suc d) =
    let e : n + d + k ≡ n + k + d = omega arith in
    let f : n + suc d ≡ suc (n + d) = omega arith in
    let g : n + k + suc d ≡ suc (n + k + d) = omega arith in
    rw (f, g) (omega (arith, ints, far_rises c b n k d, subst (λ z. (c (suc (n + d)) -ℤ c (n + d)) ≤ℤ (c (suc z) -ℤ c z)) e (rises c b (n + d) k)))

pub bends_by : (c : ℕ → ℤ) → Bends c → (n d : ℕ) → (c (n + d) -ℤ c n) ≤ℤ (c (n + d + d) -ℤ c (n + d))
bends_by c b n d = far_rises c b n d d

-- a step back from x + d costs no more than one from x
dearer_back : (c : ℕ → ℤ) → Bends c → (d x a p q : ℕ) → d ≤ x → a ≡ x + d → p ≡ a - d → q ≡ x - d → (c p -ℤ c a) ≤ℤ (c q -ℤ c x)
dearer_back c b d x a p q l ea ep eq =
    let y : ℕ = x - d in
    let ex : x ≡ y + d = omega arith in
    let ea' : a ≡ y + d + d = omega arith in
    let ep' : p ≡ y + d = omega arith in
    omega (arith, ints, bends_by c b y d, ap c ex, ap c ea', ap c ep', ap c eq)

-- and a step up from x - d no more than one from x
dearer_up : (c : ℕ → ℤ) → Bends c → (d x a p q : ℕ) → d ≤ x → a ≡ x - d → p ≡ a + d → q ≡ x + d → (c p -ℤ c a) ≤ℤ (c q -ℤ c x)
dearer_up c b d x a p q l ea ep eq =
    let y : ℕ = x - d in
    let ex : x ≡ y + d = omega arith in
    let ep' : p ≡ y + d = omega arith in
    let eq' : q ≡ y + d + d = omega arith in
    omega (arith, ints, bends_by c b y d, ap c ex, ap c ea, ap c ep', ap c eq')

-- what a step along a turn adds to the cost
pub cost-bumped : (curve : ℤ → ℤ) (net : Network) (flow : List ℕ) (d : ℕ) (t : Turn) → t.arc < arc_count net → length flow ≡ arc_count net
    → cost curve net (bumped t d flow) ≡ cost curve net flow +ℤ turn_cost curve net d flow t
unfolding cost
cost-bumped curve net flow d t l e =
    omega (arith, ints, sum-set (arc_count net) (λ k x. arc_cost curve (terms_at net k) x) flow t.arc (stepped t d (slice_index flow t.arc)) l e)

-- after a step along t another turn costs no more
turn_cost-step : (curve : ℤ → ℤ) → IsConvex curve → (s : Space) (t u : Turn) → IsBounded s → IsUsable s t → IsUsable s u → (u ≡ t → ⊥)
    → turn_cost curve s.net s.step (bumped t s.step s.flow) u ≤ℤ turn_cost curve s.net s.step s.flow u
turn_cost-step curve convex s t u h ut uu ne =
    elim (cases_eq u.arc t.arc) [
      | inl e ↦ same_arc e (other_way u.back t.back (λ f. ne (same_turn t u e f)))
      | inr far ↦
          let at = flow-other s.flow t.arc u.arc (stepped t s.step (slice_index s.flow t.arc)) far in
          let same = ap (λ x. c u.arc (stepped u s.step x) -ℤ c u.arc x) at in
          omega (arith, ints, same)
    ]
  where
    c : ℕ → ℕ → ℤ
    c k x = arc_cost curve (terms_at s.net k) x

    same_arc : u.arc ≡ t.arc → ((u.back ≡ true) × (t.back ≡ false)) ⊎ ((u.back ≡ false) × (t.back ≡ true))
        → turn_cost curve s.net s.step (bumped t s.step s.flow) u ≤ℤ turn_cost curve s.net s.step s.flow u
    same_arc e (inl w) =
        let d : ℕ = s.step in
        let x : ℕ = slice_index s.flow u.arc in
        let a : ℕ = slice_index (bumped t d s.flow) u.arc in
        let same : slice_index s.flow u.arc ≡ slice_index s.flow t.arc = ap (slice_index s.flow) e in
        let at : slice_index (bumped t d s.flow) u.arc ≡ slice_index (bumped t d s.flow) t.arc = ap (slice_index (bumped t d s.flow)) e in
        let b = flow-bumped t d s.flow (omega (arith, ut.arc, h.length_is)) ∙ stepped-forth t d (slice_index s.flow t.arc) w.1 in
        dearer_back (arc_cost curve (terms_at s.net u.arc)) (arc_cost-bends curve convex (terms_at s.net u.arc)) d x a (stepped u d a) (stepped u d x)
        (omega (arith, uu.backwards w.0)) (omega arith) (stepped-back u d a w.0) (stepped-back u d x w.0)
    same_arc e (inr w) =
        let d : ℕ = s.step in
        let x : ℕ = slice_index s.flow u.arc in
        let a : ℕ = slice_index (bumped t d s.flow) u.arc in
        let same : slice_index s.flow u.arc ≡ slice_index s.flow t.arc = ap (slice_index s.flow) e in
        let at : slice_index (bumped t d s.flow) u.arc ≡ slice_index (bumped t d s.flow) t.arc = ap (slice_index (bumped t d s.flow)) e in
        let b = flow-bumped t d s.flow (omega (arith, ut.arc, h.length_is)) ∙ stepped-back t d (slice_index s.flow t.arc) w.1 in
        dearer_up (arc_cost curve (terms_at s.net u.arc)) (arc_cost-bends curve convex (terms_at s.net u.arc)) d x a (stepped u d a) (stepped u d x)
        (omega (arith, ut.backwards w.1)) (omega arith) (stepped-forth u d a w.0) (stepped-forth u d x w.0)

walk_cost-step : (curve : ℤ → ℤ) → IsConvex curve → (s : Space) (t : Turn) (us : List Turn) → IsBounded s → IsUsable s t → All (IsUsable s) us → Misses t us
    → walk_cost curve s.net s.step (bumped t s.step s.flow) us ≤ℤ walk_cost curve s.net s.step s.flow us
walk_cost-step curve convex s t [] h ut a m = omega (arith, ints)
walk_cost-step curve convex s t (u ∷ us) h ut a m =
    omega (
      arith,
      ints,
      turn_cost-step curve convex s t u h ut (All-head (IsUsable s) u us a) m.0,
      walk_cost-step curve convex s t us h ut (All-tail (IsUsable s) u us a) m.1,
    )

-- the cost after a step along a walk on which no turn comes twice
pub cost-moved : (curve : ℤ → ℤ) → IsConvex curve → (s : Space) (ts : List Turn) → IsBounded s → All (IsUsable s) ts → IsDistinct ts
    → cost curve s.net (moved ts s.step s.flow) ≤ℤ (cost curve s.net s.flow +ℤ walk_cost curve s.net s.step s.flow ts)
cost-moved curve convex s [] h a d = omega (arith, ints)
cost-moved curve convex s (t ∷ ts) h a d =
    let u = All-head (IsUsable s) t ts a in
    let rest = All-tail (IsUsable s) t ts a in
    omega (
      arith,
      ints,
      cost-bumped curve s.net s.flow s.step t u.arc h.length_is,
      cost-moved curve convex (after s (t ∷ [])) ts (bounded-step s t h u) (all_usable-step s t ts h u rest d.0) d.1,
      walk_cost-step curve convex s t ts h u rest d.0,
    )

-- a circulation is within the bounds of its net
pub bounded-circulation : (net : Network) (flow : List ℕ) (d : ℕ) → IsCirculation net flow → IsBounded (net_space net flow d)
bounded-circulation net flow d h = record { length_is = h.count; low = λ k l. (h.within k l).0; high = λ k l. (h.within k l).1 }

-- and stays a circulation after a step along a closed walk on which no turn comes twice
pub circulation-moved : (net : Network) (flow : List ℕ) (d a : ℕ) (ts : List Turn) → IsCirculation net flow → IsWalk (net_space net flow d) a ts a → IsDistinct ts
    → IsCirculation net (moved ts d flow)
circulation-moved net flow d a ts h w apart =
    let s : Space = net_space net flow d in
    let b = bounded-moved s ts (bounded-circulation net flow d h) w.usable apart in
    let able = able_of_usable s ts (bounded-circulation net flow d h) w.usable apart in
    record {
      count = b.length_is;
      within = λ k l. (b.low k l, b.high k l);
      balanced = λ v l. let e = excess-moved net ts flow d a a v h.count w.follows able in let f = h.balanced v l in omega (arith, ints);
    }

-- and costs at most the walk's cost more
pub cost-circulation : (curve : ℤ → ℤ) → IsConvex curve → (net : Network) (flow : List ℕ) (d a b : ℕ) (ts : List Turn) → IsCirculation net flow → IsWalk (net_space net flow d) a ts b → IsDistinct ts
    → cost curve net (moved ts d flow) ≤ℤ (cost curve net flow +ℤ walk_cost curve net d flow ts)
cost-circulation curve convex net flow d a b ts h w apart = cost-moved curve convex (net_space net flow d) ts (bounded-circulation net flow d h) w.usable apart

-- an arc that the walk doesn't pass keeps its flow
pub flow-avoided : (ts : List Turn) (d k : ℕ) (flow : List ℕ) → AvoidsArc k ts → slice_index (moved ts d flow) k ≡ slice_index flow k
flow-avoided [] d k flow a = refl
flow-avoided (t ∷ ts) d k flow a =
    flow-avoided ts d k (bumped t d flow) a.1 ∙ flow-other flow t.arc k (stepped t d (slice_index flow t.arc)) (λ e. a.0 (sym e))

-- one that it passes once has one step more or less
pub flow-passed : (ts : List Turn) (d : ℕ) (flow : List ℕ) → IsApart ts → All (λ (t : Turn). t.arc < length flow) ts
    → All (λ (t : Turn). slice_index (moved ts d flow) t.arc ≡ stepped t d (slice_index flow t.arc)) ts
flow-passed [] d flow a l = All-nil (λ (t : Turn). slice_index (moved [] d flow) t.arc ≡ stepped t d (slice_index flow t.arc))
flow-passed (t ∷ ts) d flow a l =
    let within : All (λ (u : Turn). u.arc < length flow) ts = All-tail (λ (u : Turn). u.arc < length flow) t ts l in
    let here = flow-avoided ts d t.arc (bumped t d flow) a.0 ∙ flow-bumped t d flow (All-head (λ (u : Turn). u.arc < length flow) t ts l) in
    let later = flow-passed ts d (bumped t d flow) a.1 (λ k e m. rw length-bumped (within k e m)) in
    All-cons (λ (u : Turn). slice_index (moved (t ∷ ts) d flow) u.arc ≡ stepped u d (slice_index flow u.arc)) t ts here
    (λ k e m. later k e m ∙ ap (stepped (get_or ts k e) d) (flow-other flow t.arc (get_or ts k e).arc (stepped t d (slice_index flow t.arc)) (avoided ts k e m a.0)))
  where
    avoided : (us : List Turn) (k : ℕ) (e : Turn) → k < length us → AvoidsArc t.arc us → (get_or us k e).arc ≡ t.arc → ⊥
    avoided [] k e m b = absurd (omega arith)
    avoided (u ∷ us) zero e m b = b.0
    avoided (u ∷ us) (suc k) e m b = avoided us k e (omega arith) b.1
