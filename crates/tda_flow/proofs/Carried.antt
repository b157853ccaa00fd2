-- What a step of flow along a walk changes on any net.
use Rattle.std.proofs.Common.{◌≡◌, ℕ, ℤ, ◌-ℤ◌, refl, ap, ◌∙◌, List, [], ◌∷◌, length, slice_index, arith, length-set, set}
use Rattle.std.proofs.lemmas.Int.{ints}
use Rattle.tda_flow.specs.declared.net.Turn.{Turn}
use Rattle.tda_flow.specs.Network.{Network, arc_count, terms_at}
use Rattle.tda_flow.specs.Flow.{arc_cost}
use Rattle.tda_flow.specs.Walk.{stepped, bumped, moved, AvoidsArc, walk_cost, CanMove}
use Rattle.tda_flow.specs.Moved.{ShiftsEnds, StaysBounded, CostsAtMost, CostsExactly, space_on}
use Rattle.tda_flow.proofs.Changes.{flow-other}
use Rattle.tda_flow.proofs.Moves.{IsAble, excess-moved, bounded-moved, cost-moved, cost-bumped}

able : (net : Network) (d : ℕ) (flow : List ℕ) (ts : List Turn) → length flow ≡ arc_count net → CanMove d flow ts → IsAble net d flow ts
able net d flow [] e h = tt
able net d flow (t ∷ ts) e h =
    (omega (arith, h.0), h.1, able net d (bumped t d flow) ts (length-set flow t.arc (stepped t d (slice_index flow t.arc)) ∙ e) h.3)

pub shifts : (ts : List Turn) (d : ℕ) (flow : List ℕ) → CanMove d flow ts → ShiftsEnds ts d flow (moved ts d flow)
shifts ts d flow h net a b v e f = excess-moved net ts flow d a b v e f (able net d flow ts e h)

pub stays : (ts : List Turn) (d : ℕ) (flow : List ℕ) → StaysBounded ts d flow (moved ts d flow)
stays ts d flow net low high h = bounded-moved (space_on net low high d flow) ts h.bounded h.usable h.distinct

pub at_most : (ts : List Turn) (d : ℕ) (flow : List ℕ) → CostsAtMost ts d flow (moved ts d flow)
at_most ts d flow curve convex net low high h = cost-moved curve convex (space_on net low high d flow) ts h.bounded h.usable h.distinct

-- a walk costs the same where the flow changes on an arc that it doesn't pass
walk_cost-other : (curve : ℤ → ℤ) (net : Network) (flow : List ℕ) (d k x : ℕ) (ts : List Turn) → AvoidsArc k ts
    → walk_cost curve net d (set flow k x) ts ≡ walk_cost curve net d flow ts
walk_cost-other curve net flow d k x [] a = refl
walk_cost-other curve net flow d k x (t ∷ ts) a =
    let c : ℕ → ℤ = λ y. arc_cost curve (terms_at net t.arc) (stepped t d y) -ℤ arc_cost curve (terms_at net t.arc) y in
    let here = ap c (flow-other flow k t.arc x a.0) in
    let rest = walk_cost-other curve net flow d k x ts a.1 in
    omega (arith, ints, here, rest)

pub exactly : (ts : List Turn) (d : ℕ) (flow : List ℕ) → CanMove d flow ts → CostsExactly ts d flow (moved ts d flow)
exactly [] d flow h curve net e a = omega (arith, ints)
exactly (t ∷ ts) d flow h curve net e a =
    let x : ℕ = stepped t d (slice_index flow t.arc) in
    let first = cost-bumped curve net flow d t (omega (arith, h.0)) e in
    let rest = exactly ts d (bumped t d flow) h.3 curve net (length-set flow t.arc x ∙ e) a.1 in
    omega (arith, ints, first, rest, walk_cost-other curve net flow d t.arc x ts a.0)
