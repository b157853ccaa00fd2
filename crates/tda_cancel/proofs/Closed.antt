-- A closed walk by steps as a walk over turns.
use Rattle.std.proofs.Common.{◌≡◌, ℕ, List, [], ◌∷◌, All, ℤ, ◌<ℤ◌, refl, sym, subst, ◌∙◌, arith}
use Rattle.std.proofs.lemmas.Int.{ints}
use Rattle.std.proofs.lemmas.List.Elements.{All-nil, All-cons}
use Rattle.tda_loss.specs.Curve.{IsConvex}
use Rattle.tda_flow.specs.declared.net.Turn.{Turn}
use Rattle.tda_flow.specs.Network.{Network, IsSound}
use Rattle.tda_flow.specs.Turns.{turn_from}
use Rattle.tda_flow.specs.Flow.{IsCirculation, cost}
use Rattle.tda_flow.specs.Walk.{IsUsable, IsWalk, Follows, AvoidsStart, IsSimple, IsDistinct, walk_cost, net_space, moved, CanMove}
use Rattle.tda_flow.proofs.Moves.{bounded-circulation, circulation-moved, cost-circulation, can_move}
use Rattle.tda_flow.proofs.Walks.{distinct_of_simple}
use Rattle.tda_cancel.specs.declared.steps.Step.{Step}
use Rattle.tda_cancel.specs.Steps.{step_at, AreSteps}
use Rattle.tda_cancel.specs.Trace.{IsPath, path_cost, path_turns, AvoidsNode, PassesOnce, IsLosing}

path-follows : (curve : ℤ → ℤ) (net : Network) (flow : List ℕ) (n : ℕ) (steps : List Step) → AreSteps curve net flow n steps → (is : List ℕ) (a b : ℕ)
    → IsPath steps a is b → Follows net a (path_turns steps is) b
path-follows curve net flow n steps h [] a b p = p
path-follows curve net flow n steps h (i ∷ is) a b p =
    let s = h.each i p.0 in
    (sym s.from ∙ p.1, subst (λ z. Follows net z (path_turns steps is) b) s.to (path-follows curve net flow n steps h is (step_at steps i).to b p.2))

path-usable : (curve : ℤ → ℤ) (net : Network) (flow : List ℕ) (n : ℕ) (steps : List Step) → AreSteps curve net flow n steps → (is : List ℕ) (a b : ℕ)
    → IsPath steps a is b → All (IsUsable (net_space net flow 1)) (path_turns steps is)
path-usable curve net flow n steps h [] a b p = All-nil (IsUsable (net_space net flow 1))
path-usable curve net flow n steps h (i ∷ is) a b p =
    All-cons (IsUsable (net_space net flow 1)) (step_at steps i).turn (path_turns steps is) (h.each i p.0).usable
    (path-usable curve net flow n steps h is (step_at steps i).to b p.2)

path-cost : (curve : ℤ → ℤ) (net : Network) (flow : List ℕ) (n : ℕ) (steps : List Step) → AreSteps curve net flow n steps → (is : List ℕ) (a b : ℕ)
    → IsPath steps a is b → walk_cost curve net 1 flow (path_turns steps is) ≡ path_cost steps is
path-cost curve net flow n steps h [] a b p = refl
path-cost curve net flow n steps h (i ∷ is) a b p =
    let s = (h.each i p.0).cost in
    omega (arith, ints, path-cost curve net flow n steps h is (step_at steps i).to b p.2)

path-avoids : (curve : ℤ → ℤ) (net : Network) (flow : List ℕ) (n : ℕ) (steps : List Step) → AreSteps curve net flow n steps → (v w : ℕ) → v ≡ w → (is : List ℕ) (a b : ℕ)
    → IsPath steps a is b → AvoidsNode steps v is → AvoidsStart net w (path_turns steps is)
path-avoids curve net flow n steps h v w e [] a b p o = tt
path-avoids curve net flow n steps h v w e (i ∷ is) a b p o =
    (λ q. o.0 ((h.each i p.0).from ∙ q ∙ sym e), path-avoids curve net flow n steps h v w e is (step_at steps i).to b p.2 o.1)

path-simple : (curve : ℤ → ℤ) (net : Network) (flow : List ℕ) (n : ℕ) (steps : List Step) → AreSteps curve net flow n steps → (is : List ℕ) (a b : ℕ)
    → IsPath steps a is b → PassesOnce steps is → IsSimple net (path_turns steps is)
path-simple curve net flow n steps h [] a b p o = tt
path-simple curve net flow n steps h (i ∷ is) a b p o = (
  path-avoids curve net flow n steps h (step_at steps i).from (turn_from net (step_at steps i).turn) (h.each i p.0).from is (step_at steps i).to b p.2 o.0,
  path-simple curve net flow n steps h is (step_at steps i).to b p.2 o.1,
)

-- a unit may be moved along it, leaves a circulation, and lowers the cost
pub record Improves (curve : ℤ → ℤ) (net : Network) (flow : List ℕ) (ts : List Turn) : Type 0 where
  pub can : CanMove 1 flow ts
  pub circulates : IsCirculation net (moved ts 1 flow)
  pub cheaper : cost curve net (moved ts 1 flow) <ℤ cost curve net flow

pub improves : (curve : ℤ → ℤ) → IsConvex curve → (net : Network) (flow : List ℕ) (n : ℕ) (steps : List Step) (ts : List Turn) → IsSound net → IsCirculation net flow
    → AreSteps curve net flow n steps → IsLosing steps ts → Improves curve net flow ts
improves curve convex net flow n steps ts sound c h l =
    let us : List Turn = path_turns steps l.path in
    let w : IsWalk (net_space net flow 1) l.node us l.node = record {
      follows = path-follows curve net flow n steps h l.path l.node l.node l.closed;
      usable = path-usable curve net flow n steps h l.path l.node l.node l.closed;
    } in
    let d : IsDistinct us = distinct_of_simple net us (path-simple curve net flow n steps h l.path l.node l.node l.closed l.simple) in
    subst (λ z. Improves curve net flow z) (sym l.turns) (record {
      can = can_move (net_space net flow 1) us (bounded-circulation net flow 1 c) w.usable d (λ k b. let a = (sound.arcs k b).high in omega arith);
      circulates = circulation-moved net flow 1 l.node us c w d;
      cheaper =
          omega (
            arith,
            ints,
            cost-circulation curve convex net flow 1 l.node l.node us c w d,
            path-cost curve net flow n steps h l.path l.node l.node l.closed,
            l.cost,
          );
    })
