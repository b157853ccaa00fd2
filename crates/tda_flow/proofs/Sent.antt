-- A step of flow that is sent along a least walk.
use Rattle.std.proofs.Common.{◌≡◌, ℕ, ◌<◌, ◌^◌, ◌+ℤ◌, ◌-ℤ◌, List, length, Option, Some}
use Rattle.tda_flow.specs.declared.net.Turn.{Turn}
use Rattle.tda_flow.specs.Network.{arc_count}
use Rattle.tda_flow.specs.Walk.{Space, IsWalk, IsBounded, IsDistinct, moved, after, CanMove}
use Rattle.tda_flow.specs.Reach.{IsSearched}
use Rattle.tda_flow.proofs.Ascent.{least-apart}
use Rattle.tda_flow.proofs.Exchange.{excess}
use Rattle.tda_flow.proofs.Moves.{given, bounded-moved, able_of_usable, can_move, excess-moved}
use Rattle.tda_flow.proofs.Walks.{distinct_of_apart}

-- the step may be taken, stays within the bounds, and changes the excess of the two ends alone
pub record IsSent (s : Space) (ts : List Turn) (a b : ℕ) : Type 0 where
  pub can : CanMove s.step s.flow ts
  pub bounded : IsBounded (after s ts)
  pub gives : (v : ℕ) → excess s.net (moved ts s.step s.flow) v ≡ excess s.net s.flow v +ℤ given s.step b v -ℤ given s.step a v

pub sent-distinct : (s : Space) (ts : List Turn) (a b : ℕ) → IsBounded s → ((k : ℕ) → k < arc_count s.net → s.high k < 2 ^ 64) → IsWalk s a ts b → IsDistinct ts
    → IsSent s ts a b
sent-distinct s ts a b h top w d = record {
  can = can_move s ts h w.usable d top;
  bounded = bounded-moved s ts h w.usable d;
  gives = λ v. excess-moved s.net ts s.flow s.step a b v h.length_is w.follows (able_of_usable s ts h w.usable d);
}

pub sent-least : (s : Space) (start : ℕ) (rank : ℕ → Option ℕ) (last : ℕ → Option Turn) → IsSearched s start rank last → IsBounded s → ((k : ℕ) → k < arc_count s.net → s.high k < 2 ^ 64)
    → (ts : List Turn) (v : ℕ) → IsWalk s start ts v → rank v ≡ Some (length ts) → IsSent s ts start v
sent-least s start rank last found h top ts v w e =
    sent-distinct s ts start v h top w (distinct_of_apart ts (least-apart s start rank last found ts v w e))
