-- The kinds so far.
use Rattle.std.proofs.Common.{◌≡◌, ◌++◌, ◌+◌, List, ℤ, length}
use Rattle.tda_model.specs.Spine.{Spine}
use Rattle.tda_invar.specs.Known.{IsJoined}
use Rattle.tda_fitnet.specs.Layout.{row}
use Rattle.tda_fitnet.specs.Inputs.{inputs_of}
use Rattle.tda_fitnet.specs.Arcs.{share_arc}
use Rattle.tda_fitnet.proofs.root.push_state_shares.Given as goal

abbrev pub invariant-loop-kind : goal.invariant-loop-kind
invariant-loop-kind l =
    (l.fit.nodes ≡ l.fn.fit.nodes)
    × (length l.fit.arcs ≡ length l.fn.fit.arcs + l.kind)
    × ((sp : Spine) (m : List ℤ) → IsJoined l.fn.schema sp l.fn.inv → l.fit.arcs ≡ l.fn.fit.arcs ++ row l.kind (share_arc (inputs_of l.fn.schema sp l.fn.inv m) l.fn.layout l.fn.n l.fn.state))
