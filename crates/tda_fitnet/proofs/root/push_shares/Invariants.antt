-- The states so far.
use Rattle.std.proofs.Common.{◌≡◌, ◌++◌, ◌+◌, ◌*◌, List, ℤ, length, slice_index}
use Rattle.tda_model.specs.Spine.{units_at}
use Rattle.tda_fitnet.specs.Layout.{rows}
use Rattle.tda_fitnet.specs.Inputs.{inputs_of}
use Rattle.tda_fitnet.specs.Arcs.{share_arc}
use Rattle.tda_fitnet.proofs.root.push_shares.Given as goal

abbrev pub invariant-loop-n : goal.invariant-loop-n
invariant-loop-n l =
    (l.fit.nodes ≡ l.fn.fit.nodes)
    × (length l.fit.arcs ≡ length l.fn.fit.arcs + l.n * l.fn.layout.kinds)
    × ((m : List ℤ) → l.fit.arcs ≡ l.fn.fit.arcs ++ rows l.n l.fn.layout.kinds (λ n. share_arc (inputs_of l.fn.schema l.fn.spine l.fn.inv m) l.fn.layout n (slice_index (units_at l.fn.spine 1) n)))
