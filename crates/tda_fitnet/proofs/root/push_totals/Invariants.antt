-- The states so far.
use Rattle.std.proofs.Common.{◌≡◌, ◌++◌, ◌+◌, length, slice_index}
use Rattle.tda_model.specs.Spine.{units_at}
use Rattle.tda_invar.specs.Known.{known_of}
use Rattle.tda_fitnet.specs.Layout.{row}
use Rattle.tda_fitnet.specs.Arcs.{source_arc}
use Rattle.tda_fitnet.proofs.root.push_totals.Given as goal

abbrev pub invariant-loop-n : goal.invariant-loop-n
invariant-loop-n l =
    (l.fit.nodes ≡ l.fn.fit.nodes)
    × (length l.fit.arcs ≡ length l.fn.fit.arcs + l.n)
    × (l.fit.arcs ≡ l.fn.fit.arcs ++ row l.n (λ n. source_arc n ((known_of l.spine l.inv).total (slice_index (units_at l.spine 1) n))))
