-- One more cell.
use Rattle.std.proofs.Common.{◌∷◌, [], length, slice_index, ap, ◌∙◌, arith, length-append}
use Rattle.tda_fitnet.specs.Arcs.{source_arc}
use Rattle.tda_fitnet.proofs.OneMore.{row_more}
use Rattle.tda_fitnet.proofs.split.push_counts.Goals as goal

pub push_source-requires-clause-room : goal.push_source-requires-clause-room
push_source-requires-clause-room c = omega (arith, c.loop-r.invariant.1, c.requires.room, c.loop-r-test.true)

pub loop-r-preserved : goal.loop-r-preserved
loop-r-preserved c =
    let arcs = ap (λ n. n.arcs) c.in_ok-push_source.ensures in (
      ap (λ n. n.nodes) c.in_ok-push_source.ensures ∙ c.loop-r.invariant.0,
      ap length arcs ∙ omega (arith, length-append c.loop-r.fit.arcs (source_arc c.loop-r.r (slice_index c.args.table.now (slice_index c.args.cells.now c.loop-r.r)) ∷ []), c.loop-r.invariant.1),
      arcs ∙ row_more _ _ c.loop-r.r (λ r. source_arc r (slice_index c.args.table.now (slice_index c.args.cells.now r))) c.loop-r.invariant.2,
    )
