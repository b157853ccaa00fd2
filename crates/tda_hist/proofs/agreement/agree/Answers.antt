use Rattle.std.proofs.Common.{◌∙◌, ◌-◌, ap, sym}
use Rattle.tda_model.specs.Spine.{units_at}
use Rattle.tda_out.specs.Counts.{count_at}
use Rattle.tda_io.specs.Due.{none_of}
use Rattle.tda_invar.proofs.UnitLemmas.{units_within}
use Rattle.tda_hist.specs.Agreement.{block_faults}
use Rattle.tda_hist.proofs.Agreeing.{empty_here, first_found, all_empty, join_accepts}
use Rattle.tda_hist.proofs.KindCells.{some_kind}
use Rattle.tda_hist.proofs.agreement.agree.Goals as goal

pub block_fault-requires-clause-block : goal.block_fault-requires-clause-block
block_fault-requires-clause-block c =
    let sp = c.args.spine.now in
    let blocks = c.at_level-block-items.ensures ∙ ap (λ n. units_at sp (n - 1)) (c.levels.ensures.count ∙ sym c.requires.belong) in
    rw blocks (units_within sp (sp.depth - 1) c.loop-block.block-index 0 (rw blocks at c.loop-block-test.true))

pub returns-in-Some-clause-due : goal.returns-in-Some-clause-due
returns-in-Some-clause-due c =
    let sp = c.args.spine.now in
    let blocks = c.at_level-block-items.ensures ∙ ap (λ n. units_at sp (n - 1)) (c.levels.ensures.count ∙ sym c.requires.belong) in
    ap none_of
    (first_found (block_faults c.args.schema.now c.args.facilities.now (count_at c.args.tables.now)) (units_at sp (sp.depth - 1)) c.loop-block.block-index c.loop-block.invariant 0
    (rw blocks at c.loop-block-test.true) c.in-Some.fault (sym c.in-Some.is ∙ rw blocks at c.block_fault.ensures))

pub loop-block-preserved : goal.loop-block-preserved
loop-block-preserved c =
    let sp = c.args.spine.now in
    let blocks = c.at_level-block-items.ensures ∙ ap (λ n. units_at sp (n - 1)) (c.levels.ensures.count ∙ sym c.requires.belong) in
    empty_here (block_faults c.args.schema.now c.args.facilities.now (count_at c.args.tables.now)) (units_at sp (sp.depth - 1)) c.loop-block.block-index c.loop-block.invariant 0
    (rw blocks at c.loop-block-test.true) (sym c.in_default.is ∙ rw blocks at c.block_fault.ensures)

pub returns-clause-due : goal.returns-clause-due
returns-clause-due c =
    let sp = c.args.spine.now in
    let blocks = c.at_level-block-items.ensures ∙ ap (λ n. units_at sp (n - 1)) (c.levels.ensures.count ∙ sym c.requires.belong) in
    ap none_of
    (all_empty (block_faults c.args.schema.now c.args.facilities.now (count_at c.args.tables.now)) (units_at sp (sp.depth - 1)) c.loop-block.block-index c.loop-block.invariant
    (rw blocks at c.loop-block-test.false))

pub returns-clause-join : goal.returns-clause-join
returns-clause-join c = λ adds.
    let sp = c.args.spine.now in
    let blocks = c.at_level-block-items.ensures ∙ ap (λ n. units_at sp (n - 1)) (c.levels.ensures.count ∙ sym c.requires.belong) in
    join_accepts c.args.schema.now sp c.units.ensures.sound.tree c.args.facilities.now (count_at c.args.tables.now)
    (sym (all_empty (block_faults c.args.schema.now c.args.facilities.now (count_at c.args.tables.now)) (units_at sp (sp.depth - 1)) c.loop-block.block-index c.loop-block.invariant
    (rw blocks at c.loop-block-test.false)))
    (some_kind c.args.schema.now c.levels.ensures.limits) adds
