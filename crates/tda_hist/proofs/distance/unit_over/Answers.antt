use Rattle.std.proofs.Common.{◌+◌, ◌∙◌, arith, sym, subst}
use Rattle.tda_hist.proofs.Climbing.{IsAbove, above_start, above_more, never_none}
use Rattle.tda_hist.proofs.distance.unit_over.Goals as goal
use Rattle.tda_hist.proofs.distance.unit_over.Goals.{in-Some, in_default}

pub loop-init : goal.loop-init
loop-init c = above_start c.args.spine.now c.requires.sound.tree c.args.block c.args.level c.requires.block.here

pub parent-requires : goal.parent-requires
parent-requires c = c.loop.invariant.here

pub loop-preserved : goal.loop-preserved
loop-preserved c =
    let more = above_more c.args.spine.now c.requires.sound.tree c.args.block c.args.level c.requires.block.here c.loop.unit c.loop.counter c.loop.invariant in
    let never = never_none c.args.spine.now c.requires.sound.tree c.args.block c.args.level c.requires.block.here c.loop.unit c.loop.counter c.loop.invariant in
    elim c.match-parent.branch [
      | in-Some w ↦ subst (λ u. IsAbove c.args.spine.now c.args.block c.args.level u (c.loop.counter + 1)) (sym w.unit-is) (more w.in-Some.parent (sym c.parent.ensures.value ∙ w.in-Some.is))
      | in_default w ↦ absurd (never (omega (arith, c.loop-test.true, c.level-end.ensures)) (sym c.parent.ensures.value ∙ w.in_default.is))
    ]

pub returns-clause-unit : goal.returns-clause-unit
returns-clause-unit c = c.loop.invariant.here

pub returns-clause-level : goal.returns-clause-level
returns-clause-level c =
    omega (arith, c.loop.invariant.level_is, c.loop-test.false, c.loop.auto.counter, c.loop.auto.counter-end, c.level-end.ensures, c.requires.block.last, c.requires.level)

pub returns-clause-over : goal.returns-clause-over
returns-clause-over c = c.loop.invariant.over
