use Rattle.std.proofs.Common.{◌∙◌, sym, arith}
use Rattle.tda_spine.proofs.Fits.{inner_at, small_here, large_here, none_large}
use Rattle.tda_spine.proofs.spine.Spine.first_large_fit.Goals as goal

pub has_large_split-requires-clause-parent : goal.has_large_split-requires-clause-parent
has_large_split-requires-clause-parent c =
    inner_at c.args.self.now c.requires.sound.tree c.parents-parent-items.result.now c.parents-parent-items.ensures.value c.loop-parent.parent-index (omega arith)

pub returns-then-has_large_split : goal.returns-then-has_large_split
returns-then-has_large_split c =
    large_here c.args.schema.now c.args.self.now c.parents-parent-items.result.now c.parents-parent-items.ensures.value c.loop-parent.parent-index c.loop-parent.invariant
    (sym c.has_large_root.ensures ∙ c.if-has_large_root.false) (omega arith) (sym c.has_large_split.ensures ∙ c.if-has_large_split.true)

pub loop-parent-preserved : goal.loop-parent-preserved
loop-parent-preserved c =
    small_here c.args.schema.now c.args.self.now c.parents-parent-items.result.now c.parents-parent-items.ensures.value c.loop-parent.parent-index c.loop-parent.invariant
    (omega arith) (sym c.has_large_split.ensures ∙ c.if-has_large_split.false)

pub returns : goal.returns
returns c =
    none_large c.args.schema.now c.args.self.now c.parents-parent-items.result.now c.parents-parent-items.ensures.value c.loop-parent.parent-index c.loop-parent.invariant
    (sym c.has_large_root.ensures ∙ c.if-has_large_root.false) (omega arith)
