use Rattle.std.proofs.Common.{ap, length, arith}
use Rattle.tda_model.specs.Spine.{is_child}
use Rattle.tda_spine.proofs.Numbers.{length-kept-le}
use Rattle.tda_spine.proofs.spine.Spine.has_large_split.Goals as goal

pub overflow_add-level : goal.overflow_add-level
overflow_add-level c = omega (arith, c.level.ensures, c.requires.parent.above, c.requires.sound.shallow)

pub is_large_split-requires-clause-children : goal.is_large_split-requires-clause-children
is_large_split-requires-clause-children c =
    let sp = c.args.self.now in
    omega (arith, ap length c.children.ensures, length-kept-le (is_child sp c.args.parent) (length sp.units), c.requires.sound.few)
