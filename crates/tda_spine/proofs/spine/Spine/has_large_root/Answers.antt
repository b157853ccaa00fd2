use Rattle.std.proofs.Common.{ap, length, arith}
use Rattle.tda_model.specs.Spine.{is_at}
use Rattle.tda_spine.proofs.Numbers.{length-kept-le}
use Rattle.tda_spine.proofs.spine.Spine.has_large_root.Goals as goal

pub at_level-requires : goal.at_level-requires
at_level-requires c = omega (arith, c.requires.sound.tree.deep)

pub groups-requires : goal.groups-requires
groups-requires c = omega (arith, c.requires.sound.tree.deep, c.requires.depth)

pub is_large_root-requires-clause-states : goal.is_large_root-requires-clause-states
is_large_root-requires-clause-states c =
    let sp = c.args.self.now in
    omega (arith, ap length c.at_level.ensures, length-kept-le (is_at sp 1) (length sp.units), c.requires.sound.few)
