use Rattle.std.proofs.Common.{arith}
use Rattle.tda_places.proofs.Sizes.{all_are}
use Rattle.tda_places.proofs.spot.spot_at.Goals as goal

pub level_of_index-level-requires-clause-index : goal.level_of_index-level-requires-clause-index
level_of_index-level-requires-clause-index c = omega (arith, all_are c.args.schema.now c.args.spine.now, c.requires.index)
