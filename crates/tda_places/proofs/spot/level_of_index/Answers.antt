use Rattle.std.proofs.Common.{arith}
use Rattle.tda_places.specs.Spots.{level_size}
use Rattle.tda_places.proofs.Nested.{sum_more}
use Rattle.tda_places.proofs.spot.level_of_index.Goals as goal

pub loop-level-preserved : goal.loop-level-preserved
loop-level-preserved c =
    let more = sum_more (level_size c.args.schema.now c.args.spine.now) c.loop-level.level in
    omega (arith, more, c.loop-level.invariant, c.level_count-count.ensures.count)
