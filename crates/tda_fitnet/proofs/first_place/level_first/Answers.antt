use Rattle.std.proofs.Common.{arith}
use Rattle.tda_places.specs.Spots.{level_size}
use Rattle.tda_places.proofs.Nested.{sum_more}
use Rattle.tda_fitnet.proofs.first_place.level_first.Goals as goal

pub loop-earlier-preserved : goal.loop-earlier-preserved
loop-earlier-preserved c =
    let more = sum_more (level_size c.args.schema.now c.args.spine.now) c.loop-earlier.earlier in
    record {
      count = omega (arith, more, c.loop-earlier.invariant.count, c.level_places-first.ensures.size);
      few = omega (arith, c.loop-earlier.invariant.few, c.level_places-first.ensures.few);
    }
