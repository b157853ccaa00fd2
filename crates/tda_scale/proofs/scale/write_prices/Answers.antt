use Rattle.std.proofs.Common.{arith}
use Rattle.tda_scale.specs.Searching.{price_of}
use Rattle.tda_scale.proofs.Written.{plain-sub, written-more}
use Rattle.tda_scale.proofs.scale.write_prices.Goals as goal

pub loop-v-preserved : goal.loop-v-preserved
loop-v-preserved c =
    let p = price_of c.args.spots.now in
    written-more c.loop-v.prices p (p 0) _ c.loop-v.v (omega arith) (plain-sub (p c.loop-v.v) (p 0) (c.requires.small c.loop-v.v) (c.requires.small 0)) c.loop-v.invariant
