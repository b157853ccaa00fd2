use Rattle.std.proofs.Common.{arith}
use Rattle.std.proofs.lemmas.Int.{ints}
use Rattle.tda_scale.proofs.Tracking.{shifted}
use Rattle.tda_scale.proofs.pieces.shift.Goals as goal

pub returns : goal.returns
returns c =
    shifted c.args.step c.args.from c.args.to _ _ c.args.spots.now c.gain.new.spots c.gain-2.new.spots c.requires.from c.requires.to
    (let s = c.requires.step in omega (arith, ints)) (let s = c.requires.step in omega (arith, ints)) c.gain.ensures c.gain-2.ensures
