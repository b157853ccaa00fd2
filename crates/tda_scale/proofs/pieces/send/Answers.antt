use Rattle.tda_scale.proofs.Tracking.{excess_small, sent_piece, tracked_sent}
use Rattle.tda_scale.proofs.pieces.send.Goals as goal

pub move_along-requires : goal.move_along-requires
move_along-requires c = record {
  room = (sent_piece c.args.net.now c.args.walk.now c.args.from c.args.to c.args.step c.args.flow.now c.args.spots.now c.arcs-arcs.ensures.sound c.requires.walk c.requires.apart c.requires.tracked).can;
}

pub shift-requires-clause-small : goal.shift-requires-clause-small
shift-requires-clause-small c v = excess_small c.args.net.now c.args.flow.now c.args.spots.now v c.arcs-arcs.ensures.sound c.requires.tracked

pub returns-clause-tracked : goal.returns-clause-tracked
returns-clause-tracked c =
    tracked_sent c.args.net.now c.args.walk.now c.args.from c.args.to c.args.step c.args.flow.now c.move_along.new.flow c.args.spots.now c.shift.new.spots
    (sent_piece c.args.net.now c.args.walk.now c.args.from c.args.to c.args.step c.args.flow.now c.args.spots.now c.arcs-arcs.ensures.sound c.requires.walk c.requires.apart c.requires.tracked)
    c.requires.tracked c.move_along.ensures.flow c.shift.ensures
