use Rattle.std.proofs.Common.{◌∙◌}
use Rattle.tda_scale.proofs.Improving.{gains_both}
use Rattle.tda_scale.proofs.phase.drain.Goals as goal

pub returns-then-not-improve-clause-room : goal.returns-then-not-improve-clause-room
returns-then-not-improve-clause-room c n m h = c.improve.ensures.room n m (c.loop-flow.invariant.room n m h)

pub returns-then-not-improve-clause-gains : goal.returns-then-not-improve-clause-gains
returns-then-not-improve-clause-gains c =
    gains_both c.args.source c.args.tables.now.spots.items c.loop-flow.tables.spots.items c.improve.new.tables.spots.items c.loop-flow.invariant.gains c.improve.ensures.gains

pub loop-flow-preserved : goal.loop-flow-preserved
loop-flow-preserved c =
    let i = c.loop-flow.invariant in
    let e = c.improve.ensures in
    record {
      ready = e.ready;
      gains = gains_both c.args.source c.args.tables.now.spots.items c.loop-flow.tables.spots.items c.improve.new.tables.spots.items i.gains e.gains;
      floor = λ b h. e.floor b (i.floor b h);
      shut = e.shut c.if-not-improve.false ∙ i.shut;
      room = λ n m h. e.room n m (i.room n m h);
    }
