use Rattle.std.proofs.Common.{◌<◌, refl, get_or}
use Rattle.std.proofs.lemmas.List.Elements.{All-get_or}
use Rattle.tda_flow.specs.Network.{arc_count}
use Rattle.tda_scale.specs.Spots.{no_turn}
use Rattle.tda_scale.proofs.Quoted.{requoted}
use Rattle.tda_scale.proofs.quotes.requote.Goals as goal

pub loop-turn-preserved : goal.loop-turn-preserved
loop-turn-preserved c =
    let n = c.loop-turn.turn-index in
    requoted c.args.body.now.net.now c.args.body.now.slopes.now c.args.step c.args.flow.now c.args.walk.now n (get_or c.args.walk.now n no_turn).arc c.loop-turn.quotes c.quote_at.result c.arc.result
    c.loop-turn-test.true refl (All-get_or (λ t. t.arc < arc_count c.args.body.now.net.now) c.args.walk.now n no_turn c.loop-turn-test.true c.requires.arcs) c.arc.ensures.value c.loop-turn.invariant c.quote_at.ensures
