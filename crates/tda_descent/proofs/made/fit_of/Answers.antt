use Rattle.tda_loss.specs.Curve.{value_of}
use Rattle.tda_descent.proofs.Prices.{made}
use Rattle.tda_descent.proofs.made.fit_of.Goals as goal

pub returns-clause-made : goal.returns-clause-made
returns-clause-made g c =
    made (value_of c.args.loss.now.curve) c.args.net.now c.args.flow.now c.args.prices.items _ c.nodes-nodes.ensures.sound c.requires.solved
    c.remove.ensures.items c.flow_deviation-deviation.ensures.value c.flow_deviation-deviation.ensures.limit
