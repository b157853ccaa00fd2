use Rattle.std.proofs.Common.{sym, ap, ◌∙◌}
use Rattle.tda_fitnet.specs.NamedNetwork.{net_of}
use Rattle.tda_fitnet.proofs.Beside.{net_back}
use Rattle.tda_fitnet.proofs.named_net.NamedNet.net.Goals as goal

pub returns-clause-value : goal.returns-clause-value
returns-clause-value c = sym (ap net_of (sym c.self.view_is) ∙ net_back c.self.inside.net c.self.inside.names.items c.self.invariant)
