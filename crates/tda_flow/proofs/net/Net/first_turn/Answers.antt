use Rattle.std.proofs.Common.{◌≡◌, ◌*◌, sym, ap, subst, ◌∙◌}
use Rattle.tda_flow.specs.Network.{arc_count}
use Rattle.tda_flow.specs.Turns.{IsLastBelow}
use Rattle.tda_flow.specs.Links.{head_at}
use Rattle.tda_flow.specs.NetView.{network_of}
use Rattle.tda_flow.proofs.net.Net.first_turn.Goals as goal

pub returns : goal.returns
returns c =
    let net = network_of c.self.inside in
    let is : c.first_at.result ≡ head_at c.self.inside.heads.items c.args.node = c.first_at.ensures ∙ ap (λ heads. head_at heads c.args.node) c.deref.ensures.value in
    subst (λ n. IsLastBelow n c.args.node (2 * arc_count n) c.first_at.result) c.self.view_is
    (subst (λ z. IsLastBelow net c.args.node (2 * arc_count net) z) (sym is) (c.self.invariant.heads_last c.args.node))
