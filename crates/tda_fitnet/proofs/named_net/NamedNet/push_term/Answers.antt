-- One more term on the last arc.
use Rattle.std.proofs.Common.{ap, ◌∙◌, ◌++◌, ◌∷◌, [], length, arith}
use Rattle.tda_fitnet.specs.NamedNetwork.{with_names, more_term}
use Rattle.tda_fitnet.proofs.Beside.{last_terms, named_term}
use Rattle.tda_fitnet.proofs.named_net.NamedNet.push_term.Goals as goal

pub push_term-requires-clause-room : goal.push_term-requires-clause-room
push_term-requires-clause-room c =
    let l = c.requires.last in
    let e = ap length (last_terms c.self.inside.net c.self.inside.names.items c.self.invariant l.0 l.1 (ap (λ n. n.arcs) c.self.view_is ∙ l.2)) in
    omega (arith, e, l.3)

pub returns : goal.returns
returns c before last e =
    ap (λ net. with_names net c.self.inside.names.items) c.in_ok-push_term.ensures.ok
    ∙ named_term c.self.inside.net c.self.inside.names.items c.self.invariant before last (ap (λ n. n.arcs) c.self.view_is ∙ e) c.args.term
    ∙ ap (λ n. record { nodes = n.nodes; arcs = before ++ more_term last c.args.term ∷ [] }) c.self.view_is
