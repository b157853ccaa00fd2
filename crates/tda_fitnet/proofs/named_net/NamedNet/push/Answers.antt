-- One more arc with its name.
use Rattle.std.proofs.Common.{ap, ◌∙◌, ◌≡◌, ◌++◌, ◌∷◌, [], length, arith}
use Rattle.tda_flow.specs.Network.{with_arc}
use Rattle.tda_fitnet.specs.NamedNetwork.{with_names, with_named_arc}
use Rattle.tda_fitnet.proofs.Beside.{count_back, named_more}
use Rattle.tda_fitnet.proofs.named_net.NamedNet.push.Goals as goal
use Rattle.tda_fitnet.proofs.named_net.NamedNet.push.Goals.{After-unwrap}

pub push_arc-requires-clause-room : goal.push_arc-requires-clause-room
push_arc-requires-clause-room c = omega (arith, count_back c.self.inside.net c.self.inside.names.items c.self.invariant, ap (λ n. length n.arcs) c.self.view_is, c.requires.room)

names_are : (c : After-unwrap) → c.push.new.self.items ≡ c.self.inside.names.items ++ c.args.name ∷ []
names_are c =
    let items = rw c.unwrap.ensures at c.push.ensures.items in
    items ∙ ap (λ xs. xs ++ c.args.name ∷ []) c.in_ok-reserve.ensures.items

pub returns : goal.returns
returns c =
    ap (λ net. with_names net c.push.new.self.items) c.in_ok-push_arc.ensures.ok
    ∙ ap (with_names (with_arc c.self.inside.net c.args.arc)) (names_are c)
    ∙ named_more c.self.inside.net c.self.inside.names.items c.self.invariant c.args.name c.args.arc
    ∙ ap (λ n. with_named_arc n (record { name = c.args.name; arc = c.args.arc; terms = [] })) c.self.view_is
