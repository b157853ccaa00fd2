use Rattle.std.proofs.Common.{length, ap, subst, arith}
use Rattle.std.proofs.lemmas.List.{length-map}
use Rattle.tda_flow.specs.Network.{IsArcOf}
use Rattle.tda_flow.specs.Lanes.{arc_of}
use Rattle.tda_flow.proofs.Sound.{lane_sound}
use Rattle.tda_flow.proofs.net.Net.arc.Goals as goal

pub returns-clause-sound : goal.returns-clause-sound
returns-clause-sound c =
    let view = c.self.view_is in
    let in_range = ap (λ n. length n.arcs) view in
    let lane = c.index.result.now in
    subst (λ n. IsArcOf n.nodes lane.arc) view
    (lane_sound c.self.inside.nodes c.self.inside.lanes.items c.self.inside.terms.items c.args.i lane c.self.invariant.sound (omega (arith, c.requires, length-map c.self.inside.lanes.items arc_of, in_range)) c.index.ensures)
