use Rattle.std.proofs.Common.{◌-◌, ◌<◌, length, ap, sym, subst, ◌∙◌, arith}
use Rattle.std.proofs.lemmas.List.{length-map}
use Rattle.tda_flow.specs.Network.{Network, arc_count, terms_at, with_term}
use Rattle.tda_flow.specs.Lanes.{arc_of}
use Rattle.tda_flow.specs.NetView.{seen, IsKeptBy}
use Rattle.tda_flow.proofs.Cuts.{seen-push_term}
use Rattle.tda_flow.proofs.Kept.{kept-push_term}
use Rattle.tda_flow.proofs.net.Net.push_term.Goals as goal

pub invariant_of-self-2 : goal.invariant_of-self-2
invariant_of-self-2 c =
    let nodes = c.self.inside.nodes in
    let lanes = c.self.inside.lanes.items in
    let terms = c.self.inside.terms.items in
    let all = c.self.inside.links.items in
    let heads = c.self.inside.heads.items in
    let some = subst (λ (n : Network). 0 < arc_count n) (sym c.self.view_is) c.requires.some in
    let room = subst (λ (n : Network). length (terms_at n (arc_count n - 1)) < 8) (sym c.self.view_is) c.requires.room in
    subst (λ z. IsKeptBy (seen nodes lanes z) lanes all z heads) (sym c.in_ok-push.ensures.items)
    (kept-push_term nodes lanes all terms heads c.args.term c.self.invariant some c.requires.fits room)

pub returns-clause-ok : goal.returns-clause-ok
returns-clause-ok c =
    let nodes = c.self.inside.nodes in
    let lanes = c.self.inside.lanes.items in
    let terms = c.self.inside.terms.items in
    let some = subst (λ (n : Network). 0 < arc_count n) (sym c.self.view_is) c.requires.some in
    ap (λ z. seen nodes lanes z) c.in_ok-push.ensures.items
    ∙ seen-push_term nodes lanes terms c.args.term c.self.invariant.order (omega (arith, length-map lanes arc_of))
    ∙ ap (λ net. with_term net c.args.term) c.self.view_is
