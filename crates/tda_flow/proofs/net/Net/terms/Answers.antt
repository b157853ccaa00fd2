use Rattle.std.proofs.Common.{◌≡◌, length, ap, sym, subst, ◌∙◌, arith}
use Rattle.std.proofs.lemmas.List.{length-map}
use Rattle.tda_flow.specs.Network.{terms_at, AreNetTerms, IsSound}
use Rattle.tda_flow.specs.Lanes.{arc_of}
use Rattle.tda_flow.proofs.Cuts.{terms_at-seen}
use Rattle.tda_flow.proofs.net.Net.terms.Goals as goal

pub returns-clause-value : goal.returns-clause-value
returns-clause-value c =
    let lanes = c.self.inside.lanes.items in
    let in_range = ap (λ n. length n.arcs) c.self.view_is in
    let count : c.len.result ≡ length c.self.inside.terms.items = c.len.ensures ∙ c.self.inside.terms.ok.0 in
    terms_at-seen c.self.inside.nodes lanes c.self.inside.terms.items c.args.i c.deref.result.now c.deref-2.result.now c.len.result _ _
    (omega (arith, c.requires, length-map lanes arc_of, in_range)) c.deref.ensures.value c.deref-2.ensures.value count c.terms_of-start.ensures.start c.terms_of-start.ensures.end
    ∙ ap (λ net. terms_at net c.args.i) c.self.view_is

pub returns-clause-sound : goal.returns-clause-sound
returns-clause-sound c =
    let sound = subst (λ net. IsSound net) c.self.view_is c.self.invariant.sound in
    subst (λ ts. AreNetTerms ts) (sym (returns-clause-value c)) (sound.terms c.args.i c.requires)
