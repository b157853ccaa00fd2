use Rattle.std.proofs.Common.{◌≡◌, ◌++◌, ◌∷◌, [], length, ap, sym, subst, ◌∙◌, arith, refl, set}
use Rattle.std.proofs.lemmas.List.{length-map}
use Rattle.tda_flow.specs.declared.lanes.Lane.{Lane}
use Rattle.tda_flow.specs.declared.links.Link.TheVariants.{Forth, Back}
use Rattle.tda_flow.specs.declared.links.Links.{Links}
use Rattle.tda_flow.specs.Network.{Network, with_arc, IsArcOf}
use Rattle.tda_flow.specs.Lanes.{arc_of}
use Rattle.tda_flow.specs.NetView.{seen, IsKeptBy}
use Rattle.tda_flow.proofs.Cuts.{seen-push_lane}
use Rattle.tda_flow.proofs.Kept.{IsPushed, kept-push_lane}
use Rattle.tda_flow.proofs.net.Net.push_arc.Goals as goal
use Rattle.tda_flow.proofs.net.Net.push_arc.Goals.{After-unwrap-2}

abbrev lane_of : After-unwrap-2 → Lane
lane_of c = record { arc = c.args.arc; first_term = c.len.result }

abbrev links_of : After-unwrap-2 → Links
links_of c = record { from = c.args.arc.from; to = c.args.arc.to; next_forth = c.put_first-next_forth.result; next_back = c.put_first-next_back.result }

pushed : (c : After-unwrap-2) → c.push-2.new.self.items ≡ c.self.inside.lanes.items ++ lane_of c ∷ []
pushed c =
    let items = rw c.unwrap-2.ensures at c.push-2.ensures.items in
    items ∙ ap (λ ls. ls ++ lane_of c ∷ []) c.in_ok-reserve.ensures.items

linked : (c : After-unwrap-2) → c.push.new.self.items ≡ c.self.inside.links.items ++ links_of c ∷ []
linked c =
    let items = rw c.unwrap.ensures at c.push.ensures.items in
    items ∙ ap (λ ls. ls ++ links_of c ∷ []) c.in_ok-reserve-2.ensures.items

begins : (c : After-unwrap-2) → c.len.result ≡ length c.self.inside.terms.items
begins c = c.len.ensures ∙ c.self.inside.terms.ok.0

index : (c : After-unwrap-2) → c.len-index.result ≡ length c.self.inside.lanes.items
index c = c.len-index.ensures ∙ c.reserve.new.self.ok.0 ∙ ap length c.in_ok-reserve.ensures.items

is_pushed : (c : After-unwrap-2)
    → IsPushed c.self.inside.lanes.items (lane_of c) (links_of c) c.self.inside.terms.items c.self.inside.heads.items c.grow-2.new.heads.items c.put_first-next_forth.new.heads.items c.put_first-next_back.new.heads.items
is_pushed c = record {
  begins = begins c;
  ends = record { from = refl; to = refl };
  same = λ v. c.grow-2.ensures.same v ∙ c.grow.ensures.same v;
  room_from = omega (arith, c.in_ok-grow.ensures.room, c.grow-2.ensures.more, c.grow-2.new.heads.ok.0);
  room_to = omega (arith, c.in_ok-grow-2.ensures.room, c.put_first-next_forth.ensures.len, c.put_first-next_forth.new.heads.ok.0);
  next_forth = c.put_first-next_forth.ensures.value;
  first_is = c.put_first-next_forth.ensures.set ∙ ap (λ k. set c.grow-2.new.heads.items c.args.arc.from (Forth k)) (index c);
  next_back = c.put_first-next_back.ensures.value;
  new_is = c.put_first-next_back.ensures.set ∙ ap (λ k. set c.put_first-next_forth.new.heads.items c.args.arc.to (Back k)) (index c);
}

pub invariant_of-self-2 : goal.invariant_of-self-2
invariant_of-self-2 c =
    let nodes = c.self.inside.nodes in
    let lanes = c.self.inside.lanes.items in
    let all = c.self.inside.links.items in
    let terms = c.self.inside.terms.items in
    let old = c.self.inside.heads.items in
    let new = c.put_first-next_back.new.heads.items in
    let view = c.self.view_is in
    let few = ap (λ (n : Network). length n.arcs) view in
    subst (λ z. IsKeptBy (seen nodes z terms) z c.push.new.self.items terms new) (sym (pushed c))
    (subst (λ z. IsKeptBy (seen nodes (lanes ++ lane_of c ∷ []) terms) (lanes ++ lane_of c ∷ []) z terms new) (sym (linked c))
    (kept-push_lane nodes lanes (lane_of c) all (links_of c) terms old c.grow-2.new.heads.items c.put_first-next_forth.new.heads.items new c.self.invariant
    (subst (λ (n : Network). IsArcOf n.nodes c.args.arc) (sym view) c.requires.fits) (omega (arith, few, c.requires.room, length-map lanes arc_of)) (is_pushed c)))

pub returns-clause-ok : goal.returns-clause-ok
returns-clause-ok c =
    let nodes = c.self.inside.nodes in
    let lanes = c.self.inside.lanes.items in
    let terms = c.self.inside.terms.items in
    ap (λ z. seen nodes z terms) (pushed c)
    ∙ seen-push_lane nodes lanes (lane_of c) terms (begins c)
    ∙ ap (λ net. with_arc net c.args.arc) c.self.view_is
