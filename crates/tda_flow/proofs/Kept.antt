-- What the fields of a net keep, after an arc or a term more.
use Rattle.std.proofs.Common.{◌≡◌, ℕ, ◌+◌, ◌-◌, ◌*◌, ◌<◌, ◌^◌, true, false, List, [], ◌∷◌, ◌++◌, length, set, refl, sym, ap, subst, ◌∙◌, arith, length-append}
use Rattle.std.proofs.lemmas.List.{length-map}
use Rattle.tda_flow.specs.declared.net.Term.{Term}
use Rattle.tda_flow.specs.declared.net.Turn.{Turn}
use Rattle.tda_flow.specs.declared.lanes.Lane.{Lane}
use Rattle.tda_flow.specs.declared.links.Link.{Link}
use Rattle.tda_flow.specs.declared.links.Link.TheVariants.{Forth, Back}
use Rattle.tda_flow.specs.declared.links.Links.{Links}
use Rattle.tda_flow.specs.Network.{Network, arc_count, arc_at, terms_at, with_arc, IsArcOf, IsNetTerm, IsSound}
use Rattle.tda_flow.specs.Turns.{IsLastBelow}
use Rattle.tda_flow.specs.Lanes.{arc_of, AreInOrder}
use Rattle.tda_flow.specs.Links.{turn_of, head_at, AreEndsOf}
use Rattle.tda_flow.specs.NetView.{seen, IsKeptBy, AreHeads}
use Rattle.tda_flow.proofs.Cuts.{seen-push_lane, seen-push_term, in_order-push_lane, in_order-push_term}
use Rattle.tda_flow.proofs.Linked.{last-with_arc, last-same_arcs, heads-put_first, links-push_arc, ends-push_arc, arc_at-last}
use Rattle.tda_flow.proofs.Sound.{sound-with_arc, sound-with_term}

-- the turn over arc k, forwards or back
abbrev pub forth : ℕ → Turn
forth k = record { arc = k; back = false }

abbrev pub back : ℕ → Turn
back k = record { arc = k; back = true }

-- what pushing a lane and its links changes
pub record IsPushed (lanes : List Lane) (lane : Lane) (links : Links) (terms : List Term) (old room first new : List Link) : Type 0 where
  pub begins : lane.first_term ≡ length terms
  pub ends : AreEndsOf lane.arc links
  pub same : (v : ℕ) → head_at room v ≡ head_at old v
  pub room_from : lane.arc.from < length room
  pub room_to : lane.arc.to < length first
  pub next_forth : turn_of links.next_forth ≡ head_at room lane.arc.from
  pub first_is : first ≡ set room lane.arc.from (Forth (length lanes))
  pub next_back : turn_of links.next_back ≡ head_at first lane.arc.to
  pub new_is : new ≡ set first lane.arc.to (Back (length lanes))

pub kept-push_lane : (nodes : ℕ) (lanes : List Lane) (lane : Lane) (all : List Links) (links : Links) (terms : List Term) (old room first new : List Link)
    → IsKeptBy (seen nodes lanes terms) lanes all terms old → IsArcOf nodes lane.arc → length lanes < 2 ^ 20 → IsPushed lanes lane links terms old room first new
    → IsKeptBy (seen nodes (lanes ++ lane ∷ []) terms) (lanes ++ lane ∷ []) (all ++ links ∷ []) terms new
kept-push_lane nodes lanes lane all links terms old room first new h fits few p =
    let net : Network = seen nodes lanes terms in
    let next : Network = with_arc net lane.arc in
    let count : length lanes ≡ arc_count net = sym (length-map lanes arc_of) in
    let more : arc_count next ≡ arc_count net + 1 = length-append net.arcs (lane.arc ∷ []) in
    let last : arc_at next (length lanes) ≡ lane.arc = ap (λ k. arc_at next k) count ∙ arc_at-last net lane.arc in
    let start : AreHeads next (2 * arc_count net) room =
    λ v. last-with_arc net lane.arc v _ _ (omega arith) (subst (λ z. IsLastBelow net v (2 * arc_count net) z) (sym (p.same v)) (h.heads_last v)) in
    let between : AreHeads next (2 * arc_count net + 1) first =
    subst (λ z. AreHeads next (2 * arc_count net + 1) z) (sym p.first_is)
    (heads-put_first next (2 * arc_count net) room (Forth (length lanes)) (forth (length lanes)) lane.arc.from start refl (omega arith) (omega arith) (ap (λ a. a.from) last) p.room_from) in
    let end : AreHeads next (2 * arc_count net + 1 + 1) new =
    subst (λ z. AreHeads next (2 * arc_count net + 1 + 1) z) (sym p.new_is)
    (heads-put_first next (2 * arc_count net + 1) first (Back (length lanes)) (back (length lanes)) lane.arc.to between refl (omega arith) (omega arith) (ap (λ a. a.to) last) p.room_to) in
    let number : 2 * arc_count net + 1 + 1 ≡ 2 * arc_count next = omega arith in
    subst (λ z. IsKeptBy z (lanes ++ lane ∷ []) (all ++ links ∷ []) terms new) (sym (seen-push_lane nodes lanes lane terms p.begins)) (record {
      sound = sound-with_arc net lane.arc h.sound fits (omega arith);
      order = in_order-push_lane lanes lane (length terms) h.order p.begins;
      heads_last = subst (λ z. AreHeads next z new) number end;
      links_count = let e = h.links_count in omega (arith, length-append all (links ∷ []));
      links_ends = ends-push_arc net lane.arc all links h.links_count h.links_ends p.ends;
      links_last =
          links-push_arc net lane.arc all links h.links_count h.links_last
          (subst (λ z. IsLastBelow next lane.arc.from (2 * arc_count net) z) (sym p.next_forth) (start lane.arc.from))
          (subst (λ z. IsLastBelow next lane.arc.to (2 * arc_count net + 1) z) (sym p.next_back) (between lane.arc.to));
    })

pub kept-push_term : (nodes : ℕ) (lanes : List Lane) (all : List Links) (terms : List Term) (heads : List Link) (term : Term)
    → IsKeptBy (seen nodes lanes terms) lanes all terms heads → 0 < arc_count (seen nodes lanes terms) → IsNetTerm term
    → length (terms_at (seen nodes lanes terms) (arc_count (seen nodes lanes terms) - 1)) < 8
    → IsKeptBy (seen nodes lanes (terms ++ term ∷ [])) lanes all (terms ++ term ∷ []) heads
kept-push_term nodes lanes all terms heads term h some fits room =
    let net : Network = seen nodes lanes terms in
    let next : Network = seen nodes lanes (terms ++ term ∷ []) in
    let any : 0 < length lanes = omega (arith, length-map lanes arc_of) in
    let number : length terms + 1 ≡ length (terms ++ term ∷ []) = sym (length-append terms (term ∷ [])) in
    record {
      sound = subst (λ z. IsSound z) (sym (seen-push_term nodes lanes terms term h.order any)) (sound-with_term net term h.sound some fits room);
      order = subst (λ z. AreInOrder lanes z) number (in_order-push_term lanes (length terms) h.order);
      heads_last = λ v. last-same_arcs net next v _ _ refl (h.heads_last v);
      links_count = h.links_count;
      links_ends = h.links_ends;
      links_last = λ t l. last-same_arcs net next _ _ _ refl (h.links_last t l);
    }
