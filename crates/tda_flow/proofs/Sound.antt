-- A sound net stays sound.
use Rattle.std.proofs.Common.{◌≡◌, ℕ, ◌-◌, ◌<◌, ◌^◌, List, [], ◌∷◌, ◌++◌, length, get_or, set, sym, ap, subst, ◌∙◌, inl, inr, arith, length-append, get_or-set_other, get_or-set_same}
use Rattle.std.proofs.lemmas.Bool.{cases_eq, cases_lt}
use Rattle.std.proofs.lemmas.List.{get_or_append_left, get_or_at, get_or-map, length-set, length-map}
use Rattle.tda_flow.specs.declared.net.Arc.{Arc}
use Rattle.tda_flow.specs.declared.net.Term.{Term}
use Rattle.tda_flow.specs.declared.lanes.Lane.{Lane}
use Rattle.tda_flow.specs.Lanes.{arc_of}
use Rattle.tda_flow.specs.NetView.{seen}
use Rattle.tda_flow.specs.Network.{Network, no_arc, no_term, arc_count, terms_at, with_arc, with_term, IsArcOf, IsNetTerm, AreNetTerms, IsSound}

-- what holds of each element of a list, and of one more
pub each-push : {X : Type 0} (P : X → Type 0) (d : X) (xs : List X) (x : X) → ((k : ℕ) → k < length xs → P (get_or xs k d)) → P x
    → (k : ℕ) → k < length (xs ++ x ∷ []) → P (get_or (xs ++ x ∷ []) k d)
each-push P d xs x each one k l =
    elim (cases_lt k (length xs)) [
      | inl old ↦ subst P (sym (get_or_append_left xs (x ∷ []) d k old)) (each k old)
      | inr new ↦ subst P (sym (get_or_at xs x [] d k (omega (arith, length-append xs (x ∷ []))))) one
    ]

none : AreNetTerms []
none = record { few = omega arith; each = λ j l. absurd (omega arith) }

pub sound-with_arc : (net : Network) (arc : Arc) → IsSound net → IsArcOf net.nodes arc → arc_count net < 2 ^ 20 → IsSound (with_arc net arc)
sound-with_arc net arc s fits room = record {
  some_node = s.some_node;
  few_nodes = s.few_nodes;
  few_arcs = omega (arith, length-append net.arcs (arc ∷ []));
  lists = let e = s.lists in omega (arith, length-append net.arcs (arc ∷ []), length-append net.terms ([] ∷ []));
  arcs = each-push (λ a. IsArcOf net.nodes a) no_arc net.arcs arc s.arcs fits;
  terms =
      λ k l.
      let few : k < length (net.terms ++ [] ∷ []) = let e = s.lists in omega (arith, length-append net.arcs (arc ∷ []), length-append net.terms ([] ∷ [])) in
      each-push (λ ts. AreNetTerms ts) [] net.terms [] (λ j m. s.terms j (let e = s.lists in omega arith)) none k few;
}

more_terms : (terms : List Term) (term : Term) → AreNetTerms terms → length terms < 8 → IsNetTerm term → AreNetTerms (terms ++ term ∷ [])
more_terms terms term s room fits = record {
  few = omega (arith, length-append terms (term ∷ []));
  each = each-push (λ t. IsNetTerm t) no_term terms term s.each fits;
}

pub sound-with_term : (net : Network) (term : Term) → IsSound net → 0 < arc_count net → IsNetTerm term → length (terms_at net (arc_count net - 1)) < 8 → IsSound (with_term net term)
sound-with_term net term s some fits room = record {
  some_node = s.some_node;
  few_nodes = s.few_nodes;
  few_arcs = s.few_arcs;
  lists = length-set net.terms (arc_count net - 1) _ ∙ s.lists;
  arcs = s.arcs;
  terms =
      λ k l.
      let last : ℕ = arc_count net - 1 in
      let more : List Term = terms_at net last ++ term ∷ [] in
      let good : AreNetTerms more = more_terms (terms_at net last) term (s.terms last (omega arith)) room fits in
      elim (cases_eq k last) [
        | inl e ↦ subst (λ z. AreNetTerms z) (sym (ap (λ j. get_or (set net.terms last more) j []) e ∙ get_or-set_same net.terms last more [] (let q = s.lists in omega arith))) good
        | inr other ↦ subst (λ z. AreNetTerms z) (sym (get_or-set_other net.terms last k more [] other)) (s.terms k l)
      ];
}

-- the arc of a lane
pub lane_sound : (nodes : ℕ) (lanes : List Lane) (terms : List Term) (i : ℕ) (lane : Lane) → IsSound (seen nodes lanes terms) → i < length lanes
    → lane ≡ get_or lanes i lane → IsArcOf nodes lane.arc
lane_sound nodes lanes terms i lane s l e =
    subst (λ a. IsArcOf nodes a) (get_or-map arc_of lanes i lane no_arc l ∙ ap arc_of (sym e)) (s.arcs i (omega (arith, length-map lanes arc_of)))
