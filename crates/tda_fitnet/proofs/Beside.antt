-- Arcs beside their names, after one more arc or term.
use Rattle.std.proofs.Common.{◌≡◌, ◌-◌, List, [], ◌∷◌, ◌++◌, length, map, set, get_or, refl, sym, ap, ◌∙◌, arith, length-append}
use Rattle.std.proofs.lemmas.List.{length-map, map-append, set_at, get_or_at}
use Rattle.tda_flow.specs.declared.net.Arc.{Arc}
use Rattle.tda_flow.specs.declared.net.Term.{Term}
use Rattle.tda_flow.specs.Network.{Network, arc_count, terms_at, with_arc, with_term}
use Rattle.tda_fitnet.specs.declared.name.ArcName.{ArcName}
use Rattle.tda_fitnet.specs.Arcs.{NamedArc}
use Rattle.tda_fitnet.specs.NamedNetwork.{NamedNetwork, beside, with_names, net_of, AreBeside, with_named_arc, more_term}

abbrev named : ArcName → Arc → List Term → NamedArc
named n a t = record { name = n; arc = a; terms = t }

pub names_back : (ns : List ArcName) (arcs : List Arc) (ts : List (List Term)) → length ns ≡ length arcs → length ts ≡ length arcs → map (λ a. a.name) (beside ns arcs ts) ≡ ns
names_back [] arcs ts e d = refl
names_back (n ∷ ns) [] ts e d = absurd (omega arith)
names_back (n ∷ ns) (a ∷ arcs) [] e d = absurd (omega arith)
names_back (n ∷ ns) (a ∷ arcs) (t ∷ ts) e d = ap (λ xs. n ∷ xs) (names_back ns arcs ts (omega arith) (omega arith))

pub arcs_back : (ns : List ArcName) (arcs : List Arc) (ts : List (List Term)) → length ns ≡ length arcs → length ts ≡ length arcs → map (λ a. a.arc) (beside ns arcs ts) ≡ arcs
arcs_back [] [] ts e d = refl
arcs_back [] (a ∷ arcs) ts e d = absurd (omega arith)
arcs_back (n ∷ ns) [] ts e d = absurd (omega arith)
arcs_back (n ∷ ns) (a ∷ arcs) [] e d = absurd (omega arith)
arcs_back (n ∷ ns) (a ∷ arcs) (t ∷ ts) e d = ap (λ xs. a ∷ xs) (arcs_back ns arcs ts (omega arith) (omega arith))

pub terms_back : (ns : List ArcName) (arcs : List Arc) (ts : List (List Term)) → length ns ≡ length arcs → length ts ≡ length arcs → map (λ a. a.terms) (beside ns arcs ts) ≡ ts
terms_back [] [] [] e d = refl
terms_back [] [] (t ∷ ts) e d = absurd (omega arith)
terms_back [] (a ∷ arcs) ts e d = absurd (omega arith)
terms_back (n ∷ ns) [] ts e d = absurd (omega arith)
terms_back (n ∷ ns) (a ∷ arcs) [] e d = absurd (omega arith)
terms_back (n ∷ ns) (a ∷ arcs) (t ∷ ts) e d = ap (λ xs. t ∷ xs) (terms_back ns arcs ts (omega arith) (omega arith))

pub beside_of : (xs : List NamedArc) → beside (map (λ a. a.name) xs) (map (λ a. a.arc) xs) (map (λ a. a.terms) xs) ≡ xs
beside_of [] = refl
beside_of (x ∷ xs) = ap (λ ys. x ∷ ys) (beside_of xs)

pub beside_more : (ns : List ArcName) (arcs : List Arc) (ts : List (List Term)) (n : ArcName) (a : Arc) (t : List Term) → length ns ≡ length arcs → length ts ≡ length arcs
    → beside (ns ++ n ∷ []) (arcs ++ a ∷ []) (ts ++ t ∷ []) ≡ beside ns arcs ts ++ named n a t ∷ []
beside_more [] [] [] n a t e d = refl
beside_more [] [] (u ∷ ts) n a t e d = absurd (omega arith)
beside_more [] (b ∷ arcs) ts n a t e d = absurd (omega arith)
beside_more (m ∷ ns) [] ts n a t e d = absurd (omega arith)
beside_more (m ∷ ns) (b ∷ arcs) [] n a t e d = absurd (omega arith)
beside_more (m ∷ ns) (b ∷ arcs) (u ∷ ts) n a t e d = ap (λ xs. named m b u ∷ xs) (beside_more ns arcs ts n a t (omega arith) (omega arith))

-- ---- what a named net's fields stand for
module _ (net : Network) (names : List ArcName) (h : AreBeside net names) where
  pub net_back : net_of (with_names net names) ≡ net
  net_back =
      let rest : List (List Term) = map (λ a. a.terms) (beside names net.arcs net.terms) in
      ap (λ xs. record { nodes = net.nodes; arcs = xs; terms = rest }) (arcs_back names net.arcs net.terms h.count h.terms)
      ∙ ap (λ ts. record { nodes = net.nodes; arcs = net.arcs; terms = ts }) (terms_back names net.arcs net.terms h.count h.terms)

  pub count_back : length (with_names net names).arcs ≡ arc_count net
  count_back = sym (length-map (beside names net.arcs net.terms) (λ a. a.arc)) ∙ ap length (arcs_back names net.arcs net.terms h.count h.terms)

  pub named_more : (name : ArcName) (arc : Arc) → with_names (with_arc net arc) (names ++ name ∷ []) ≡ with_named_arc (with_names net names) (named name arc [])
  named_more name arc = ap (λ xs. record { nodes = net.nodes; arcs = xs }) (beside_more names net.arcs net.terms name arc [] h.count h.terms)

  -- the last arc, and one more term on it
  module _ (before : List NamedArc) (last : NamedArc) (e : (with_names net names).arcs ≡ before ++ last ∷ []) where
    names_are : names ≡ map (λ a. a.name) before ++ last.name ∷ []
    names_are = sym (names_back names net.arcs net.terms h.count h.terms) ∙ ap (map (λ a. a.name)) e ∙ map-append (λ a. a.name) before (last ∷ [])

    arcs_are : net.arcs ≡ map (λ a. a.arc) before ++ last.arc ∷ []
    arcs_are = sym (arcs_back names net.arcs net.terms h.count h.terms) ∙ ap (map (λ a. a.arc)) e ∙ map-append (λ a. a.arc) before (last ∷ [])

    terms_are : net.terms ≡ map (λ a. a.terms) before ++ last.terms ∷ []
    terms_are = sym (terms_back names net.arcs net.terms h.count h.terms) ∙ ap (map (λ a. a.terms)) e ∙ map-append (λ a. a.terms) before (last ∷ [])

    last_number : length before ≡ arc_count net - 1
    last_number = let a = ap length arcs_are in omega (arith, length-append (map (λ a. a.arc) before) (last.arc ∷ []), length-map before (λ a. a.arc))

    last_at : length (map (λ a. a.terms) before) ≡ arc_count net - 1
    last_at = length-map before (λ a. a.terms) ∙ last_number

    pub last_terms : terms_at net (arc_count net - 1) ≡ last.terms
    last_terms = ap (λ ts. get_or ts (arc_count net - 1) []) terms_are ∙ get_or_at (map (λ a. a.terms) before) last.terms [] [] (arc_count net - 1) last_at

    pub named_term : (t : Term) → with_names (with_term net t) names ≡ record { nodes = net.nodes; arcs = before ++ more_term last t ∷ [] }
    named_term t =
        let more : List Term = last.terms ++ t ∷ [] in
        let set_is : set net.terms (arc_count net - 1) (terms_at net (arc_count net - 1) ++ t ∷ []) ≡ map (λ a. a.terms) before ++ more ∷ [] =
        ap (λ ts. set net.terms (arc_count net - 1) (ts ++ t ∷ [])) last_terms
        ∙ ap (λ ts. set ts (arc_count net - 1) more) terms_are
        ∙ set_at (map (λ a. a.terms) before) last.terms [] more (arc_count net - 1) last_at in
        let arcs_of : List ArcName → List Arc → List (List Term) → NamedNetwork = λ ns arcs ts. record { nodes = net.nodes; arcs = beside ns arcs ts } in
        ap (λ ns. arcs_of ns net.arcs (set net.terms (arc_count net - 1) (terms_at net (arc_count net - 1) ++ t ∷ []))) names_are
        ∙ ap (λ arcs. arcs_of (map (λ a. a.name) before ++ last.name ∷ []) arcs (set net.terms (arc_count net - 1) (terms_at net (arc_count net - 1) ++ t ∷ []))) arcs_are
        ∙ ap (arcs_of (map (λ a. a.name) before ++ last.name ∷ []) (map (λ a. a.arc) before ++ last.arc ∷ [])) set_is
        ∙ ap (λ xs. record { nodes = net.nodes; arcs = xs })
        (beside_more (map (λ a. a.name) before) (map (λ a. a.arc) before) (map (λ a. a.terms) before) last.name last.arc more
        (length-map before (λ a. a.name) ∙ sym (length-map before (λ a. a.arc))) (length-map before (λ a. a.terms) ∙ sym (length-map before (λ a. a.arc)))
        ∙ ap (λ xs. xs ++ named last.name last.arc more ∷ []) (beside_of before))
