-- What the table of a level tells of a query's terms at a unit's group.
use Rattle.std.proofs.Common.{◌≡◌, ◌<◌, ◌≤◌, ◌^◌, ◌+◌, ◌++◌, ◌∷◌, [], ℕ, ℤ, pos, List, Option, Some, None, MatchOption, slice_index, slice_index_or, map, length, sym, ap, ◌∙◌, subst, arith}
use Rattle.std.specs.Str.{bytes_eq}
use Rattle.std.proofs.lemmas.Slice.Eq.{bytes_eq-Decides}
use Rattle.std.proofs.lemmas.List.{append-nil, get_or_default, get_or-map, length-map}
use Rattle.std.proofs.lemmas.List.Elements.{Contains-get_or}
use Rattle.tda_model.specs.Commons.{common_of}
use Rattle.tda_model.specs.Schema.{Schema, Query}
use Rattle.tda_model.specs.Release.{Inputs}
use Rattle.tda_model.specs.Groups.{classes_of, class_cells}
use Rattle.tda_model.specs.Deviation.{weight_of}
use Rattle.tda_model.specs.Spine.{Spine, level_of}
use Rattle.tda_schema.specs.Stated.{level_at, queries_at, query_at}
use Rattle.tda_invar.specs.Known.{JoinedLists}
use Rattle.tda_flow.specs.declared.net.Term.{Term}
use Rattle.tda_groups.specs.Order.{group_at}
use Rattle.tda_groups.specs.Tree.{Tree, IsTreeOf}
use Rattle.tda_places.specs.Places.{index_of, place}
use Rattle.tda_places.specs.Measurements.{measured_at, AreMeasurementsOf}
use Rattle.tda_places.specs.Spots.{class_count, StandsAt}
use Rattle.tda_places.proofs.Indexes.{index_there}
use Rattle.tda_places.proofs.Spots.{index_below}
use Rattle.tda_fitnet.specs.Arcs.{NamedArc}
use Rattle.tda_fitnet.specs.Inputs.{inputs_of}
use Rattle.tda_fitnet.specs.Terms.{query_terms}
use Rattle.tda_fitnet.specs.NamedNetwork.{NamedNetwork, with_terms}
use Rattle.tda_fitnet.specs.TermTable.{TermTable, place_at, HasNoClass, IsClassPlace, IsTableOf, BeginsAt, AreTermsAt}
use Rattle.tda_fitnet.proofs.FirstClass.{filter_one, filter_none, named_first, classes_ascend}

module _ (s : Schema) (sp : Spine) (t : Tree) (table : TermTable) (ms : List ℤ) (unit first : ℕ) (ready : AreTermsAt s sp t table ms unit first)
    (query : ℕ) (lq : query < length (queries_at s (level_of sp unit))) (g : ℕ) (low : g < length t.groups) where
  abbrev level : ℕ
  level = level_of sp unit

  abbrev q : Query
  q = query_at s (level_of sp unit) query

  abbrev classes : List ℕ
  classes = classes_of s q

  abbrev cells : List ℕ
  cells = group_at t.groups g

  over_all : q.only ≡ []
  over_all = ready.table_is.over_all query _ lq

  pub row_told : MatchOption (place_at table query g) (HasNoClass s (level_of sp unit) query (class_count s (level_of sp unit) query) (group_at t.groups g))
      (IsClassPlace s (level_of sp unit) query (class_count s (level_of sp unit) query) (group_at t.groups g))
  row_told = (ready.table_is.rows query lq).each g low

  pub row_size : length (slice_index_or table.places query []) ≡ length t.groups
  row_size = (ready.table_is.rows query lq).size

  pub weight_there : query < length table.weights
  weight_there = omega (arith, lq, ap length ready.table_is.weights, length-map (queries_at s level) (weight_of (common_of s)))

  pub weight_is : slice_index_or table.weights query 0 ≡ weight_of (common_of s) (query_at s (level_of sp unit) query)
  weight_is = ap (λ ws. slice_index_or ws query 0) ready.table_is.weights ∙ get_or-map (weight_of (common_of s)) (queries_at s level) query _ 0 lq

  pub weight_few : slice_index_or table.weights query 0 ≤ 2 ^ 24
  weight_few = ready.table_is.light query 0 weight_there

  -- where the class that has the group's cells stands
  module _ (number : ℕ) (is : IsClassPlace s (level_of sp unit) query (class_count s (level_of sp unit) query) (group_at t.groups g) number) where
    abbrev class : ℕ
    class = slice_index (classes_of s (query_at s (level_of sp unit) query)) is.rank

    stands : StandsAt s sp (first + number) (record { level = level_of sp unit; unit = ready.begins.number; query = query; class = is.rank })
    stands = record {
      level = ready.level;
      unit = ready.begins.here;
      query = lq;
      class = is.below;
      before = omega (arith, ready.begins.first_is, is.at);
    }

    pub index_low : first + number < length ms
    index_low = omega (arith, index_below s sp (first + number) _ stands, ready.measured.size)

    index_is : index_of s sp (place unit query class) ≡ Some (first + number)
    index_is = ap (λ u. index_of s sp (place u query class)) (sym ready.begins.unit_is) ∙ index_there s sp (first + number) _ stands

    pub target_is : measured_at s sp ms (place unit query (slice_index (classes_of s (query_at s (level_of sp unit) query)) is.rank)) ≡ slice_index_or ms (first + number) (pos 0)
    target_is = ap (λ o. elim o as (λ _. ℤ) [ Some i ↦ slice_index_or ms i (pos 0) | None ↦ pos 0 ]) index_is

    module _ (inv : JoinedLists) where
      abbrev i : Inputs
      i = inputs_of s sp inv ms

      pub has_term : query_terms (inputs_of s sp inv ms) unit query (query_at s (level_of sp unit) query) (group_at t.groups g)
          ≡ record { weight = weight_of (common_of s) (query_at s (level_of sp unit) query); target = slice_index_or ms (first + number) (pos 0) } ∷ []
      has_term =
          let term : ℕ → Term = λ c. record { weight = weight_of (common_of s) q; target = measured_at s sp ms (place unit query c) } in
          let named = named_first i (level_at s level) t ready.tree g low unit query q over_all in
          let found = Contains-get_or classes is.rank 0 is.below in
          ap (map term) (filter_one (λ c. bytes_eq (class_cells s q c) cells) classes class (classes_ascend i (level_at s level) t ready.tree g low unit query q over_all) found
          ((bytes_eq-Decides (class_cells s q class) cells).1 is.same)
          (λ d there e. named d there ((bytes_eq-Decides (class_cells s q d) cells).0 e) ∙ sym (named class found is.same)))
          ∙ ap (λ z. record { weight = weight_of (common_of s) q; target = z } ∷ []) target_is

  pub has_none : (inv : JoinedLists) → HasNoClass s (level_of sp unit) query (class_count s (level_of sp unit) query) (group_at t.groups g)
      → query_terms (inputs_of s sp inv ms) unit query (query_at s (level_of sp unit) query) (group_at t.groups g) ≡ []
  has_none inv none =
      let term : ℕ → Term = λ c. record { weight = weight_of (common_of s) q; target = measured_at s sp ms (place unit query c) } in
      ap (map term) (filter_none (λ c. bytes_eq (class_cells s q c) cells) classes
      (λ d there e. none there.0 there.1 (ap (class_cells s q) (get_or_default classes there.0 0 d there.1 ∙ there.2) ∙ (bytes_eq-Decides (class_cells s q d) cells).0 e)))

  -- by what the table answers
  pub told_some : (number : ℕ) (o : Option ℕ) → o ≡ place_at table query g → o ≡ Some number
      → IsClassPlace s (level_of sp unit) query (class_count s (level_of sp unit) query) (group_at t.groups g) number
  told_some number o e is = subst (λ a. MatchOption a (HasNoClass s level query (class_count s level query) cells) (IsClassPlace s level query (class_count s level query) cells)) (sym e ∙ is) row_told

  pub told_none : (o : Option ℕ) → o ≡ place_at table query g → o ≡ None → HasNoClass s (level_of sp unit) query (class_count s (level_of sp unit) query) (group_at t.groups g)
  told_none o e is = subst (λ a. MatchOption a (HasNoClass s level query (class_count s level query) cells) (IsClassPlace s level query (class_count s level query) cells)) (sym e ∙ is) row_told

-- what the terms are read from, by the level of the unit
pub ready_at : (s : Schema) (sp : Spine) (t : Tree) (table : TermTable) (ms : List ℤ) (unit first own : ℕ) → level_of sp unit ≡ own → own < length s.levels
    → IsTreeOf s (level_at s own) t → IsTableOf s own t.groups table → AreMeasurementsOf s sp ms → BeginsAt s sp unit first → AreTermsAt s sp t table ms unit first
ready_at s sp t table ms unit first own e low tree is measured begins = record {
  level = subst (λ n. n < length s.levels) (sym e) low;
  tree = subst (λ n. IsTreeOf s (level_at s n) t) (sym e) tree;
  table_is = subst (λ n. IsTableOf s n t.groups table) (sym e) is;
  measured = measured;
  begins = begins;
}

-- an arc with no more terms
pub no_more : (nodes : ℕ) (before : List NamedArc) (last : NamedArc) → ◌≡◌ {A = NamedNetwork} (record { nodes = nodes; arcs = before ++ with_terms last [] ∷ [] }) (record { nodes = nodes; arcs = before ++ last ∷ [] })
no_more nodes before last = ap (λ ts. record { nodes = nodes; arcs = before ++ record { name = last.name; arc = last.arc; terms = ts } ∷ [] }) (append-nil last.terms)
