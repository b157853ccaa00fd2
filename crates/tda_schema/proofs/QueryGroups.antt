-- The classes of a query as a family.
use Rattle.std.proofs.Common.{◌≡◌, ℕ, true, not, cond, List, [], ◌∷◌, get_or, map, filter, Some, None, nat_lt, refl, sym, ap, ◌∙◌}
use Rattle.std.specs.Cmp.{IsEquivalence, on_equiv, and_equiv, nat_eq_equiv}
use Rattle.std.specs.Cmp.Lexicographic.{nat_list_eq_equiv}
use Rattle.std.specs.List.{list_all}
use Rattle.tda_model.specs.Schema.{Entry, Query, Schema, Attribute_values, Recode_labels}
use Rattle.tda_model.specs.Cells.{cell_count, value_at, is_possible, is_listed, all_cells, possible_cells}
use Rattle.tda_model.specs.Groups.{label_of, alike_at, one_class, scope_cells, class_cells, classes_of}
use Rattle.tda_model.proofs.Sums.{each_any}
use Rattle.tda_sets.specs.Family.{firsts, sets_of}
use Rattle.tda_sets.proofs.Ranges.{filter_all}
use Rattle.tda_schema.specs.Classes.{query_family}
use Rattle.tda_schema.specs.Parts.{class_at}
use Rattle.tda_schema.proofs.Grouped.{firsts_are, sets_are}

module _ (s : Schema) where
  entry_alike : (e : Entry) → IsEquivalence (λ i j. alike_at s i j e)
  entry_alike (Attribute_values a) = on_equiv (λ i. value_at s i a) nat_eq_equiv
  entry_alike (Recode_labels r) = on_equiv (label_of s r) nat_list_eq_equiv

  pub all_alike : (by : List Entry) → IsEquivalence (λ i j. list_all (alike_at s i j) by)
  all_alike [] = record { refl = λ i. refl; symm = λ i j. refl; congr = λ i j k e. refl }
  all_alike (e ∷ es) = and_equiv (entry_alike e) (all_alike es)

  -- a query over all possible cells
  module _ (q : Query) (over_all : q.only ≡ []) where
    scope_is : scope_cells s q ≡ possible_cells s
    scope_is =
        ap (λ only. filter (is_listed s only) (possible_cells s)) over_all
        ∙ filter_all (λ cell. true) (possible_cells s) (each_any (λ cell. true ≡ true) (possible_cells s) (λ cell. refl))

    -- the classes and the cells of each, of these cells
    abbrev cells_like : List ℕ → ℕ → List ℕ
    cells_like cells i = filter (one_class s q i) cells

    abbrev first_cells : List ℕ → List ℕ
    first_cells cells = filter (λ i. list_all (λ j. not (nat_lt j i)) (cells_like cells i)) cells

    -- the sets of the family are the classes, in the order of their first cells
    pub query_sets : sets_of (query_family s q) ≡ map (class_cells s q) (classes_of s q)
    query_sets =
        sets_are (cell_count s) (is_possible s) (one_class s q) (all_alike q.by)
        ∙ ap (λ cells. map (cells_like cells) (first_cells cells)) (sym scope_is)

    pub query_firsts : firsts (query_family s q) ≡ classes_of s q
    query_firsts = firsts_are (cell_count s) (is_possible s) (one_class s q) (all_alike q.by) ∙ ap first_cells (sym scope_is)

    -- the family gives for each cell its class
    pub query_names : query_family s q ≡ map (class_at s q) (all_cells s)
    query_names = ap (λ cells. map (λ i. cond (is_possible s i) (Some (get_or (cells_like cells i) 0 0)) None) (all_cells s)) (sym scope_is)
