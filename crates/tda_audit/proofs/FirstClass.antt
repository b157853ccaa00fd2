-- A group's first cell tells its class in each query.
use Rattle.std.proofs.Common.{◌≡◌, ℕ, ◌<◌, Bool, true, cond, eqb, List, [], ◌∷◌, length, slice_index, slice_get, Some, map, filter, All, Contains, refl, sym, ap, ◌∙◌, subst, inl, inr, arith, ne_eqb, eq-eqb}
use Rattle.std.specs.Str.{bytes_eq}
use Rattle.std.proofs.lemmas.Bool.{cases_Bool, cases_eq, false_from_ne_true}
use Rattle.std.proofs.lemmas.Slice.Eq.{bytes_eq-Decides}
use Rattle.std.proofs.lemmas.List.Elements.{All-contains, All-from_recursion}
use Rattle.tda_model.specs.Commons.{common_of}
use Rattle.tda_model.specs.Schema.{Schema, Level, Query}
use Rattle.tda_model.specs.Cells.{cell_count, is_possible, is_listed, possible_cells}
use Rattle.tda_model.specs.Groups.{class_cells, classes_of, is_class}
use Rattle.tda_model.specs.Deviation.{weight_of}
use Rattle.tda_model.specs.Release.{Inputs}
use Rattle.tda_schema.specs.Stated.{class_of}
use Rattle.tda_flow.specs.declared.net.Term.{Term}
use Rattle.tda_model.proofs.Sums.{Ascends, range_ascends, filter_ascends}
use Rattle.tda_sets.proofs.Members.{Contains-cases, Contains-here, Contains-later}
use Rattle.tda_groups.specs.Order.{group_at, first_cell}
use Rattle.tda_groups.specs.Tree.{Tree, IsTreeOf, IsGroupAt}
use Rattle.tda_groups.proofs.Ordering.{within_tells, has_first}
use Rattle.tda_groups.proofs.Classes.{names_class, names_is_class, class_names}
use Rattle.tda_groups.proofs.Chained.{set_at, same_group}
use Rattle.tda_fitnet.specs.Terms.{query_terms}
use Rattle.tda_fitnet.proofs.FirstKind.{first_possible}
use Rattle.tda_fitnet.proofs.FirstClass as fitnet
use Rattle.tda_fitnet.proofs.FirstClass.{filter_none, filter_one, classes_ascend}

-- where the group is its first cell's class's, that class has just its cells, and else none has
module _ (i : Inputs) (l : Level) (t : Tree) (is : IsTreeOf i.schema l t) (g : ℕ) (low : g < length t.groups) (unit n : ℕ) (q : Query) (over_all : q.only ≡ []) where
  abbrev s : Schema
  s = i.schema

  abbrev cells : List ℕ
  cells = group_at t.groups g

  abbrev pub class_of_first : ℕ
  class_of_first = class_of i.schema q (first_cell (group_at t.groups g))

  first_can : Contains (possible_cells s) (first_cell cells)
  first_can = subst (λ xs. Contains xs (first_cell cells)) is.whole
      (within_tells cells (group_at t.groups 0) (first_cell cells) (is.groups.whole g [] low) (has_first cells (set_at t.groups is.groups g low)))

  abbrev named_first : (d : ℕ) → Contains (classes_of i.schema q) d → class_cells i.schema q d ≡ group_at t.groups g → d ≡ first_cell (group_at t.groups g)
  named_first = fitnet.named_first i l t is g low unit n q over_all

  is_a_class : Contains (classes_of s q) class_of_first
  is_a_class = names_is_class s q over_all class_of_first (names_class s q over_all (first_cell cells) first_can)

  has_these : ℕ → Bool
  has_these c = bytes_eq (class_cells s q c) cells

  pub terms_by_first : (m : ℕ) → m < length t.groups → group_at t.groups m ≡ class_cells s q class_of_first
      → query_terms i unit n q (group_at t.groups g) ≡ cond (eqb m g) (record { weight = weight_of (common_of i.schema) q; target = i.measured unit n class_of_first } ∷ []) []
  unfolding has_these
  terms_by_first m lm is_class_group =
      let term : ℕ → Term = λ c. record { weight = weight_of (common_of i.schema) q; target = i.measured unit n c } in
      let tests : (d : ℕ) → has_these d ≡ true → class_cells s q d ≡ cells = λ d e. (bytes_eq-Decides (class_cells s q d) cells).0 e in
      elim (cases_eq m g) [
        | inl e ↦
            let own : class_cells s q class_of_first ≡ cells = sym is_class_group ∙ ap (group_at t.groups) e in
            ap (map term) (filter_one has_these (classes_of s q) class_of_first (classes_ascend i l t is g low unit n q over_all) is_a_class ((bytes_eq-Decides (class_cells s q class_of_first) cells).1 own)
            (λ d found here. named_first d found (tests d here) ∙ sym (named_first class_of_first is_a_class own)))
            ∙ ap (λ b. cond b (term class_of_first ∷ []) []) (sym (eq-eqb m g e))
        | inr ne ↦
            ap (map term) (filter_none has_these (classes_of s q) (λ d found here.
            let d_is = named_first d found (tests d here) in
            let same : class_of_first ≡ d = ap (class_of s q) (sym d_is) ∙ (class_names s q over_all d found).1 in
            ne (same_group t.groups is.groups m g lm low (is_class_group ∙ ap (class_cells s q) same ∙ tests d here))))
            ∙ ap (λ b. cond b (term class_of_first ∷ []) []) (sym (ne_eqb m g ne))
      ]

-- what the code finds by the first cell
module _ (i : Inputs) (l : Level) (t : Tree) (is : IsTreeOf i.schema l t) (g : ℕ) (low : g < length t.groups) (items : List ℕ) (items_are : items ≡ group_at t.groups g)
    (query : ℕ) (q : Query) (at : slice_get l.queries query ≡ Some q) (over_all : q.only ≡ []) (class : ℕ) (class_is : class ≡ class_of i.schema q (slice_index items 0)) where
  class_same : class ≡ class_of i.schema q (first_cell (group_at t.groups g))
  class_same = class_is ∙ ap (λ xs. class_of i.schema q (slice_index xs 0)) items_are

  pub class_found : Contains (classes_of i.schema q) class
  class_found = subst (Contains (classes_of i.schema q)) (sym class_same) (names_is_class i.schema q over_all _ (names_class i.schema q over_all (first_cell (group_at t.groups g)) (first_possible i.schema l t is g low)))

  pub terms_answer : (unit n m : ℕ) → IsGroupAt t m (class_cells i.schema q class)
      → query_terms i unit n q (group_at t.groups g) ≡ cond (eqb m g) (record { weight = weight_of (common_of i.schema) q; target = i.measured unit n class } ∷ []) []
  terms_answer unit n m placed =
      terms_by_first i l t is g low unit n q over_all m placed.here (placed.members ∙ ap (class_cells i.schema q) class_same)
      ∙ ap (λ c. cond (eqb m g) (record { weight = weight_of (common_of i.schema) q; target = i.measured unit n c } ∷ []) []) (sym class_same)
