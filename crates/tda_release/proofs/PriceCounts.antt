-- A fit has a price for each node of its network but the hub.
use Rattle.std.proofs.Common.{◌≡◌, ℕ, ◌+◌, ◌==◌, true, false, List, [], ◌∷◌, ◌++◌, length, map, sym, ap, ◌∙◌, arith, inl, inr, Option, Some, None}
use Rattle.std.specs.List.{flat_map, range_with_len}
use Rattle.std.proofs.lemmas.Bool.{cases_eq, eqb-true}
use Rattle.std.proofs.lemmas.List.{length-append, length-map}
use Rattle.std.proofs.lemmas.List.FromFn.{length-range_with_len}
use Rattle.tda_model.specs.Schema.{Schema}
use Rattle.tda_model.specs.Cells.{possible_cells}
use Rattle.tda_model.specs.Groups.{kind_count}
use Rattle.tda_model.specs.Sizes.{fit_size, groups_at}
use Rattle.tda_model.specs.Spine.{Spine, IsTree, IsUnit, level_of, parent_of, is_child, nation_of, units_at, unit_numbers, children_of}
use Rattle.tda_model.proofs.Sums.{Each, each_filter, each_range}
use Rattle.tda_prices.specs.Items.{OfState, OfKind, OfCell, OfGroup, unit_items, price_count}
use Rattle.tda_prices.proofs.Listed.{flat_length}

module _ (s : Schema) (sp : Spine) (tree : IsTree sp (nation_of sp)) where
  -- a child stands on the level below
  pub child_level : (p u : ℕ) → IsUnit sp u → is_child sp p u ≡ true → level_of sp u ≡ level_of sp p + 1
  child_level p u here is = elim (cases_eq (level_of sp u) 0) [
    | inl top ↦
        let none : parent_of sp u ≡ None = ap (parent_of sp) (tree.root_alone u here top) ∙ tree.root_parent in
        absurd (no_parent (parent_of sp u) none is)
    | inr below ↦
        let q = tree.parent u here (omega arith) in
        let same : p ≡ q.0 = named (parent_of sp u) q.0 q.1.named is in
        q.1.above ∙ ap (λ v. level_of sp v + 1) (sym same)
  ]
    where
      no_parent : (o : Option ℕ) → o ≡ None → elim o [ Some q ↦ p == q | None ↦ false ] ≡ true → ⊥
      no_parent (Some q) e is = cc e
      no_parent None e is = cc is

      named : (o : Option ℕ) (q : ℕ) → o ≡ Some q → elim o [ Some r ↦ p == r | None ↦ false ] ≡ true → p ≡ q
      named None q e is = cc e
      named (Some r) q e is = let same : r ≡ q = cc e in eqb-true p r is ∙ same

  pub children_level : (p : ℕ) → Each (λ u. level_of sp u ≡ level_of sp p + 1) (children_of sp p)
  children_level p = each_filter (λ u. level_of sp u ≡ level_of sp p + 1) (is_child sp p) (unit_numbers sp) (each_range _ 0 (length sp.units) (λ u low high is. child_level p u (omega arith) is))

  unit_long : (u : ℕ) → length (unit_items s sp u) ≡ groups_at s (level_of sp u)
  unit_long u = length-map (range_with_len 0 (groups_at s (level_of sp u))) (OfGroup u) ∙ length-range_with_len 0 (groups_at s (level_of sp u))

  units_long : (p : ℕ) (us : List ℕ) → Each (λ u. level_of sp u ≡ level_of sp p + 1) us → Each (λ u. length (unit_items s sp u) ≡ groups_at s (level_of sp p + 1)) us
  units_long p [] h = tt
  units_long p (u ∷ us) h = (unit_long u ∙ ap (groups_at s) h.0, units_long p us h.1)

  pub price_nodes : (fit : Option ℕ) → price_count s sp fit + 1 ≡ (fit_size s sp fit).nodes
  price_nodes None =
      let states = length-map (units_at sp 1) OfState in
      let kinds = length-map (range_with_len 0 (kind_count s)) OfKind ∙ length-range_with_len 0 (kind_count s) in
      let groups = unit_long (nation_of sp) ∙ ap (groups_at s) tree.root_level in
      let below = length-append (map OfKind (range_with_len 0 (kind_count s))) (unit_items s sp (nation_of sp)) in
      let all = length-append (map OfState (units_at sp 1)) (map OfKind (range_with_len 0 (kind_count s)) ++ unit_items s sp (nation_of sp)) in
      omega arith
  price_nodes (Some p) =
      let cells = length-map (possible_cells s) OfCell in
      let groups = flat_length (unit_items s sp) (groups_at s (level_of sp p + 1)) (children_of sp p) (units_long p (children_of sp p) (children_level p)) in
      let all = length-append (map OfCell (possible_cells s)) (flat_map (unit_items s sp) (children_of sp p)) in
      omega arith
