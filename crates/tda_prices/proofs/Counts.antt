-- How many prices a fit has.
use Rattle.std.proofs.Common.{◌≡◌, ℕ, ◌+◌, ◌*◌, true, List, [], ◌∷◌, ◌++◌, length, map, All, Some, None, ap, ◌∙◌, arith, length-append}
use Rattle.std.specs.List.{AllByRecursion, flat_map, range_with_len}
use Rattle.std.proofs.lemmas.List.{length-map}
use Rattle.std.proofs.lemmas.List.Elements.{All-from_recursion}
use Rattle.std.proofs.lemmas.List.FromFn.{length-map-range_with_len}
use Rattle.tda_model.specs.Schema.{Schema}
use Rattle.tda_model.specs.Cells.{possible_cells}
use Rattle.tda_model.specs.Groups.{kind_count}
use Rattle.tda_model.specs.Sizes.{groups_at}
use Rattle.tda_model.specs.Spine.{Spine, level_of, nation_of, units_at, is_at, is_child, children_of, unit_numbers, IsUnit, IsTree}
use Rattle.tda_model.proofs.Sums.{each_filter, each_range, each_weaker}
use Rattle.tda_model.proofs.Tree.{child_tells}
use Rattle.tda_prices.specs.Items.{Item, OfState, OfKind, OfCell, OfGroup, unit_items, price_count}
use Rattle.tda_prices.proofs.Listed.{flat_length}

abbrev Each : (ℕ → Type 0) → List ℕ → Type 0
Each P xs = AllByRecursion P xs

-- each child is a unit of the next level
pub child_level : (sp : Spine) → IsTree sp (nation_of sp) → (p : ℕ) → Each (λ c. IsUnit sp c × (level_of sp c ≡ level_of sp p + 1)) (children_of sp p)
child_level sp t p =
    each_filter (λ c. IsUnit sp c × (level_of sp c ≡ level_of sp p + 1)) (is_child sp p) (unit_numbers sp)
    (each_range (λ c. is_child sp p c ≡ true → IsUnit sp c × (level_of sp c ≡ level_of sp p + 1)) 0 (length sp.units) (λ c a b is.
    let here : IsUnit sp c = omega arith in (here, (child_tells sp (nation_of sp) t p c here is).above)))

pub level_units : (sp : Spine) (level : ℕ) → All (IsUnit sp) (units_at sp level)
level_units sp level = All-from_recursion (IsUnit sp) (units_at sp level) (each_filter (IsUnit sp) (is_at sp level) (unit_numbers sp) (each_range (λ u. is_at sp level u ≡ true → IsUnit sp u) 0 (length sp.units) (λ u a b is. omega arith)))

pub children_units : (sp : Spine) → IsTree sp (nation_of sp) → (p : ℕ) → All (IsUnit sp) (children_of sp p)
children_units sp t p = All-from_recursion (IsUnit sp) (children_of sp p) (each_weaker (λ c. IsUnit sp c × (level_of sp c ≡ level_of sp p + 1)) (IsUnit sp) (children_of sp p) (λ c h. h.0) (child_level sp t p))

pub children_levels : (sp : Spine) → IsTree sp (nation_of sp) → (p : ℕ) → All (λ u. level_of sp u ≡ level_of sp p + 1) (children_of sp p)
children_levels sp t p =
    All-from_recursion (λ u. level_of sp u ≡ level_of sp p + 1) (children_of sp p)
    (each_weaker (λ c. IsUnit sp c × (level_of sp c ≡ level_of sp p + 1)) (λ u. level_of sp u ≡ level_of sp p + 1) (children_of sp p) (λ c h. h.1) (child_level sp t p))

module _ (s : Schema) (sp : Spine) where
  unit_long : (u : ℕ) → length (unit_items s sp u) ≡ groups_at s (level_of sp u)
  unit_long u = length-map-range_with_len (OfGroup u) 0 (groups_at s (level_of sp u))

  module _ (t : IsTree sp (nation_of sp)) where
    pub root_count : price_count s sp None ≡ length (units_at sp 1) + kind_count s + groups_at s 0
    root_count =
        let kinds : List Item = map OfKind (range_with_len 0 (kind_count s)) in
        let groups : length (unit_items s sp (nation_of sp)) ≡ groups_at s 0 = unit_long (nation_of sp) ∙ ap (groups_at s) t.root_level in
        length-append (map OfState (units_at sp 1)) (kinds ++ unit_items s sp (nation_of sp))
        ∙ omega (arith, length-map (units_at sp 1) OfState, length-append kinds (unit_items s sp (nation_of sp)), length-map-range_with_len OfKind 0 (kind_count s), groups)

    child_groups : (p : ℕ) (cs : List ℕ) → Each (λ c. IsUnit sp c × (level_of sp c ≡ level_of sp p + 1)) cs → Each (λ c. length (unit_items s sp c) ≡ groups_at s (level_of sp p + 1)) cs
    child_groups p [] h = tt
    child_groups p (c ∷ cs) h = (unit_long c ∙ ap (groups_at s) h.0.1, child_groups p cs h.1)

    pub split_count : (p : ℕ) → price_count s sp (Some p) ≡ length (possible_cells s) + length (children_of sp p) * groups_at s (level_of sp p + 1)
    split_count p =
        length-append (map OfCell (possible_cells s)) (flat_map (unit_items s sp) (children_of sp p))
        ∙ omega (arith, length-map (possible_cells s) OfCell, flat_length (unit_items s sp) (groups_at s (level_of sp p + 1)) (children_of sp p) (child_groups p (children_of sp p) (child_level sp t p)))
