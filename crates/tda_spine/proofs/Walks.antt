-- The lists of a spine by their numbers, and the walk over them.
use Rattle.std.proofs.Common.{◌≡◌, ℕ, zero, suc, ◌-◌, ◌<◌, List, [], ◌∷◌, length, get_or, refl, sym, ap, ◌∙◌, subst, true, eq-eqb, arith}
use Rattle.std.specs.List.{flat_map}
use Rattle.std.proofs.lemmas.List.FromFn.{length-map-range_with_len, get_or-map-range_with_len}
use Rattle.tda_model.specs.Spine.{Spine, IsTree, children_of, units_at, blocks_of, nation_of, is_at, is_child, preorder_from}
use Rattle.tda_model.proofs.Sums.{Each, each_filter, each_range, filter_each, range_each}
use Rattle.tda_spine.specs.Sound.{children_lists, level_lists, block_lists}

each_get : (P : ℕ → Type 0) (xs : List ℕ) (k : ℕ) → Each P xs → k < length xs → P (get_or xs k 0)
each_get P [] k h lt = absurd (omega arith)
each_get P (x ∷ xs) zero h lt = h.0
each_get P (x ∷ xs) (suc k) h lt = each_get P xs k h.1 (omega arith)

module _ (sp : Spine) where
  pub children_length : length (children_lists sp) ≡ length sp.units
  children_length = length-map-range_with_len (children_of sp) 0 (length sp.units)

  pub levels_length : length (level_lists sp) ≡ sp.depth
  levels_length = length-map-range_with_len (units_at sp) 0 sp.depth

  pub blocks_length : length (block_lists sp) ≡ length sp.units
  blocks_length = length-map-range_with_len (blocks_of sp) 0 (length sp.units)

  pub children_get : (u : ℕ) → u < length sp.units → get_or (children_lists sp) u [] ≡ children_of sp u
  children_get u lt = get_or-map-range_with_len (children_of sp) 0 (length sp.units) u u [] lt (omega arith)

  pub levels_get : (level : ℕ) → level < sp.depth → get_or (level_lists sp) level [] ≡ units_at sp level
  levels_get level lt = get_or-map-range_with_len (units_at sp) 0 sp.depth level level [] lt (omega arith)

  pub blocks_get : (u : ℕ) → u < length sp.units → get_or (block_lists sp) u [] ≡ blocks_of sp u
  blocks_get u lt = get_or-map-range_with_len (blocks_of sp) 0 (length sp.units) u u [] lt (omega arith)

  child_below : (u k : ℕ) → k < length (children_of sp u) → get_or (children_of sp u) k 0 < length sp.units
  child_below u k lt =
      each_get (λ c. c < length sp.units) (children_of sp u) k (each_filter _ (is_child sp u) _ (each_range _ 0 (length sp.units) (λ i low high _. omega arith))) lt

  -- each child is a unit
  pub among_children : (u k : ℕ) (under : List ℕ) → under ≡ children_of sp u → k < length under → get_or under k 0 < length sp.units
  among_children u k under e lt =
      let P : List ℕ → Type 0 = λ xs. k < length xs → get_or xs k 0 < length sp.units in
      subst P (sym e) (child_below u k) lt

  pub preorder_none : (steps u : ℕ) → children_of sp u ≡ [] → preorder_from sp steps u ≡ []
  preorder_none zero u e = refl
  preorder_none (suc s) u e = ap (λ xs. elim xs as (λ _. List ℕ) [ [] ↦ [] | c ∷ cs ↦ u ∷ flat_map (preorder_from sp s) (c ∷ cs) ]) e

  pub preorder_some : (steps u : ℕ) (under : List ℕ) → 0 < steps → 0 < length under → children_of sp u ≡ under → preorder_from sp steps u ≡ u ∷ flat_map (preorder_from sp (steps - 1)) under
  preorder_some zero u under some some_under e = absurd (omega arith)
  preorder_some (suc s) u [] some some_under e = absurd (omega arith)
  preorder_some (suc s) u (c ∷ cs) some some_under e =
      let n : s ≡ suc s - 1 = omega arith in
      ap (λ xs. elim xs as (λ _. List ℕ) [ [] ↦ [] | d ∷ ds ↦ u ∷ flat_map (preorder_from sp s) (d ∷ ds) ]) e
      ∙ ap (λ m. u ∷ flat_map (preorder_from sp m) (c ∷ cs)) n

  -- the nation is the first unit of the first level
  pub nation_first : nation_of sp ≡ get_or (units_at sp 0) 0 0
  nation_first = head (units_at sp 0)
    where
      head : (xs : List ℕ) → elim xs as (λ _. ℕ) [ n ∷ rest ↦ n | [] ↦ 0 ] ≡ get_or xs 0 0
      head [] = refl
      head (x ∷ xs) = refl

  pub some_nation : (n : ℕ) → IsTree sp n → 0 < length (units_at sp 0)
  some_nation n t = some (units_at sp 0) (λ e. none (subst (Each (λ _. ⊥)) (sym e) tt))
    where
      some : (xs : List ℕ) → (xs ≡ [] → ⊥) → 0 < length xs
      some [] h = absurd (h refl)
      some (x ∷ xs) h = omega arith

      none : Each (λ _. ⊥) (units_at sp 0) → ⊥
      none h =
          let root : n < length sp.units = t.root in
          range_each (λ u. is_at sp 0 u ≡ true → ⊥) 0 (length sp.units) (filter_each (λ _. ⊥) (is_at sp 0) _ h) n (omega arith) (omega arith) (eq-eqb _ _ t.root_level)
