-- The text of a spine is short.
use Rattle.std.proofs.Common.{◌≡◌, ℕ, ◌<◌, ◌≤◌, ◌^◌, true, List, [], ◌∷◌, length, map, Option, Some, None, refl, arith, length-append}
use Rattle.std.specs.List.{AllByRecursion, flat_map}
use Rattle.std.proofs.lemmas.List.FromFn.{length-map-range_with_len}
use Rattle.tda_io.specs.Texts.{name_test, row_text}
use Rattle.tda_model.specs.Schema.{Schema}
use Rattle.tda_model.specs.Spine.{Spine, IsUnit, code_of, level_of, parent_of, nation_of, unit_numbers}
use Rattle.tda_model.proofs.Sums.{each_range}
use Rattle.tda_spine.specs.Sound.{IsSound}
use Rattle.tda_spine.proofs.Lookups.{parent_tells}
use Rattle.tda_demo.specs.Names.{level_name}
use Rattle.tda_demo.specs.SpineText.{header, parent_code, unit_row, unit_rows, spine_text}
use Rattle.tda_demo_laws.proofs.Lengths.{rows_short, three_length, name_length}

each_map : {X Y : Type 0} (P : Y → Type 0) (f : X → Y) (xs : List X) → AllByRecursion (λ x. P (f x)) xs → AllByRecursion P (map f xs)
each_map P f [] h = tt
each_map P f (x ∷ xs) h = (h.0, each_map P f xs h.1)

module _ (s : Schema) (sp : Spine) (sound : IsSound sp) (named : (l : ℕ) → l < sp.depth → name_test 32 (level_name s l) ≡ true) where
  parent_short : (u : ℕ) → IsUnit sp u → length (parent_code sp u) ≤ 16
  parent_short u here = by (parent_of sp u) (λ p e. let has = parent_tells sp u (nation_of sp) p sound.tree here e in sound.coded p has.here)
    where
      by : (o : Option ℕ) → ((p : ℕ) → o ≡ Some p → name_test 16 (code_of sp p) ≡ true) → length (elim o as (λ _. List ℕ) [ Some p ↦ code_of sp p | None ↦ [] ]) ≤ 16
      by None h = omega arith
      by (Some p) h = name_length 16 (code_of sp p) (h p refl)

  unit_short : (u : ℕ) → IsUnit sp u → length (row_text (unit_row s sp u)) ≤ 67
  unit_short u here =
      let code = name_length 16 (code_of sp u) (sound.coded u here) in
      let level = name_length 32 (level_name s (level_of sp u)) (named (level_of sp u) (sound.tree.within u here)) in
      let parent = parent_short u here in
      let all = three_length (code_of sp u) (level_name s (level_of sp u)) (parent_code sp u) in
      omega (arith, all, code, level, parent)

  pub spine_short : length sp.units ≤ 2 ^ 17 → length (spine_text s sp) ≤ 2 ^ 28
  spine_short few =
      let body = rows_short 67 (unit_rows s sp) (each_map (λ row. length (row_text row) ≤ 67) (unit_row s sp) (unit_numbers sp)
      (each_range (λ u. length (row_text (unit_row s sp u)) ≤ 67) 0 (length sp.units) (λ u lo hi. unit_short u (omega (arith, hi))))) in
      let count = length-map-range_with_len (unit_row s sp) 0 (length sp.units) in
      let first : length (row_text header) ≡ 18 = refl in
      let all = length-append (row_text header) (flat_map row_text (unit_rows s sp)) in
      omega (arith, body, count, few, first, all)
