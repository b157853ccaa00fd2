-- The unit that a row gives.
use Rattle.std.proofs.Common.{◌≡◌, ℕ, ◌<◌, List, [], length, get_or, slice_get, unwrap_or, Option, Some, None, ap, ◌∙◌}
use Rattle.std.proofs.lemmas.List.{length-map}
use Rattle.std.proofs.lemmas.Option.{slice_get-map, slice_get-get_or}
use Rattle.tda_io.specs.Csv.{Row}
use Rattle.tda_model.specs.Schema.{Schema}
use Rattle.tda_model.specs.Spine.{SpineUnit, level_of, parent_of, code_of}
use Rattle.tda_spine.specs.Rows.{code_in, level_in, parent_place, level_named, unit_of, spine_in}

module _ (s : Schema) (rows : List Row) where
  pub many : length (spine_in s rows).units ≡ length rows
  many = length-map rows (unit_of s rows)

  module _ (u : ℕ) (here : u < length rows) where
    unit_is : slice_get (spine_in s rows).units u ≡ Some (unit_of s rows (get_or rows u []))
    unit_is = slice_get-map (unit_of s rows) rows u ∙ ap (λ o. elim o as (λ _. Option SpineUnit) [ Some r ↦ Some (unit_of s rows r) | None ↦ None ]) (slice_get-get_or rows u [] here)

    pub level_is : level_of (spine_in s rows) u ≡ unwrap_or (level_named s (level_in (get_or rows u []))) 0
    level_is = ap (λ o. elim o as (λ _. ℕ) [ Some x ↦ x.level | None ↦ 0 ]) unit_is

    pub parent_is : parent_of (spine_in s rows) u ≡ parent_place rows (get_or rows u [])
    parent_is = ap (λ o. elim o as (λ _. Option ℕ) [ Some x ↦ x.parent | None ↦ None ]) unit_is

    pub code_is : code_of (spine_in s rows) u ≡ code_in (get_or rows u [])
    code_is = ap (λ o. elim o as (λ _. List ℕ) [ Some x ↦ x.code | None ↦ [] ]) unit_is
