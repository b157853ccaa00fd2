-- A deviation looks at the counts of units and cells alone.
use Rattle.std.proofs.Common.{◌≡◌, ℕ, ℤ, pos, ◌+◌, ◌*◌, ◌<◌, ◌-ℤ◌, Bool, true, List, [], ◌∷◌, length, filter, Option, Some, None, slice_get, refl, ap, arith}
use Rattle.std.specs.List.{sum_by}
use Rattle.tda_model.specs.Cells.{cell_count, is_listed, is_possible, all_cells, possible_cells}
use Rattle.tda_model.specs.Commons.{common_of}
use Rattle.tda_model.specs.Deviation.{square, weight_of, query_deviation, deviation_from, deviation}
use Rattle.tda_model.specs.Groups.{one_class, scope_cells, class_cells, classes_of}
use Rattle.tda_model.specs.Schema.{Schema, Level, Query}
use Rattle.tda_model.specs.Spine.{IsUnit, level_of, unit_numbers}
use Rattle.tda_model.specs.Tables.{Table, Tables}
use Rattle.tda_model.specs.Release.{Inputs, deviation_at}
use Rattle.tda_model.proofs.Sums.{Each, each_any, each_filter, each_range, each_weaker, sum_same}
use Rattle.tda_release.specs.Certified.{total_deviation}

kept : {X : Type 0} (P : X → Type 0) (p : X → Bool) (xs : List X) → Each P xs → Each P (filter p xs)
kept P p xs h = each_filter P p xs (each_weaker P (λ x. p x ≡ true → P x) xs (λ x is at. is) h)

module _ (s : Schema) (x y : Table) (same : (j : ℕ) → j < cell_count s → x j ≡ y j) where
  abbrev Same : ℕ → Type 0
  Same j = x j ≡ y j

  cells_same : Each Same (all_cells s)
  cells_same = each_range Same 0 (cell_count s) (λ j lo hi. same j (omega (arith, hi)))

  class_same : (q : Query) (c : ℕ) → sum_by x (class_cells s q c) ≡ sum_by y (class_cells s q c)
  class_same q c =
      sum_same x y (class_cells s q c)
      (kept Same (one_class s q c) (scope_cells s q) (kept Same (is_listed s q.only) (possible_cells s) (kept Same (is_possible s) (all_cells s) cells_same)))

  query_same : (common : ℕ) (q : Query) (measured : ℕ → ℤ) → query_deviation square s common q measured x ≡ query_deviation square s common q measured y
  query_same common q measured =
      sum_same (λ c. weight_of common q * square (pos (sum_by x (class_cells s q c)) -ℤ measured c)) (λ c. weight_of common q * square (pos (sum_by y (class_cells s q c)) -ℤ measured c))
      (classes_of s q) (each_any _ (classes_of s q) (λ c. ap (λ n. weight_of common q * square (pos n -ℤ measured c)) (class_same q c)))

  queries_same : (common n : ℕ) (qs : List Query) (measured : ℕ → ℕ → ℤ) → deviation_from square s common n qs measured x ≡ deviation_from square s common n qs measured y
  queries_same common n [] measured = refl
  queries_same common n (q ∷ qs) measured =
      let here = query_same common q (measured n) in
      let rest = queries_same common (n + 1) qs measured in
      omega arith

  abbrev at_level : ℕ → (ℕ → ℕ → ℤ) → Table → Option Level → ℕ
  at_level common measured z l = elim l [ Some a ↦ deviation square s common a measured z | None ↦ 0 ]

  level_same : (common : ℕ) (l : Option Level) (measured : ℕ → ℕ → ℤ) → at_level common measured x l ≡ at_level common measured y l
  level_same common None measured = refl
  level_same common (Some l) measured = queries_same common 0 l.queries measured

-- the deviation of all units together
pub same_deviation : (i : Inputs) (x y : Tables) → ((u j : ℕ) → IsUnit i.spine u → j < cell_count i.schema → x u j ≡ y u j) → total_deviation i x ≡ total_deviation i y
same_deviation i x y same =
    sum_same (λ u. deviation_at square i u (x u)) (λ u. deviation_at square i u (y u)) (unit_numbers i.spine)
    (each_range _ 0 (length i.spine.units) (λ u lo hi.
    level_same i.schema (x u) (y u) (λ j low. same u j (omega (arith, hi)) low) (common_of i.schema) (slice_get i.schema.levels (level_of i.spine u)) (i.measured u)))
