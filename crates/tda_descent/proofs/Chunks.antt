-- The counts of a family, unit by unit.
use Rattle.std.proofs.Common.{◌≡◌, ℕ, zero, suc, ◌+◌, ◌-◌, ◌*◌, ◌<◌, List, [], ◌∷◌, ◌++◌, length, get_or, take, drop, refl, sym, ap, ◌∙◌, arith, length-append}
use Rattle.std.specs.List.{range_with_len, slice_range}
use Rattle.std.proofs.lemmas.List.{length-map}
use Rattle.std.proofs.lemmas.List.FromFn.{length-range_with_len}
use Rattle.std.proofs.Math.Nat.{suc-mul}
use Rattle.std.proofs.Math.Seq.{drop-append-add, take-append_seam}
use Rattle.tda_model.specs.Schema.{Schema}
use Rattle.tda_model.specs.Cells.{cell_count}
use Rattle.tda_model.specs.Tables.{Tables}
use Rattle.tda_model.specs.First.{family_counts, counts_of}

module _ (s : Schema) (x : Tables) where
  pub counts_length : (u : ℕ) → length (counts_of s (x u)) ≡ cell_count s
  counts_length u = length-map (range_with_len 0 (cell_count s)) (x u) ∙ length-range_with_len 0 (cell_count s)

  pub family_length : (units : List ℕ) → length (family_counts s units x) ≡ length units * cell_count s
  family_length [] = omega arith
  family_length (u ∷ units) =
      let n = cell_count s in
      let step : suc (length units) * n ≡ n + length units * n = omega (arith, suc-mul (length units) n) in
      length-append (counts_of s (x u)) (family_counts s units x) ∙ omega (arith, counts_length u, family_length units, step)

  part_at : (units : List ℕ) (n from : ℕ) → n < length units → from ≡ n * cell_count s → take (cell_count s) (drop from (family_counts s units x)) ≡ counts_of s (x (get_or units n 0))
  part_at [] n from l e = absurd (omega arith)
  part_at (u ∷ units) zero from l e =
      let none : from ≡ 0 = omega (arith, e) in
      let first = counts_of s (x u) in
      let rest = family_counts s units x in
      ap (λ k. take (cell_count s) (drop k (first ++ rest))) none ∙ ap (λ k. take k (first ++ rest)) (sym (counts_length u)) ∙ take-append_seam first rest
  part_at (u ∷ units) (suc n) from l e =
      let first = counts_of s (x u) in
      let rest = family_counts s units x in
      let back : from ≡ length first + n * cell_count s = omega (arith, counts_length u, suc-mul n (cell_count s)) in
      ap (λ k. take (cell_count s) (drop k (first ++ rest))) back ∙ ap (take (cell_count s)) (drop-append-add first rest (n * cell_count s))
      ∙ part_at units n (n * cell_count s) (omega arith) refl

  pub part_is : (units : List ℕ) (n from to : ℕ) → n < length units → from ≡ n * cell_count s → to ≡ (n + 1) * cell_count s
      → slice_range (family_counts s units x) from to ≡ counts_of s (x (get_or units n 0))
  part_is units n from to l e h =
      let wide : to - from ≡ cell_count s = omega (arith, suc-mul n (cell_count s)) in
      ap (λ k. take k (drop from (family_counts s units x))) wide ∙ part_at units n from l e
