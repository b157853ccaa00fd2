-- Facilities agree with the counts of tables where they agree with the tables.
use Rattle.std.proofs.Common.{◌≡◌, ℕ, ◌==◌, filter, ◌∙◌, arith}
use Rattle.tda_model.specs.Cells.{cell_count, kind_of, all_cells}
use Rattle.tda_model.specs.Schema.{Schema}
use Rattle.tda_model.specs.Spine.{Spine, IsUnit}
use Rattle.tda_model.specs.Tables.{Tables, kind_sum}
use Rattle.tda_model.proofs.Sums.{each_filter, each_range, sum_same}
use Rattle.tda_invar.specs.KindTable.{NumberTable}
use Rattle.tda_out.specs.Counts.{count_at, counts_of}
use Rattle.tda_out.proofs.RowLemmas.{count_of}
use Rattle.tda_demo_laws.proofs.AgreeBack.{Agrees}

module _ (s : Schema) (sp : Spine) (x : Tables) where
  sums_same : (b k : ℕ) → IsUnit sp b → kind_sum s k (count_at (counts_of s sp x) b) ≡ kind_sum s k (x b)
  sums_same b k here =
      sum_same (count_at (counts_of s sp x) b) (x b) (filter (λ j. kind_of s j == k) (all_cells s))
      (each_filter _ (λ j. kind_of s j == k) (all_cells s) (each_range _ 0 (cell_count s) (λ j lo hi at. count_of s sp x b j here (omega (arith, hi)))))

  pub counted_agrees : (f : NumberTable) (b k : ℕ) → IsUnit sp b → Agrees s f x b k → Agrees s f (count_at (counts_of s sp x)) b k
  counted_agrees f b k here a =
      let same = sums_same b k here in
      let enough = a.enough in
      record { enough = omega (arith, same, enough); nobody = λ z. same ∙ a.nobody z }
