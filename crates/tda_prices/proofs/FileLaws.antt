-- What is written is read back, and no file is longer than its reader takes.
use Rattle.std.proofs.Common.{◌≤◌, All, length, arith}
use Rattle.tda_model.specs.Schema.{Schema}
use Rattle.tda_model.specs.Cells.{cell_count, is_possible, possible_cells}
use Rattle.tda_model.specs.Groups.{kind_count, LevelIsNested}
use Rattle.tda_model.specs.Spine.{Spine, level_of}
use Rattle.tda_spine.specs.Judged.{IsWithinLimits}
use Rattle.tda_spine.specs.Sound.{IsSound}
use Rattle.tda_spine.proofs.Numbers.{length-kept-le}
use Rattle.tda_prices.specs.FilesBack.{PricesAreReadBack, PricesAreShort, TablesAreReadBack, TablesAreShort}
use Rattle.tda_prices.proofs.GroupCount.{few_groups}
use Rattle.tda_prices.proofs.PricesBack.{IsSmall, prices_back, text_length}
use Rattle.tda_prices.proofs.TablesAccepted.{tables_back, tables_length}

module _ (s : Schema) (sp : Spine) (sound : IsSound sp) (cells : cell_count s ≤ 4096) where
  possible : length (possible_cells s) ≤ cell_count s
  possible = length-kept-le (is_possible s) (cell_count s)

  module _ (kinds : kind_count s ≤ 128) (nested : All (LevelIsNested s) s.levels) where
    small : IsSmall s
    small = record {
      kinds = omega (arith, kinds);
      cells = omega (arith, cells);
      groups = λ level. let few = few_groups s nested level in omega (arith, few, possible, cells);
    }

    pub prices_read_back : PricesAreReadBack s sp
    prices_read_back numbers are = prices_back s sp sound small numbers are

    pub prices_short : IsWithinLimits s sp → PricesAreShort s sp
    prices_short within numbers are =
        text_length s sp sound small numbers are within.units within.counts kinds possible (λ u here. let few = few_groups s nested (level_of sp u) in omega (arith, few, possible))

  pub tables_read_back : TablesAreReadBack s sp
  tables_read_back x few = tables_back s sp sound (omega (arith, cells)) x few

  pub tables_short : IsWithinLimits s sp → TablesAreShort s sp
  tables_short within x few = tables_length s sp sound (omega (arith, cells)) x few cells within.counts
