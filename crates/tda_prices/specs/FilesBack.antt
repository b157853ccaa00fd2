-- What is written is accepted and gives the value back, and no file is longer than its reader takes.
use Rattle.std.specs.Prelude.{◌≡◌, ◌≤◌, ◌^◌, ℤ, List, length, Ok}
use Rattle.tda_model.specs.Schema.{Schema}
use Rattle.tda_model.specs.Spine.{Spine}
use Rattle.tda_model.specs.Tables.{Tables}
use Rattle.tda_model.specs.TablesText.{tables_text}
use Rattle.tda_out.specs.Counts.{counts_of}
use Rattle.tda_out.specs.Written.{AreFew}
use Rattle.tda_prices.specs.PricesText as prices
use Rattle.tda_prices.specs.PricesText.{ArePrices, prices_text}
use Rattle.tda_prices.specs.TablesRead as tables

-- each file of prices gives its prices back
abbrev pub PricesAreReadBack : Schema → Spine → Type 0
PricesAreReadBack s sp = (numbers : List ℤ) → ArePrices s sp numbers → prices.read s sp (prices_text s sp numbers) ≡ Ok numbers

-- each has at most 2^30 bytes
abbrev pub PricesAreShort : Schema → Spine → Type 0
PricesAreShort s sp = (numbers : List ℤ) → ArePrices s sp numbers → length (prices_text s sp numbers) ≤ 2 ^ 30

-- each file of tables gives the counts back
abbrev pub TablesAreReadBack : Schema → Spine → Type 0
TablesAreReadBack s sp = (x : Tables) → AreFew x → tables.read s sp (tables_text s sp x) ≡ Ok (counts_of s sp x)

-- each has at most 2^30 bytes
abbrev pub TablesAreShort : Schema → Spine → Type 0
TablesAreShort s sp = (x : Tables) → AreFew x → length (tables_text s sp x) ≤ 2 ^ 30
