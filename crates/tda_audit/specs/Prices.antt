-- The prices of parts of a fit, as they stand in its list of prices.
use Rattle.std.specs.Prelude.{ℕ, ◌≡◌, ◌+◌, ◌*◌, ◌<◌, ℤ, pos, List, length, slice_index, slice_index_or, Option, Some, None}
use Rattle.tda_model.specs.Schema.{Schema}
use Rattle.tda_model.specs.Cells.{kind_of, possible_cells}
use Rattle.tda_model.specs.Groups.{kind_count}
use Rattle.tda_model.specs.Spine.{Spine, units_at, children_of}
use Rattle.tda_prices.specs.Items.{Item, OfState, OfKind, OfCell, OfGroup, Pricing}

-- the prices of the states in the root fit
pub record AreStatePrices (sp : Spine) (price : Pricing) (list : List ℤ) : Type 0 where
  pub each : (n : ℕ) → n < length list → slice_index_or list n (pos 0) ≡ price None (OfState (slice_index (units_at sp 1) n))

-- what gives cells their persons, by number: in the root fit a kind, in a split a possible cell of the parent
abbrev pub giver_at : Schema → Option ℕ → ℕ → Item
giver_at s None k = OfKind k
giver_at s (Some p) r = OfCell (slice_index (possible_cells s) r)

-- the number of the giver of the possible cell of a rank
abbrev pub giver_number : Schema → Option ℕ → ℕ → ℕ → ℕ
giver_number s None rank cell = kind_of s cell
giver_number s (Some p) rank cell = rank

abbrev pub giver_count : Schema → Option ℕ → ℕ
giver_count s None = kind_count s
giver_count s (Some p) = length (possible_cells s)

-- the prices of a fit's givers
pub record AreGiverPrices (s : Schema) (price : Pricing) (fit : Option ℕ) (list : List ℤ) : Type 0 where
  pub each : (k : ℕ) → k < length list → slice_index_or list k (pos 0) ≡ price fit (giver_at s fit k)

-- the prices of a unit's groups in a fit
pub record AreGroupPrices (price : Pricing) (fit : Option ℕ) (unit : ℕ) (list : List ℤ) : Type 0 where
  pub each : (g : ℕ) → g < length list → slice_index_or list g (pos 0) ≡ price fit (OfGroup unit g)

-- those of the groups of all children of a unit, one child after the other, so many a child
pub record AreChildPrices (sp : Spine) (price : Pricing) (parent groups : ℕ) (list : List ℤ) : Type 0 where
  pub each : (u g : ℕ) → u < length (children_of sp parent) → g < groups
      → slice_index_or list (u * groups + g) (pos 0) ≡ price (Some parent) (OfGroup (slice_index (children_of sp parent) u) g)
