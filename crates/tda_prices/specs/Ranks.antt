-- Where each unit stands in the order of the file of tables.
use Rattle.std.specs.Prelude.{◌≡◌, ◌+◌, ℕ, List, [], ◌∷◌, length, slice_get, slice_index, slice_set, Some}
use Rattle.tda_model.specs.Spine.{Spine, IsUnit}
use Rattle.tda_model.specs.TablesText.{units_in_order}

-- the units get the numbers from a first one on
abbrev pub ranked : List ℕ → List ℕ → ℕ → List ℕ
ranked ranks [] first = ranks
ranked ranks (u ∷ us) first = ranked (slice_set ranks u first) us (first + 1)

-- each unit stands at its rank
pub record AreRanks (sp : Spine) (ranks : List ℕ) : Type 0 where
  pub size : length ranks ≡ length sp.units
  pub there : (u : ℕ) → IsUnit sp u → slice_get (units_in_order sp) (slice_index ranks u) ≡ Some u
