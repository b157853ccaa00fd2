-- What is known of the counts and shares from which the split of the nation begins.
use Rattle.std.specs.Prelude.{ℕ, ◌≡◌, ◌≤◌, List, length, slice_index}
use Rattle.tda_model.specs.Schema.{Schema}
use Rattle.tda_model.specs.Cells.{cell_count}
use Rattle.tda_model.specs.Spine.{Spine, nation_of}
use Rattle.tda_model.specs.Tables.{persons_in, Attainable}
use Rattle.tda_model.specs.Bounds.{persons_limit}
use Rattle.tda_invar.specs.Known.{JoinedLists, known_of}
use Rattle.tda_fitnet.specs.Fits.{AreListedShares}

-- a table that the nation can have, with shares
pub record IsBegun (s : Schema) (sp : Spine) (inv : JoinedLists) (counts shares : List ℕ) : Type 0 where
  pub size : length counts ≡ cell_count s
  pub can_be : Attainable s sp (known_of sp inv) (nation_of sp) (slice_index counts)
  pub few : persons_in s (slice_index counts) ≤ persons_limit
  pub listed : AreListedShares s sp (known_of sp inv) (slice_index counts) shares
