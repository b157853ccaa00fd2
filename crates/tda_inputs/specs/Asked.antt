-- Names that an inbox was asked for.
use Rattle.std.specs.Prelude.{ℕ, List, ◌++◌, length, Option, ◌≡◌, ◌≤◌, take, option_map}
use Rattle.tda_io.specs.Outside.{Shelf}

-- the shelf with more names asked for
abbrev pub asks_all : List (List ℕ) → Shelf → Shelf
asks_all names s = record s { asked = s.asked ++ names }

-- the first ones of these names, and no others, were asked for
pub record AsksPrefix (names : List (List ℕ)) (old new : Option Shelf) : Type 0 where
  pub count : ℕ
  pub within : count ≤ length names
  pub asked : new ≡ option_map (asks_all (take count names)) old
