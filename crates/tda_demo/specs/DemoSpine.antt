-- The demo's spine of a size: two states of three counties of four tracts of so many blocks.
use Rattle.std.specs.Prelude.{codes, ℕ, List, [], ◌∷◌}
use Rattle.tda_model.specs.Spine.{Spine}
use Rattle.tda_demo.specs.Preorder.{Branch, regular_spine}

abbrev pub states : Branch
states = record { letter = 83; count = 2 }

abbrev pub counties : Branch
counties = record { letter = 67; count = 3 }

abbrev pub tracts : Branch
tracts = record { letter = 84; count = 4 }

abbrev pub blocks : ℕ → Branch
blocks size = record { letter = 66; count = size }

-- by the letters `S`, `C`, `T` and `B`
abbrev pub branches : ℕ → List Branch
branches size = states ∷ counties ∷ tracts ∷ blocks size ∷ []

abbrev pub spine : ℕ → Spine
spine size = regular_spine (codes "US") (branches size)
