-- A regular spine in preorder. At each level every unit has as many children as the others, and a unit's code is its
-- parent's, a letter and its number among them.
use Rattle.std.specs.Prelude.{ℕ, ◌+◌, ◌*◌, List, [], ◌∷◌, ◌++◌, length, Some, None}
use Rattle.std.specs.Fmt.{decimal}
use Rattle.std.specs.List.{flat_map, range_with_len}
use Rattle.tda_model.specs.Spine.{SpineUnit, Spine}

-- the units of one level below a unit of the level above: their letter, and how many there are
pub record Branch : Type 0 where
  pub letter : ℕ
  pub count : ℕ

-- a unit and all units below it
abbrev pub tree_size : List Branch → ℕ
tree_size [] = 1
tree_size (b ∷ bs) = 1 + b.count * tree_size bs

-- the code of the child of a number, from 0, below a unit of which the codes below it begin so
abbrev pub child_code : List ℕ → Branch → ℕ → List ℕ
child_code stem b k = stem ++ (b.letter ∷ decimal (k + 1))

-- that child's place among all units, where its parent stands at a place
abbrev pub child_place : ℕ → List Branch → ℕ → ℕ
child_place at bs k = at + 1 + k * tree_size bs

abbrev pub child : ℕ → ℕ → List ℕ → Branch → ℕ → SpineUnit
child level at stem b k = record { code = child_code stem b k; level = level + 1; parent = Some at }

-- the units below a unit of a level, at a place: each child, and after it the units below that
abbrev pub units_below : List Branch → ℕ → ℕ → List ℕ → List SpineUnit
units_below [] level at stem = []
units_below (b ∷ bs) level at stem =
    flat_map (λ k. child level at stem b k ∷ units_below bs (level + 1) (child_place at bs k) (child_code stem b k)) (range_with_len 0 b.count)

-- the nation, in whose code no other begins, and the units below it
abbrev pub nation : List ℕ → SpineUnit
nation code = record { code = code; level = 0; parent = None }

abbrev pub regular_spine : List ℕ → List Branch → Spine
regular_spine code bs = record { depth = length bs + 1; units = nation code ∷ units_below bs 0 0 [] }
