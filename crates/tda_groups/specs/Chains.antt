-- The groups of a level in order, the smallest group of a cell, and the next larger group of a group. Of the groups that hold
-- a cell each holds all later ones, so that the last of them is the smallest.
use Rattle.std.specs.Prelude.{ℕ, zero, suc, Bool, cond, List, [], ◌∷◌, length, ◌&&◌, ◌||◌, ◌==◌, nat_lt, if◌then◌else◌}
use Rattle.tda_model.specs.Schema.{Schema, Level}
use Rattle.tda_model.specs.Groups.{group_sets, each_once}
use Rattle.tda_schema.specs.Parts.{holds}
use Rattle.tda_groups.specs.Order.{group_at, first_cell}

-- the one whose first cell is less comes first, and of two with one first cell the larger
abbrev pub comes_before : List ℕ → List ℕ → Bool
comes_before xs ys = nat_lt (first_cell xs) (first_cell ys) || (first_cell xs == first_cell ys) && nat_lt (length ys) (length xs)

abbrev pub insert_in_order : List ℕ → List (List ℕ) → List (List ℕ)
insert_in_order xs [] = xs ∷ []
insert_in_order xs (ys ∷ rest) = if comes_before xs ys then xs ∷ ys ∷ rest else ys ∷ insert_in_order xs rest

abbrev pub sets_in_order : List (List ℕ) → List (List ℕ)
sets_in_order [] = []
sets_in_order (xs ∷ rest) = insert_in_order xs (sets_in_order rest)

-- all groups of the level, once each and in order
abbrev pub groups_in_order : Schema → Level → List (List ℕ)
groups_in_order s l = sets_in_order (each_once (group_sets s l))

-- the last number below n that passes, and 0 where none does
abbrev pub last_passing : (ℕ → Bool) → ℕ → ℕ
last_passing p zero = 0
last_passing p (suc n) = cond (p n) n (last_passing p n)

abbrev pub has_cell : List (List ℕ) → ℕ → ℕ → Bool
has_cell groups cell g = holds (group_at groups g) cell

-- the last group that has the cell
abbrev pub smallest_of : List (List ℕ) → ℕ → ℕ
smallest_of groups cell = last_passing (has_cell groups cell) (length groups)

-- the last group before it that has its first cell; group 0 has none
abbrev pub next_of : List (List ℕ) → ℕ → ℕ
next_of groups g = last_passing (has_cell groups (first_cell (group_at groups g))) g
