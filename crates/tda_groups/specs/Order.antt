-- The order of a level's groups, and what holds of groups that are nested and stand in it.
use Rattle.std.specs.Prelude.{ℕ, ◌≡◌, ◌<◌, ◌≤◌, ◌⊎◌, ◌^◌, ◌==◌, Bool, not, List, [], length, slice_index, slice_index_or, All, Contains, Option, None, MatchOption}
use Rattle.std.specs.List.{AllPairs}
use Rattle.std.specs.List.Sorted.{IsStrictlyIncreasing}
use Rattle.tda_model.specs.Groups.{AreNested}

-- each cell of the one is a cell of the other
abbrev pub IsWithin : List ℕ → List ℕ → Type 0
IsWithin xs ys = All (Contains ys) xs

abbrev pub first_cell : List ℕ → ℕ
first_cell xs = slice_index xs 0

-- the group whose first cell is less comes first, and of two with one first cell the larger
abbrev pub ComesBefore : List ℕ → List ℕ → Type 0
ComesBefore xs ys = (first_cell xs < first_cell ys) ⊎ ((first_cell xs ≡ first_cell ys) × (length ys < length xs))

-- the same, or one may be the other
abbrev pub ComesNoLater : List ℕ → List ℕ → Type 0
ComesNoLater xs ys = (first_cell xs < first_cell ys) ⊎ ((first_cell xs ≡ first_cell ys) × (length ys ≤ length xs))

abbrev pub has_cells : List ℕ → Bool
has_cells xs = not (length xs == 0)

-- a set of cells: some, each once, ascending
pub record IsCellSet (xs : List ℕ) : Type 0 where
  pub some : 1 ≤ length xs
  pub ascending : IsStrictlyIncreasing xs

-- the group of a number
abbrev pub group_at : List (List ℕ) → ℕ → List ℕ
group_at groups g = slice_index_or groups g []

-- groups in order, each two of them nested, of which the first holds all others
pub record AreGroups (groups : List (List ℕ)) : Type 0 where
  pub some : 1 ≤ length groups
  pub sets : All IsCellSet groups
  pub ordered : AllPairs ComesBefore groups
  pub nested : All (λ xs. All (AreNested xs) groups) groups
  pub whole : All (λ xs. IsWithin xs (group_at groups 0)) groups

-- the least group that has the cell
pub record IsSmallest (groups : List (List ℕ)) (cell g : ℕ) : Type 0 where
  pub here : g < length groups
  pub has : Contains (group_at groups g) cell
  pub least : (h : ℕ) → h < length groups → Contains (group_at groups h) cell → IsWithin (group_at groups g) (group_at groups h)

-- the least group that holds the group and is another one; its number is less
pub record IsNext (groups : List (List ℕ)) (g h : ℕ) : Type 0 where
  pub less : h < g
  pub larger : IsWithin (group_at groups g) (group_at groups h)
  pub least : (k : ℕ) → k < length groups → IsWithin (group_at groups g) (group_at groups k) → (k ≡ g → ⊥) → IsWithin (group_at groups h) (group_at groups k)

-- what a tree keeps beside its groups: the next of each, and of each cell the smallest
pub record AreLinked (groups : List (List ℕ)) (next smallest : List (Option ℕ)) : Type 0 where
  pub in_order : AreGroups groups
  pub few : length groups < 2 ^ 32
  pub next_count : length next ≡ length groups
  pub next_is : (g : ℕ) → g < length groups → MatchOption (slice_index_or next g None) (g ≡ 0) (IsNext groups g)
  pub smallest_count : (cell : ℕ) → Contains (group_at groups 0) cell → cell < length smallest
  pub smallest_is : (cell : ℕ) → Contains (group_at groups 0) cell → MatchOption (slice_index_or smallest cell None) ⊥ (IsSmallest groups cell)
