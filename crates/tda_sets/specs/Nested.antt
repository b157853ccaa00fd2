-- When the sets of families are nested.
use Rattle.std.specs.Prelude.{ℕ, Bool, true, not, ◌&&◌, ◌||◌, List, length, map, filter, All, Option, Some, None, slice_index_or}
use Rattle.std.specs.List.{list_all, flat_map, range_with_len}
use Rattle.std.specs.Borrow.{Bor}
use Rattle.tda_model.specs.Groups.{AreNested}
use Rattle.tda_sets.specs.Family.{Names, name_at, set_of, sets_of, are_together}

-- each two sets, one of these and one of those, are nested
abbrev pub AreAllNested : List (List ℕ) → List (List ℕ) → Type 0
AreAllNested xss yss = All (λ xs. All (AreNested xs) yss) xss

-- the sets of all the families
abbrev pub all_sets : List Names → List (List ℕ)
all_sets families = flat_map sets_of families

-- all members of a set are together in another family
abbrev pub is_kept : Names → Names → ℕ → Bool
is_kept names other first = list_all (are_together other first) (set_of names first)

-- where a set of the one and a set of the other meet in a number, one of the two is kept in the other family
abbrev pub one_is_kept : Names → Names → Option ℕ → Option ℕ → Bool
one_is_kept one other (Some first) (Some second) = is_kept one other first || is_kept other one second
one_is_kept one other _ _ = true

abbrev pub meets_well : Names → Names → ℕ → Bool
meets_well one other i = one_is_kept one other (name_at one i) (name_at other i)
