-- Families of disjoint sets of the numbers below a count. A family gives for each number the least member of its set,
-- by which the set is named, and nothing where the number is in no set.
use Rattle.std.specs.Prelude.{ℕ, ◌≡◌, ◌==◌, ◌≤◌, ◌^◌, Bool, true, ◌&&◌, ◌+◌, ◌*◌, List, length, map, filter, Option, Some, None, is_some, option_map, nat_eq, slice_index, slice_index_or, if◌then◌else◌}
use Rattle.std.specs.List.{range_with_len}
use Rattle.std.specs.Option.{option_eq}

abbrev pub Names : Type 0
Names = List (Option ℕ)

abbrev pub name_at : Names → ℕ → Option ℕ
name_at names i = slice_index_or names i None

-- the number is in the set of this least member
abbrev pub is_in : Names → ℕ → ℕ → Bool
is_in names first i = option_eq nat_eq (name_at names i) (Some first)

-- the set of a least member
abbrev pub set_of : Names → ℕ → List ℕ
set_of names first = filter (is_in names first) (range_with_len 0 (length names))

-- the least members, in order
abbrev pub firsts : Names → List ℕ
firsts names = filter (λ i. is_in names i i) (range_with_len 0 (length names))

abbrev pub sets_of : Names → List (List ℕ)
sets_of names = map (set_of names) (firsts names)

-- each set is named by its least member
pub record IsFamily (names : Names) : Type 0 where
  pub few : length names ≤ 2 ^ 32
  pub least : (first i : ℕ) → is_in names first i ≡ true → first ≤ i
  pub named : (first i : ℕ) → is_in names first i ≡ true → is_in names first first ≡ true

-- two numbers are in one set, or both in none
abbrev pub are_together : Names → ℕ → ℕ → Bool
are_together names i j = option_eq nat_eq (name_at names i) (name_at names j)

-- whether a number is in a set
abbrev pub is_member : Names → ℕ → Bool
is_member names i = is_some (name_at names i)

-- The family of the members below a count in which those that are alike are in one set.
abbrev pub first_alike : ℕ → (ℕ → Bool) → (ℕ → ℕ → Bool) → ℕ → ℕ
first_alike count is_member alike i = slice_index (filter (alike i) (filter is_member (range_with_len 0 count))) 0

abbrev pub name_of : ℕ → (ℕ → Bool) → (ℕ → ℕ → Bool) → ℕ → Option ℕ
name_of count is_member alike i = if is_member i then Some (first_alike count is_member alike i) else None

abbrev pub family_of : ℕ → (ℕ → Bool) → (ℕ → ℕ → Bool) → Names
family_of count is_member alike = map (name_of count is_member alike) (range_with_len 0 count)

-- the digit of a number's value
abbrev pub digit_at : List ℕ → List ℕ → ℕ → ℕ
digit_at values digits i = slice_index digits (slice_index values i)

-- a key by a number's set and the digit of its value, which is below the number of digits
abbrev pub split_key : Names → List ℕ → List ℕ → ℕ → Option ℕ
split_key names values digits i = option_map (λ first. first * length digits + digit_at values digits i) (name_at names i)

-- two numbers are in one set, and their values have one digit
abbrev pub are_alike : Names → List ℕ → List ℕ → ℕ → ℕ → Bool
are_alike names values digits i j = are_together names i j && (digit_at values digits i == digit_at values digits j)
