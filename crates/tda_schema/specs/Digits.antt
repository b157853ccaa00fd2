-- Digits of an attribute's values, by which cells are told apart.
use Rattle.std.specs.Prelude.{ℕ, ◌≡◌, ◌==◌, ◌<◌, Bool, List, [], length, All, slice_index, slice_index_or}
use Rattle.std.specs.Str.{bytes_eq}

-- a digit for each of so many values, one digit where two values are alike
pub record AreDigits (count : ℕ) (alike : ℕ → ℕ → Bool) (digits : List ℕ) : Type 0 where
  pub room : length digits ≡ count
  pub below : All (λ d. d < length digits) digits
  pub same : (v w : ℕ) → v < count → w < count → (slice_index digits v == slice_index digits w) ≡ alike v w

-- two values have one label
abbrev pub labelled_alike : List (List ℕ) → ℕ → ℕ → Bool
labelled_alike labels v w = bytes_eq (slice_index_or labels v []) (slice_index_or labels w [])
