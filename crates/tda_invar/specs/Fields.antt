-- What the fields of a row name: a unit of a level, and a count.
use Rattle.std.specs.Prelude.{◌≡◌, ℕ, ℤ, pos, negsuc, Bool, List, [], if◌then◌else◌, slice_index_or, nat_le, Option, Some, None, option_and_then}
use Rattle.std.specs.List.{list_any}
use Rattle.std.specs.Str.{bytes_eq}
use Rattle.tda_io.specs.Csv.{Row}
use Rattle.tda_io.specs.Texts.{int_of}
use Rattle.tda_model.specs.Spine.{Spine, IsUnit, code_of, level_of, units_at}

abbrev pub field_in : Row → ℕ → List ℕ
field_in row column = slice_index_or row column []

-- the text is the code of a unit of the level
abbrev pub is_unit_at : Spine → ℕ → List ℕ → Bool
is_unit_at sp level text = list_any (λ u. bytes_eq text (code_of sp u)) (units_at sp level)

-- the unit of the level that has this code
pub record IsNamed (sp : Spine) (level : ℕ) (text : List ℕ) (u : ℕ) : Type 0 where
  pub here : IsUnit sp u
  pub at : level_of sp u ≡ level
  pub named : code_of sp u ≡ text

-- a number from 0 to the most
abbrev pub up_to : ℕ → ℤ → Option ℕ
up_to most (pos n) = if nat_le n most then Some n else None
up_to most (negsuc n) = None

-- the number from 0 to the most that a text is the canonical decimal of
abbrev pub count_named : ℕ → List ℕ → Option ℕ
count_named most text = option_and_then (up_to most) (int_of text)
