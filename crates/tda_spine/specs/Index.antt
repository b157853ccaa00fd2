-- An index of codes: the place of each code that was added, which is that of its first adding.
use Rattle.std.specs.Prelude.{ℕ, List, Option}
use Rattle.std.specs.Str.{bytes_eq}
use Rattle.std.specs.Map.{lookup}

abbrev pub Codes : Type 0
Codes = List (List ℕ × ℕ)

-- the place of a code
abbrev pub found : Codes → List ℕ → Option ℕ
found index code = lookup (bytes_eq code) index
