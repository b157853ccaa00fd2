-- An option as a list.
use Rattle.std.specs.Prelude.{List, [], ◌∷◌, Option, Some, None}

-- what is there, alone
abbrev pub listed : {X : Type 0} → Option X → List X
listed (Some x) = x ∷ []
listed None = []
