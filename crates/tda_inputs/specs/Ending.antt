-- How the reading of a file may end, and how a file is judged.
use Rattle.std.specs.Prelude.{ℕ, ◌^◌, if◌then◌else◌, codes, List, [], ◌∷◌, ◌++◌, length, nat_lt, Option, Some, None, Result, Ok, Err}
use Rattle.tda_refusal.specs.Refusal.{plain_text}
use Rattle.tda_refusal.specs.declared.text.Plain.TheVariants.{TooLong}

-- a status and a report
pub record Ending : Type 0 where
  pub status : ℕ
  pub report : List ℕ

abbrev pub line : List ℕ → List ℕ
line text = text ++ 10 ∷ []

-- a file wasn't accepted, with the text of its fault
abbrev pub refused_ending : List ℕ → List ℕ → Ending
refused_ending file fault = record { status = 3; report = line (codes "refused " ++ file ++ 32 ∷ fault) }

-- a file couldn't be read
abbrev pub read_ending : List ℕ → Ending
read_ending file = record { status = 4; report = line (codes "read " ++ file) }

-- the longest file that is read, that of a kind that the program writes too, and the length of a seed
abbrev pub file_limit : ℕ
file_limit = 2 ^ 28

abbrev pub written_limit : ℕ
written_limit = 2 ^ 30

abbrev pub seed_length : ℕ
seed_length = 32

-- what was judged, or how the program ends: the file is refused with the text of the fault
abbrev pub or_refused : {A F : Type 0} → List ℕ → (F → List ℕ) → Result A F → Result A Ending
or_refused file text (Ok x) = Ok x
or_refused file text (Err f) = Err (refused_ending file (text f))

-- What a file is, by the bytes that the read gave, or how the program ends: a read that failed gave none, and a file that isn't accepted
-- is longer than its limit, or has the fault that it is read with.
abbrev pub judged_within : {A F : Type 0} → ℕ → List ℕ → (F → List ℕ) → (List ℕ → Result A F) → Option (List ℕ) → Result A Ending
judged_within limit file text read None = Err (read_ending file)
judged_within limit file text read (Some bytes) =
    if nat_lt limit (length bytes) then Err (refused_ending file (plain_text TooLong)) else or_refused file text (read bytes)

abbrev pub judged_file : {A F : Type 0} → List ℕ → (F → List ℕ) → (List ℕ → Result A F) → Option (List ℕ) → Result A Ending
judged_file file text read held = judged_within file_limit file text read held
