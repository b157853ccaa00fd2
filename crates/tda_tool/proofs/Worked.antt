-- Words of a release and the texts of faults, by the definitions alone.
use Rattle.std.proofs.Common.{◌≡◌, [], ◌∷◌, ◌++◌, List, ℕ, refl, Some, None, Err, codes}
use Rattle.std.specs.Fmt.{digits}
use Rattle.tda_model.specs.Schema.{Schema}
use Rattle.tda_model.specs.Spine.{Spine}
use Rattle.tda_command.specs.Words.{command_of, value_of, reads_of, writes_of}
use Rattle.tda_tool.specs.Ending.{words_ending}
use Rattle.tda_inputs.specs.Ending.{read_ending}
use Rattle.tda_tool.specs.Due.{due_task}
use Rattle.tda_refusal.specs.Refusal.{plain_text, named_text}
use Rattle.tda_refusal.specs.declared.text.Plain.TheVariants as plain
use Rattle.tda_refusal.specs.declared.text.Named.TheVariants as named
use Rattle.tda_spine.specs.declared.fault.SpineFault.TheVariants as spine_fault
use Rattle.tda_invar.specs.declared.fac_fault.FacFault.TheVariants as facility_fault
use Rattle.tda_invar.specs.declared.tot_fault.TotFault.TheVariants as total_fault
use Rattle.tda_invar.specs.declared.join_fault.JoinFault.TheVariants as join_fault
use Rattle.tda_hist.specs.declared.fault.HistFault.TheVariants as hist_fault
use Rattle.tda_command.specs.declared.words.Command.TheVariants.{Fit, Measure}

abbrev pair : List ℕ → List ℕ → List (List ℕ)
pair name value = name ∷ value ∷ []

abbrev schema : List (List ℕ)
schema = pair (codes "--schema") (codes "a")

abbrev spine : List (List ℕ)
spine = pair (codes "--spine") (codes "b")

abbrev facilities : List (List ℕ)
facilities = pair (codes "--facilities") (codes "c")

abbrev totals : List (List ℕ)
totals = pair (codes "--totals") (codes "d")

abbrev measurements : List (List ℕ)
measurements = pair (codes "--measurements") (codes "m")

abbrev prices : List (List ℕ)
prices = pair (codes "--prices") (codes "p")

abbrev fit : List (List ℕ) → List (List ℕ)
fit tables = codes "fit" ∷ schema ++ spine ++ facilities ++ totals ++ measurements ++ prices ++ tables

abbrev words : List (List ℕ)
words = fit (pair (codes "--tables") (codes "e"))

a_command : command_of words ≡ Some Fit
a_command = refl

any_order : command_of (codes "fit" ∷ pair (codes "--tables") (codes "e") ++ totals ++ schema ++ prices ++ facilities ++ measurements ++ spine) ≡ Some Fit
any_order = refl

read : reads_of words ≡ codes "a" ∷ codes "b" ∷ codes "c" ∷ codes "d" ∷ codes "m" ∷ []
read = refl

written : writes_of words ≡ codes "e" ∷ codes "p" ∷ []
written = refl

-- a value is one by its place
by_place : value_of (codes "fit" ∷ pair (codes "--schema") (codes "--spine")) (codes "schema") ≡ Some (codes "--spine")
by_place = refl

no_words : command_of [] ≡ None
no_words = refl

a_name_missing : command_of (codes "fit" ∷ schema ++ spine ++ totals ++ measurements ++ prices ++ pair (codes "--tables") (codes "e")) ≡ None
a_name_missing = refl

a_name_twice : command_of (codes "fit" ∷ schema ++ schema ++ facilities ++ totals ++ measurements ++ prices ++ pair (codes "--tables") (codes "e")) ≡ None
a_name_twice = refl

another_name : command_of (fit (pair (codes "--ledger") (codes "e"))) ≡ None
another_name = refl

to_standard_output : command_of (fit (pair (codes "--tables") (codes "-"))) ≡ None
to_standard_output = refl

over_an_input : command_of (fit (pair (codes "--tables") (codes "b"))) ≡ None
over_an_input = refl

an_empty_value : command_of (fit (pair (codes "--tables") [])) ≡ None
an_empty_value = refl

a_word_left_over : command_of (fit (pair (codes "--tables") (codes "e")) ++ codes "--more" ∷ []) ≡ None
a_word_left_over = refl

-- what is due without words, and where nothing can be read
due_without_words : due_task [] (λ name. None) ≡ Err words_ending
due_without_words = refl

due_without_files : due_task words (λ name. None) ≡ Err (read_ending (codes "schema"))
due_without_files = refl

abbrev units : Spine
units = record { depth = 3; units = record { code = codes "US"; level = 0; parent = None } ∷ record { code = codes "S1"; level = 1; parent = Some 0 } ∷ record { code = codes "S2"; level = 1; parent = Some 0 } ∷ [] }

abbrev kinds : Schema
kinds = record {
  total = record { num = 1; den = 1 };
  attributes = record { name = codes "kind"; values = codes "house" ∷ codes "dorm" ∷ [] } ∷ [];
  recodes = [];
  zeros = [];
  levels = [];
}

-- faults as they are printed: a unit of the spine by its row, a state by its code
childless : plain_text (plain.Spine (spine_fault.Childless 1)) ≡ codes "Childless 3"
unfolding digits
childless = refl

large_root : plain_text (plain.Spine (spine_fault.FitTooLarge None)) ≡ codes "FitTooLarge -"
large_root = refl

repeated_facility : plain_text (plain.Facilities (facility_fault.Repeated 3)) ≡ codes "Repeated 3"
unfolding digits
repeated_facility = refl

missing_state : named_text kinds units (named.Totals (total_fault.Missing 2)) ≡ codes "Missing S2"
missing_state = refl

short_state : named_text kinds units (named.Join (join_fault.Short 1 1 2)) ≡ codes "Short S1 1 2"
unfolding digits
short_state = refl

no_facility : named_text kinds units (named.Hist (hist_fault.NoFacility 2 1)) ≡ codes "NoFacility S2 dorm"
no_facility = refl

short_block : named_text kinds units (named.Hist (hist_fault.Short 1 1 1 2)) ≡ codes "Short S1 dorm 1 2"
unfolding digits
short_block = refl

-- `measure`, with words of a file or of a seed
abbrev measure : List (List ℕ) → List (List ℕ)
measure source = codes "measure" ∷ schema ++ spine ++ facilities ++ pair (codes "--records") (codes "d") ++ pair (codes "--measurements") (codes "m") ++ pair (codes "--totals") (codes "t") ++ pair (codes "--ledger") (codes "l") ++ source

abbrev seed : List (List ℕ)
seed = pair (codes "--seed") (codes "s") ++ pair (codes "--place") (codes "0")

by_words : command_of (measure (pair (codes "--words") (codes "w"))) ≡ Some Measure
by_words = refl

reads_words : reads_of (measure (pair (codes "--words") (codes "w"))) ≡ codes "a" ∷ codes "b" ∷ codes "c" ∷ codes "d" ∷ codes "w" ∷ []
reads_words = refl

no_source : command_of (measure []) ≡ None
no_source = refl

both_sources : command_of (measure (pair (codes "--words") (codes "w") ++ seed)) ≡ None
both_sources = refl

no_budget : command_of (measure seed) ≡ None
no_budget = refl
