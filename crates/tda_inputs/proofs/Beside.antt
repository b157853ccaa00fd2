-- A file that is judged once more, beside others.
use Rattle.std.proofs.Common.{◌≡◌, ◌≢◌, ◌∙◌, List, ℕ, ap, sym, subst, Option, Some, None, Result, Ok, Err}
use Rattle.tda_io.specs.Due.{◌>>=◌}
use Rattle.tda_io.specs.Outside.{Shelf}
use Rattle.tda_inputs.specs.Ending.{Ending, refused_ending, or_refused}
use Rattle.tda_inputs.specs.Files.{name_of, IsFaultOf}
use Rattle.tda_inputs.specs.Reading.{IsRefused, IsStop, GivesBy, Judges}
use Rattle.tda_inputs.specs.declared.reading.File.{File}
use Rattle.tda_inputs.specs.declared.reading.Stop.{Stop}
use Rattle.tda_inputs.specs.declared.reading.Stop.TheVariants as stop
use Rattle.tda_inputs.proofs.Stops.{From}

module _ {A G : Type 0} (words : List (List ℕ)) (f : File) (from : From A) (text : G → List ℕ) (due : A → Result (Unit {0}) G) where
  -- what comes after the file itself
  abbrev pub and_beside : A → Result A Ending
  and_beside x = or_refused (name_of f) text (due x) >>= (λ _. Ok x)

  abbrev pub beside : From A
  beside held = from held >>= and_beside

  pub accepted_beside : {X : Type 0} (shelf : Option Shelf) (x : A) (y : X) → GivesBy words f from shelf (Ok x) → Judges f text (due x) (Ok y) → GivesBy words f beside shelf (Ok x)
  accepted_beside None x y gives judges = tt
  accepted_beside (Some h) x y gives judges = ap (λ r. r >>= and_beside) gives ∙ ap (λ r. let all : Result A Ending = r >>= (λ _. Ok x) in all) judges

  pub refused_beside : (X : Type 0) (shelf : Option Shelf) (x : A) (e : Stop) → GivesBy words f from shelf (Ok x) → Judges {X = X} f text (due x) (Err e) → GivesBy {A = A} words f beside shelf (Err e)
  refused_beside X shelf x stop.NoMemory gives judges = tt
  refused_beside X shelf x (stop.Read g) gives judges = absurd judges
  refused_beside X None x (stop.Refused r) gives judges = (judges.0, judges.1, tt)
  refused_beside X (Some h) x (stop.Refused r) gives judges =
      (judges.0, judges.1, ap (λ o. o >>= and_beside) gives ∙ ap (λ o. let all : Result A Ending = o >>= (λ _. Ok x) in all) judges.2)

-- a judgement that passes, one that fails, and one whose fault stops the reading
module _ {F : Type 0} (f : File) (text : F → List ℕ) (due : Result (Unit {0}) F) where
  pub judged_well : {X : Type 0} (x : X) → due ≡ Ok tt → Judges f text due (Ok x)
  judged_well x is = ap (or_refused (name_of f) text) is

  pub judged_fault : (X : Type 0) (e : F) (s : Stop) → due ≡ Err e → IsRefused f (text e) s → IsFaultOf f (text e) → Judges {X = X} f text due (Err s)
  judged_fault X e (stop.Refused r) is refused known =
      (refused.0, subst (IsFaultOf f) (sym refused.1) known, ap (or_refused (name_of f) text) is ∙ ap (λ t. let ended : Result (Unit {0}) Ending = Err (refused_ending (name_of f) t) in ended) (sym refused.1))
  judged_fault X e (stop.Read g) is refused known = absurd refused
  judged_fault X e stop.NoMemory is refused known = tt

  pub judged_stop : (X : Type 0) (no_memory e : F) (s : Stop) → (e ≢ no_memory → due ≡ Err e) → IsStop no_memory f text e s → Judges {X = X} f text due (Err s)
  judged_stop X no_memory e (stop.Refused r) is stops =
      (stops.1, stops.3, ap (or_refused (name_of f) text) (is stops.0) ∙ ap (λ t. let ended : Result (Unit {0}) Ending = Err (refused_ending (name_of f) t) in ended) (sym stops.2))
  judged_stop X no_memory e (stop.Read g) is stops = absurd stops
  judged_stop X no_memory e stop.NoMemory is stops = tt
