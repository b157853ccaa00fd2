-- What a read gives tells what the file is.
use Rattle.std.proofs.Common.{◌≡◌, ◌≢◌, subst, inl, ◌≤◌, ◌<◌, ◌+◌, ◌∙◌, List, ℕ, length, take, refl, sym, ap, arith, Option, Some, None, IfSome, option_map, Result, Ok, Err}
use Rattle.std.proofs.lemmas.List.{take_all, length-take}
use Rattle.std.proofs.lemmas.Option.{same_Some}
use Rattle.std.proofs.lemmas.Bool.{le-ltb, lt-ltb}
use Rattle.tda_io.specs.Outside.{Shelf, asks, Reads}
use Rattle.tda_io.specs.declared.outside.InFault.{InFault}
use Rattle.tda_io.specs.declared.outside.InFault.TheVariants as fault_in
use Rattle.tda_inputs.specs.Ending.{judged_within, refused_ending}
use Rattle.tda_refusal.specs.Refusal.{plain_text}
use Rattle.tda_refusal.specs.declared.text.Plain.TheVariants.{TooLong}
use Rattle.tda_inputs.specs.declared.reading.File.{File}
use Rattle.tda_inputs.specs.declared.reading.Stop.{Stop}
use Rattle.tda_inputs.specs.declared.reading.Stop.TheVariants as stop
use Rattle.tda_inputs.specs.Files.{limit_of, IsFaultOf}
use Rattle.tda_inputs.specs.Reading.{path_of, IsLong, IsRefused, IsStop, GivesBytes, AsksFile, CountsRead}

-- the first bytes of what a shelf holds, one more than the limit
abbrev IsTaken : ℕ → List ℕ → List ℕ → Shelf → Type 0
IsTaken limit path v s = option_map (take (limit + 1)) (s.holds path) ≡ Some v

module _ (limit : ℕ) where
  long : (held : Option (List ℕ)) (v : List ℕ) → option_map (take (limit + 1)) held ≡ Some v → limit < length v → IsLong limit held
  long None v is more = cc is
  long (Some bs) v is more =
      let cut : length v ≡ length (take (limit + 1) bs) = ap length (sym (same_Some _ _ is)) in
      (bs, refl, omega (arith, length-take (limit + 1) bs))

  pub long_file : (path v : List ℕ) (shelf : Option Shelf) → IfSome shelf (IsTaken limit path v) → limit < length v → IfSome shelf (λ s. IsLong limit (s.holds path))
  long_file path v None is more = tt
  long_file path v (Some s) is more = long (s.holds path) v is more

  short : (held : Option (List ℕ)) (v : List ℕ) → option_map (take (limit + 1)) held ≡ Some v → length v ≤ limit → held ≡ Some v
  short None v is less = cc is
  short (Some bs) v is less =
      let cut : length v ≡ length (take (limit + 1) bs) = ap length (sym (same_Some _ _ is)) in
      ap Some (sym (take_all (limit + 1) bs (omega (arith, length-take (limit + 1) bs))) ∙ same_Some _ _ is)

  pub short_file : (path v : List ℕ) (shelf : Option Shelf) → IfSome shelf (IsTaken limit path v) → length v ≤ limit → IfSome shelf (λ s. s.holds path ≡ Some v)
  short_file path v None is less = tt
  short_file path v (Some s) is less = short (s.holds path) v is less

  -- a file that is read whole is what its bytes are read as
  pub accepted : {A F : Type 0} (file : List ℕ) (text : F → List ℕ) (read : List ℕ → Result A F) (path v bytes : List ℕ) (x : A) (shelf : Option Shelf)
      → IfSome shelf (λ s. s.holds path ≡ Some v) → length v ≤ limit → bytes ≡ v → read bytes ≡ Ok x
      → IfSome shelf (λ s. judged_within limit file text read (s.holds path) ≡ Ok x)
  accepted file text read path v bytes x None held less same is = tt
  accepted file text read path v bytes x (Some s) held less same is = rw (held, le-ltb limit (length v) less, ← same, is) refl

  pub refused : {A F : Type 0} (file : List ℕ) (text : F → List ℕ) (read : List ℕ → Result A F) (path v bytes : List ℕ) (e : F) (shelf : Option Shelf)
      → IfSome shelf (λ s. s.holds path ≡ Some v) → length v ≤ limit → bytes ≡ v → read bytes ≡ Err e
      → IfSome shelf (λ s. judged_within limit file text read (s.holds path) ≡ Err (refused_ending file (text e)))
  refused file text read path v bytes e None held less same is = tt
  refused file text read path v bytes e (Some s) held less same is = rw (held, le-ltb limit (length v) less, ← same, is) refl

  too_long : {A F : Type 0} (file : List ℕ) (text : F → List ℕ) (read : List ℕ → Result A F) (held : Option (List ℕ)) → IsLong limit held
      → judged_within limit file text read held ≡ Err (refused_ending file (plain_text TooLong))
  too_long file text read held is = rw (is.1, lt-ltb limit (length is.0) is.2) refl

  -- a file that is too long is refused
  pub long_refused : {A F : Type 0} (file : List ℕ) (text : F → List ℕ) (read : List ℕ → Result A F) (path : List ℕ) (shelf : Option Shelf)
      → IfSome shelf (λ s. IsLong limit (s.holds path)) → IfSome shelf (λ s. judged_within limit file text read (s.holds path) ≡ Err (refused_ending file (plain_text TooLong)))
  long_refused file text read path None is = tt
  long_refused file text read path (Some s) is = too_long file text read (s.holds path) is

-- a refused file gives no bytes, is asked for, and is no failed read
pub gives_none : (words : List (List ℕ)) (f : File) (shelf : Option Shelf) (s : Stop) → IsRefused f (plain_text TooLong) s → IfSome shelf (λ h. IsLong (limit_of f) (h.holds (path_of words f))) → GivesBytes words f shelf (Err s)
gives_none words f shelf (stop.Refused r) is long = (is.0, is.1, long)
gives_none words f shelf (stop.Read g) is long = absurd is
gives_none words f shelf stop.NoMemory is long = tt

pub asked_once : (T : Type 0) (words : List (List ℕ)) (f : File) (text : List ℕ) (old new : Option Shelf) (s : Stop) → IsRefused f text s → new ≡ option_map (asks (path_of words f)) old → AsksFile {T = T} words f old new (Err s)
asked_once T words f text old new (stop.Refused r) is asked = asked
asked_once T words f text old new (stop.Read g) is asked = absurd is
asked_once T words f text old new stop.NoMemory is asked = inl asked

pub counts_none : (T : Type 0) (f : File) (text : List ℕ) (before now : ℕ) (s : Stop) → IsRefused f text s → now ≡ before → CountsRead {T = T} before now (Err s)
counts_none T f text before now (stop.Refused r) is same = same
counts_none T f text before now (stop.Read g) is same = absurd is
counts_none T f text before now stop.NoMemory is same = same

-- a refusal by a reader's fault
pub stop_by : {F : Type 0} (no_memory : F) (f : File) (text : F → List ℕ) (e : F) (s : Stop) → e ≢ no_memory → IsRefused f (text e) s → IsFaultOf f (text e) → IsStop no_memory f text e s
stop_by no_memory f text e (stop.Refused r) ne is known = (ne, is.0, is.1, subst (IsFaultOf f) (sym is.1) known)
stop_by no_memory f text e (stop.Read g) ne is known = absurd is
stop_by no_memory f text e stop.NoMemory ne is known = tt

-- a failed read was asked for
pub failed_told : {T : Type 0} (name : List ℕ) (r : Result T InFault) (old new : Option Shelf) → r ≡ Err fault_in.Failed → Reads name r old new → new ≡ option_map (asks name) old
failed_told name (Ok x) old new is told = told
failed_told name (Err fault_in.Failed) old new is told = told
failed_told name (Err fault_in.NoMemory) old new is told = cc is
