-- Files that are judged one after the other, up to the one that stops the reading.
use Rattle.std.proofs.Common.{◌≡◌, ◌≢◌, ◌≤◌, ◌<◌, ◌+◌, ◌∙◌, List, ℕ, length, ap, sym, subst, refl, arith, cond, eq-eqb, ne_eqb, inl, inr, Option, Some, None, IfSome, option_map, Result, Ok, Err}
use Rattle.std.specs.Result.{IsErrAnd}
use Rattle.tda_io.specs.Due.{◌>>=◌}
use Rattle.tda_io.specs.Outside.{Shelf, asks}
use Rattle.tda_command.specs.Words.{reads_of}
use Rattle.tda_inputs.specs.Ending.{Ending, read_ending, refused_ending}
use Rattle.tda_inputs.specs.Accepted.{Given, given_by, failing_at}
use Rattle.tda_inputs.specs.Files.{name_of, place_of_file, limit_of, IsRead, IsFaultOf}
use Rattle.tda_inputs.specs.Reading.{path_of, GivesBy, GivesFile, IsStop, Agree, Gathers, AsksFile, AsksFiles, CountsRead}
use Rattle.tda_inputs.specs.declared.reading.File.{File}
use Rattle.tda_inputs.specs.declared.reading.Stop.{Stop}
use Rattle.tda_inputs.specs.declared.reading.Stop.TheVariants as stop
use Rattle.tda_inputs.proofs.Judged.{refused}
use Rattle.tda_inputs.proofs.Asked.{AsksFirst, asks_no_name, file_asks, asks_first}

-- a reader's fault stops the reading as the file is due to
pub stop_given : {A F : Type 0} (words : List (List ℕ)) (f : File) (text : F → List ℕ) (read : List ℕ → Result A F) (no_memory : F) (v bytes : List ℕ) (e : F) (s : Stop) (shelf : Option Shelf)
    → IsStop no_memory f text e s → IfSome shelf (λ h. h.holds (path_of words f) ≡ Some v) → length v ≤ limit_of f → bytes ≡ v
    → (e ≢ no_memory → read bytes ≡ Err e) → GivesFile words f text read shelf (Err s)
stop_given words f text read no_memory v bytes e stop.NoMemory shelf is held less same due = tt
stop_given words f text read no_memory v bytes e (stop.Read g) shelf is held less same due = absurd is
stop_given words f text read no_memory v bytes e (stop.Refused r) shelf is held less same due =
    (is.1, is.3, rw is.2 (refused (limit_of f) (name_of f) text read (path_of words f) v bytes e shelf held less same (due is.0)))

-- how a file's bytes are judged
abbrev pub From : Type 0 → Type 0
From A = Option (List ℕ) → Result A Ending

-- the result of a judgement goes on
abbrev pub goes_on : {A X : Type 0} → File → From A → (A → Given → Result X Ending) → Given → Result X Ending
goes_on f from next given = from (given (place_of_file f)) >>= (λ y. next y given)

module _ {X : Type 0} (words : List (List ℕ)) (whole : Given → Result X Ending) where
  -- where the first n reads gave what the shelf holds, what is gathered is what is due from there on
  abbrev pub HasCome : Option Shelf → ℕ → (Given → Result X Ending) → Type 0
  HasCome shelf n rest = IfSome shelf (λ h. (given : Given) → Agree words h n given → whole given ≡ rest given)

  -- the first n files were asked for and accepted
  pub record HasRead (old now : Option Shelf) (n : ℕ) (rest : Given → Result X Ending) : Type 0 where
    pub asked : AsksFirst (reads_of words) n old now
    pub come : HasCome old n rest

  begin : (shelf : Option Shelf) → HasCome shelf 0 whole
  begin None = tt
  begin (Some h) = λ given same. refl

  pub no_file : (old : Option Shelf) → HasRead old old 0 whole
  no_file old = record { asked = asks_no_name (reads_of words) old; come = begin old }

  module _ {A : Type 0} (f : File) (from : From A) (next : A → Given → Result X Ending) where
    come_on : (shelf : Option Shelf) (x : A) → HasCome shelf (place_of_file f) (goes_on f from next) → GivesBy words f from shelf (Ok x) → HasCome shelf (place_of_file f + 1) (next x)
    come_on None x come gives = tt
    come_on (Some h) x come gives = λ given same.
        come given (λ m l. same m (omega arith))
        ∙ ap (λ r. r >>= (λ y. next y given)) (ap from (same (place_of_file f) (omega arith)) ∙ gives)

    -- asking changes nothing of what files are
    given_before : (n : ℕ) (old new : Option Shelf) (r : Result A Stop) → AsksFirst (reads_of words) n old new → GivesBy words f from new r → GivesBy words f from old r
    given_before n None new (Ok x) asked given = tt
    given_before n None new (Err (stop.Refused r)) asked given = (given.0, given.1, tt)
    given_before n None new (Err (stop.Read g)) asked given = given
    given_before n None new (Err stop.NoMemory) asked given = tt
    given_before n (Some h) new (Ok x) asked given = rw (asked.asked) at given
    given_before n (Some h) new (Err (stop.Refused r)) asked given = (given.0, given.1, rw (asked.asked) at given.2)
    given_before n (Some h) new (Err (stop.Read g)) asked given = given
    given_before n (Some h) new (Err stop.NoMemory) asked given = tt

    -- one more file is accepted
    pub read_on : (old mid new : Option Shelf) (x : A) → IsRead words f → HasRead old mid (place_of_file f) (goes_on f from next)
        → GivesBy words f from mid (Ok x) → new ≡ option_map (asks (path_of words f)) mid → HasRead old new (place_of_file f + 1) (next x)
    read_on old mid new x reads before gives asked = record {
      asked = file_asks words f old mid new reads before.asked asked;
      come = come_on old x before.come (given_before (place_of_file f) old mid (Ok x) before.asked gives);
    }

    -- a file that stops the reading
    gathers_none : (n : ℕ) (shelf : Option Shelf) (e : Stop) → from None ≡ Err (read_ending (name_of f)) → IsRead words f → HasCome shelf (place_of_file f) (goes_on f from next) → GivesBy words f from shelf (Err e) → Gathers words n whole shelf (Err e)
    gathers_none n shelf stop.NoMemory none reads come given = tt
    gathers_none n None (stop.Refused r) none reads come given = (subst (IsRead words) (sym given.0) reads, subst (λ g. IsFaultOf g r.fault.items) (sym given.0) given.1, tt)
    gathers_none n None (stop.Read g) none reads come given = (subst (IsRead words) (sym given) reads, tt)
    gathers_none n (Some h) (stop.Refused r) none reads come given = (
      subst (IsRead words) (sym given.0) reads,
      subst (λ g. IsFaultOf g r.fault.items) (sym given.0) given.1,
      come (given_by words h.holds) (λ m l. refl)
          ∙ ap (λ o. o >>= (λ y. next y (given_by words h.holds))) given.2
          ∙ sym (ap (λ g. let ended : Result X Ending = Err (refused_ending (name_of g) r.fault.items) in ended) given.0),
    )
    gathers_none n (Some h) (stop.Read g) none reads come given = (
      subst (IsRead words) (sym given) reads,
      subst (λ k. whole (failing_at (place_of_file k) (given_by words h.holds)) ≡ Err (read_ending (name_of k))) (sym given) fails,
    )
      where
        failing : Given
        failing = failing_at (place_of_file f) (given_by words h.holds)

        fails_later : (m : ℕ) → m < place_of_file f → failing m ≡ given_by words h.holds m
        fails_later m l = ap (λ b. cond b None (given_by words h.holds m)) (ne_eqb m (place_of_file f) (λ e. omega arith))

        fails_here : failing (place_of_file f) ≡ None
        fails_here = ap (λ b. cond b None (given_by words h.holds (place_of_file f))) (eq-eqb (place_of_file f) (place_of_file f) refl)

        fails : whole failing ≡ Err (read_ending (name_of f))
        fails = come failing fails_later ∙ ap (λ o. from o >>= (λ y. next y failing)) fails_here ∙ ap (λ r. r >>= (λ y. next y failing)) none

    -- the names asked for where a file stops the reading
    asks_none_more : (n : ℕ) (old mid new : Option Shelf) (e : Stop) → IsRead words f → AsksFirst (reads_of words) (place_of_file f) old mid
        → GivesBy words f from mid (Err e) → AsksFile {T = A} words f mid new (Err e) → AsksFiles {X = X} words n old new (Err e)
    asks_none_more n old mid new (stop.Refused r) reads before given asked = rw given.0 (file_asks words f old mid new reads before asked).asked
    asks_none_more n old mid new (stop.Read g) reads before given asked = rw given (file_asks words f old mid new reads before asked).asked
    asks_none_more n old mid new stop.NoMemory reads before given (inl asked) = asks_first _ _ old new (file_asks words f old mid new reads before asked)
    asks_none_more n old mid new stop.NoMemory reads before given (inr same) =
        record { count = place_of_file f; within = before.within; asked = same ∙ before.asked }

    -- what a reading answers that ends with this stop
    pub halted : (n : ℕ) (old mid new : Option Shelf) (e : Stop) → from None ≡ Err (read_ending (name_of f)) → IsRead words f → HasRead old mid (place_of_file f) (goes_on f from next)
        → GivesBy words f from mid (Err e) → AsksFile {T = A} words f mid new (Err e) → Gathers words n whole old (Err e) × AsksFiles {X = X} words n old new (Err e)
    halted n old mid new e none reads before gives asked = (
      gathers_none n old e none reads before.come (given_before (place_of_file f) old mid (Err e) before.asked gives),
      asks_none_more n old mid new e reads before.asked gives asked,
    )

-- what a reading asks for where it stops
pub asks_stopped : (X Y : Type 0) (words : List (List ℕ)) (n m : ℕ) (old new : Option Shelf) (e : Stop) → AsksFiles {X = X} words n old new (Err e) → AsksFiles {X = Y} words m old new (Err e)
asks_stopped X Y words n m old new (stop.Refused r) asked = asked
asks_stopped X Y words n m old new (stop.Read f) asked = asked
asks_stopped X Y words n m old new stop.NoMemory asked = asked

-- what a file's reading asks for where it stops
pub asks_file_stopped : (T U : Type 0) (words : List (List ℕ)) (f : File) (old new : Option Shelf) (e : Stop) → AsksFile {T = T} words f old new (Err e) → AsksFile {T = U} words f old new (Err e)
asks_file_stopped T U words f old new (stop.Refused r) asked = asked
asks_file_stopped T U words f old new (stop.Read g) asked = asked
asks_file_stopped T U words f old new stop.NoMemory asked = asked

-- the first files come to a part of what is due
module _ {X Y : Type 0} (words : List (List ℕ)) (part : Given → Result Y Ending) (next : Y → Given → Result X Ending) where
  abbrev pub going_on : Given → Result X Ending
  going_on given = part given >>= (λ y. next y given)

  come_through : (n : ℕ) (y : Y) (old : Option Shelf) → Gathers words n part old (Ok y) → HasCome words going_on old n (next y)
  come_through n y None gathers = tt
  come_through n y (Some h) gathers = λ given same. ap (λ r. r >>= (λ z. next z given)) (gathers given same)

  -- the part is read
  pub part_read : (n : ℕ) (old new : Option Shelf) (y : Y) → n ≤ length (reads_of words) → Gathers words n part old (Ok y) → AsksFiles {X = Y} words n old new (Ok y)
      → HasRead words going_on old new n (next y)
  part_read n old new y within gathers asked = record { asked = record { within = within; asked = asked }; come = come_through n y old gathers }

-- an answer that is this stop
pub same_gathers : {X : Type 0} (words : List (List ℕ)) (n : ℕ) (whole : Given → Result X Ending) (old new : Option Shelf) (e : Stop) (r : Result X Stop) → IsErrAnd r (λ x. x ≡ e)
    → Gathers words n whole old (Err e) × AsksFiles {X = X} words n old new (Err e) → Gathers words n whole old r × AsksFiles {X = X} words n old new r
same_gathers words n whole old new e (Err x) same h = rw same h
same_gathers words n whole old new e (Ok i) same h = absurd same

-- and the count of failed reads after reads that didn't fail
pub counts_later : (T X : Type 0) (first before now : ℕ) (e : Stop) (r : Result X Stop) → IsErrAnd r (λ x. x ≡ e) → before ≡ first → CountsRead {T = T} before now (Err e) → CountsRead first now r
counts_later T X first before now e (Ok x) same is counts = absurd same
counts_later T X first before now (stop.Refused s) (Err x) same is counts = rw same (counts ∙ is)
counts_later T X first before now (stop.Read f) (Err x) same is counts = rw (same, ← is) counts
counts_later T X first before now stop.NoMemory (Err x) same is counts = rw same (counts ∙ is)
