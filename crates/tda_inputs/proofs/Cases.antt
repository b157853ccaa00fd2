-- The files of a case, one after the other.
use Rattle.std.proofs.Common.{◌≡◌, refl, ap, arith, List, ℕ, ℤ, Option, Some, None, option_map, Result, Ok, Err}
use Rattle.std.specs.Result.{IsErrAnd}
use Rattle.tda_io.specs.Due.{◌>>=◌}
use Rattle.tda_io.specs.Outside.{Shelf, asks}
use Rattle.tda_model.specs.Release as release
use Rattle.tda_out.specs.Counts.{Counts}
use Rattle.tda_prices.specs.Kept.{PriceList}
use Rattle.tda_inputs.specs.Ending.{Ending}
use Rattle.tda_inputs.specs.Accepted.{Given, given_by, failing_at, Case, inputs_from, tables_from, prices_from, case_from}
use Rattle.tda_inputs.specs.Files.{place_of_file}
use Rattle.tda_inputs.specs.Reading.{path_of, GivesBy, GivesPrices, AsksFile, Gathers, AsksFiles, ReadsCase, GathersInputs, GathersCase, IsEvidence, inputs_in}
use Rattle.tda_inputs.specs.declared.inputs.Inputs.{Inputs}
use Rattle.tda_inputs.specs.declared.evidence.Evidence.{Evidence}
use Rattle.tda_inputs.specs.declared.reading.File.TheVariants as file
use Rattle.tda_inputs.specs.declared.reading.Stop.{Stop}
use Rattle.tda_inputs.specs.declared.reading.Stop.TheVariants as stop
use Rattle.tda_inputs.proofs.Asked.{file_within}
use Rattle.tda_inputs.proofs.Stops.{HasRead, read_on, halted, part_read, asks_stopped, asks_file_stopped}

-- the case of inputs with tables and prices
abbrev pub with_prices : release.Inputs → Counts → List ℤ → Given → Result Case Ending
with_prices i x p given = Ok (record { inputs = i; tables = x; prices = p })

abbrev pub after_tables : release.Inputs → Counts → Given → Result Case Ending
after_tables i x given = prices_from i.schema i.spine (given 6) >>= (λ p. with_prices i x p given)

abbrev pub after_inputs : release.Inputs → Given → Result Case Ending
after_inputs i given = tables_from i.schema i.spine (given 5) >>= (λ x. after_tables i x given)

module _ (words : List (List ℕ)) where
  -- an answer that is this stop
  same_case : (old new : Option Shelf) (e : Stop) (r : Result Evidence Stop) → IsErrAnd r (λ x. x ≡ e)
      → Gathers words 7 case_from old (Err e) × AsksFiles {X = Case} words 7 old new (Err e) → GathersCase words old r × AsksFiles {X = Evidence} words 7 old new r
  same_case old new e (Ok i) same h = absurd same
  same_case old new e (Err x) same h = rw same (h.0, asks_stopped Case Evidence words 7 7 old new e h.1)

  -- inputs that aren't accepted
  no_case : (old : Option Shelf) (e : Stop) → Gathers words 5 inputs_from old (Err e) → Gathers words 7 case_from old (Err e)
  no_case old stop.NoMemory gathers = tt
  no_case None (stop.Refused r) gathers = (gathers.0, gathers.1, tt)
  no_case None (stop.Read f) gathers = (gathers.0, tt)
  no_case (Some h) (stop.Refused r) gathers = (gathers.0, gathers.1, ap (λ o. o >>= (λ i. after_inputs i (given_by words h.holds))) gathers.2)
  no_case (Some h) (stop.Read f) gathers = (gathers.0, ap (λ o. o >>= (λ i. after_inputs i (failing_at (place_of_file f) (given_by words h.holds)))) gathers.1)

  gathers_none : (old : Option Shelf) (e : Stop) → GathersInputs words old (Err e) → Gathers words 5 inputs_from old (Err e)
  gathers_none old e gathers = gathers

  pub inputs_halt : (old new : Option Shelf) (e : Stop) (r : Result Evidence Stop) → IsErrAnd r (λ x. x ≡ e) → GathersInputs words old (Err e) → AsksFiles {X = Inputs} words 5 old new (Err e)
      → GathersCase words old r × AsksFiles {X = Evidence} words 7 old new r
  inputs_halt old new e r same gathers asked = same_case old new e r same (no_case old e (gathers_none old e gathers), asks_stopped Inputs Case words 5 7 old new e asked)

  module _ (reads : ReadsCase words) (old mid : Option Shelf) (i : Inputs) (gathers : Gathers words 5 inputs_from old (Ok (inputs_in i))) (asked : AsksFiles {X = Inputs} words 5 old mid (Ok i)) where
    inputs_read : HasRead words case_from old mid 5 (after_inputs (inputs_in i))
    inputs_read = part_read words inputs_from after_inputs 5 old mid (inputs_in i) (let l = file_within words file.Tables reads.tables in omega arith) gathers asked

    pub tables_halt : (new : Option Shelf) (e : Stop) (r : Result Evidence Stop) → IsErrAnd r (λ x. x ≡ e) → GivesBy {A = Counts} words file.Tables (tables_from i.schema i.spine) mid (Err e) → AsksFile {T = Counts} words file.Tables mid new (Err e)
        → GathersCase words old r × AsksFiles {X = Evidence} words 7 old new r
    tables_halt new e r same gives asks_it =
        same_case old new e r same (halted words case_from file.Tables (tables_from i.schema i.spine) (after_tables (inputs_in i)) 7 old mid new e refl reads.tables inputs_read gives asks_it)

    module _ (next : Option Shelf) (x : Counts) (gives : GivesBy words file.Tables (tables_from i.schema i.spine) mid (Ok x)) (asks_it : next ≡ option_map (asks (path_of words file.Tables)) mid) where
      tables_read : HasRead words case_from old next 6 (after_tables (inputs_in i) x)
      tables_read = read_on words case_from file.Tables (tables_from i.schema i.spine) (after_tables (inputs_in i)) old mid next x reads.tables inputs_read gives asks_it

      prices_given : (e : Stop) → GivesPrices words (prices_from i.schema i.spine) next (Err e) → GivesBy {A = List ℤ} words file.Prices (prices_from i.schema i.spine) next (Err e)
      prices_given e given = given

      pub prices_halt : (new : Option Shelf) (e : Stop) (r : Result Evidence Stop) → IsErrAnd r (λ y. y ≡ e) → GivesPrices words (prices_from i.schema i.spine) next (Err e) → AsksFile {T = PriceList} words file.Prices next new (Err e)
          → GathersCase words old r × AsksFiles {X = Evidence} words 7 old new r
      prices_halt new e r same given asks_last =
          same_case old new e r same (halted words case_from file.Prices (prices_from i.schema i.spine) (with_prices (inputs_in i) x) 7 old next new e refl reads.prices tables_read (prices_given e given)
          (asks_file_stopped PriceList (List ℤ) words file.Prices next new e asks_last))

      pub all_read : (new : Option Shelf) (p : PriceList) → IsEvidence (record { inputs = i; tables = x; prices = p }) → GivesPrices words (prices_from i.schema i.spine) next (Ok p) → new ≡ option_map (asks (path_of words file.Prices)) next
          → (let e : Evidence = record { inputs = i; tables = x; prices = p } in GathersCase words old (Ok e) × AsksFiles {X = Evidence} words 7 old new (Ok e))
      all_read new p is given asks_last =
          let all = read_on words case_from file.Prices (prices_from i.schema i.spine) (with_prices (inputs_in i) x) old next new p.numbers reads.prices tables_read given asks_last in
          ((is, all.come), all.asked.asked)
