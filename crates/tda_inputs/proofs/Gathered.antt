-- The files of the inputs, one after the other.
use Rattle.std.proofs.Common.{◌≡◌, sym, subst, refl, arith, List, ℕ, ℤ, Option, option_map, Result, Ok, Err}
use Rattle.std.specs.Result.{IsErrAnd}
use Rattle.tda_io.specs.Due.{◌>>=◌}
use Rattle.tda_io.specs.Outside.{Shelf, asks}
use Rattle.tda_model.specs.Release as release
use Rattle.tda_invar.specs.Known.{JoinedLists, known}
use Rattle.tda_inputs.specs.Accepted.{inputs_by}
use Rattle.tda_inputs.specs.Ending.{Ending}
use Rattle.tda_inputs.specs.Accepted.{Given, base_from, totals_from, measurements_from, inputs_from}
use Rattle.tda_inputs.specs.Reading.{path_of, GivesBy, GivesInvariants, AsksFile, Gathers, AsksFiles, ReadsInputs, GathersInputs}
use Rattle.tda_inputs.specs.declared.base.Base.{Base}
use Rattle.tda_inputs.specs.declared.inputs.Inputs.{Inputs}
use Rattle.tda_inputs.specs.declared.reading.File.TheVariants as file
use Rattle.tda_inputs.specs.declared.reading.Stop.{Stop}
use Rattle.tda_inputs.proofs.Asked.{file_within}
use Rattle.tda_inputs.proofs.Stops.{HasRead, read_on, halted, part_read, asks_stopped, asks_file_stopped}

-- the inputs of a base with totals and measurements
abbrev pub inputs_with : Base → List ℕ → List ℤ → release.Inputs
inputs_with b t m = inputs_by b.schema b.spine (known b.spine b.facilities t) m

abbrev pub with_measurements : Base → List ℕ → List ℤ → Given → Result release.Inputs Ending
with_measurements b t m given = Ok (inputs_with b t m)

abbrev pub after_totals : Base → List ℕ → Given → Result release.Inputs Ending
after_totals b t given = measurements_from b.schema b.spine (given 4) >>= (λ m. with_measurements b t m given)

abbrev pub after_base : Base → Given → Result release.Inputs Ending
after_base b given = totals_from b (given 3) >>= (λ t. after_totals b t given)

module _ (words : List (List ℕ)) where
  -- an answer that is this stop
  same_inputs : (old new : Option Shelf) (e : Stop) (r : Result Inputs Stop) → IsErrAnd r (λ x. x ≡ e)
      → Gathers words 5 inputs_from old (Err e) × AsksFiles {X = release.Inputs} words 5 old new (Err e) → GathersInputs words old r × AsksFiles {X = Inputs} words 5 old new r
  same_inputs old new e (Ok i) same h = absurd same
  same_inputs old new e (Err x) same h = rw same (h.0, asks_stopped release.Inputs Inputs words 5 5 old new e h.1)

  module _ (reads : ReadsInputs words) (old mid : Option Shelf) (b : Base) (gathers : Gathers words 3 base_from old (Ok b)) (asked : AsksFiles {X = Base} words 3 old mid (Ok b)) where
    base_read : HasRead words inputs_from old mid 3 (after_base b)
    base_read = part_read words base_from after_base 3 old mid b (let l = file_within words file.Totals reads.totals in omega arith) gathers asked

    pub invariants_halt : (new : Option Shelf) (e : Stop) (r : Result Inputs Stop) → IsErrAnd r (λ x. x ≡ e) → GivesInvariants words b mid (Err e) → AsksFile {T = JoinedLists} words file.Totals mid new (Err e)
        → GathersInputs words old r × AsksFiles {X = Inputs} words 5 old new r
    invariants_halt new e r is gives asks_it =
        let asks_list = asks_file_stopped JoinedLists (List ℕ) words file.Totals mid new e asks_it in
        same_inputs old new e r is (halted words inputs_from file.Totals (totals_from b) (after_totals b) 5 old mid new e refl reads.totals base_read gives asks_list)

    module _ (next : Option Shelf) (inv : JoinedLists) (gives : GivesInvariants words b mid (Ok inv)) (asks_it : next ≡ option_map (asks (path_of words file.Totals)) mid) where
      totals_read : HasRead words inputs_from old next 4 (after_totals b inv.totals)
      totals_read = read_on words inputs_from file.Totals (totals_from b) (after_totals b) old mid next inv.totals reads.totals base_read gives.1 asks_it

      pub measurements_halt : (new : Option Shelf) (e : Stop) (r : Result Inputs Stop) → IsErrAnd r (λ x. x ≡ e) → GivesBy {A = List ℤ} words file.Measurements (measurements_from b.schema b.spine) next (Err e)
          → AsksFile {T = List ℤ} words file.Measurements next new (Err e) → GathersInputs words old r × AsksFiles {X = Inputs} words 5 old new r
      measurements_halt new e r is gives_it asks_last =
          same_inputs old new e r is (halted words inputs_from file.Measurements (measurements_from b.schema b.spine) (with_measurements b inv.totals) 5 old next new e refl reads.measurements totals_read gives_it asks_last)

      pub all_read : (new : Option Shelf) (m : List ℤ) → GivesBy words file.Measurements (measurements_from b.schema b.spine) next (Ok m) → new ≡ option_map (asks (path_of words file.Measurements)) next
          → Gathers words 5 inputs_from old (Ok (inputs_by b.schema b.spine (known b.spine inv.facilities inv.totals) m)) × AsksFiles {X = Inputs} words 5 old new (Ok (record { schema = b.schema; spine = b.spine; invariants = inv; measurements = m }))
      all_read new m gives_it asks_last =
          let all = read_on words inputs_from file.Measurements (measurements_from b.schema b.spine) (with_measurements b inv.totals) old next new m reads.measurements totals_read gives_it asks_last in (
            subst (λ f. Gathers words 5 inputs_from old (Ok (inputs_by b.schema b.spine (known b.spine f inv.totals) m))) (sym gives.0) all.come,
            all.asked.asked,
          )
