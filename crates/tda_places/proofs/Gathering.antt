-- The measurements of the rows that were read so far.
use Rattle.std.proofs.Common.{◌≡◌, ℕ, ◌+◌, ◌*◌, ◌<◌, ◌≤◌, ◌^◌, ◌++◌, true, false, List, [], ◌∷◌, length, map, Option, Some, None, Result, Ok, Err, ℤ, All, cond, nat_lt, refl, sym, ap, ◌∙◌, arith}
use Rattle.std.proofs.lemmas.Bool.{le-ltb, lt-ltb}
use Rattle.std.proofs.lemmas.List.{length_push, length-map}
use Rattle.std.proofs.lemmas.List.Elements.{All-push}
use Rattle.std.specs.Prelude.{IfSome, IsErrAnd}
use Rattle.tda_io.specs.Csv.{Row, first_fault}
use Rattle.tda_io.specs.Due.{Gives}
use Rattle.tda_io.specs.RowReading.{RowsRead, TakesRow, ReadsRest, bad_rest, rest_due, unread}
use Rattle.tda_io.specs.declared.rows.RowFault.{RowFault}
use Rattle.tda_io.specs.declared.rows.RowFault.TheVariants as row_fault
use Rattle.tda_io.proofs.RestDue.{Passed, all_passed, leads_on, leads_to, none_passed, passes, rest_bad, rest_fault, rest_fine, rest_whole, text_bad}
use Rattle.tda_model.specs.Schema.{Schema}
use Rattle.tda_model.specs.Spine.{Spine}
use Rattle.tda_places.specs.Faults.{fault_of}
use Rattle.tda_places.specs.Measurements.{file_fault, format, number_of, read, row_fault, AreMeasurementsOf, AreWithinLimit, IsWithinLimit}
use Rattle.tda_places.specs.Places.{places_of}
use Rattle.tda_places.specs.Spots.{StandsAt}
use Rattle.tda_places.specs.declared.fault.MeaFault.{MeaFault}
use Rattle.tda_places.specs.declared.fault.MeaFault.TheVariants.{BadRow, Missing, NoMemory}
use Rattle.tda_places.specs.declared.spot.Spot.{Spot}
use Rattle.tda_places.proofs.Spots.{index_below}

abbrev judge : Schema → Spine → List Row → Row → Option MeaFault
judge s sp earlier row = row_fault s sp (length earlier) row

-- where the place before an index stands, if it is known
abbrev pub StandsBefore : Schema → Spine → ℕ → Option Spot → Type 0
StandsBefore s sp index last = IfSome last (λ spot. (before : ℕ) × (before + 1 ≡ index) × StandsAt s sp before spot)

-- the rows that were read since the header have no fault, and these are their measurements
pub record Gathers (s : Schema) (sp : Spine) (start now : RowsRead) (numbers : List ℤ) (last : Option Spot) : Type 0 where
  pub earlier : List Row
  pub passed : Passed start now earlier
  pub leads : first_fault (judge s sp) earlier now.rest ≡ first_fault (judge s sp) [] start.rest
  pub numbers_are : numbers ≡ map number_of earlier
  pub size : length numbers ≡ length earlier
  pub each : AreWithinLimit numbers
  pub few : length numbers ≤ length (places_of s sp)
  pub last_stands : StandsBefore s sp (length numbers) last

map_push : {X Y : Type 0} (f : X → Y) (xs : List X) (x : X) → map f (xs ++ x ∷ []) ≡ map f xs ++ f x ∷ []
map_push f [] x = refl
map_push f (y ∷ xs) x = ap (λ ys. f y ∷ ys) (map_push f xs x)

module _ (s : Schema) (sp : Spine) (start : RowsRead) where
  pub starts : Gathers s sp start start [] None
  starts = record {
    earlier = [];
    passed = none_passed start;
    leads = refl;
    numbers_are = refl;
    size = refl;
    each = λ k d below. absurd (omega (arith, below));
    few = omega arith;
    last_stands = tt;
  }

  module _ (now new : RowsRead) (numbers : List ℤ) (last : Option Spot) (first : start.number ≡ 1) (g : Gathers s sp start now numbers last) (takes : TakesRow now new) where
    -- the number of the row that was read last
    pub number : new.number ≡ length numbers + 2
    number = omega (arith, takes.number, g.passed.number, first, g.size)

    judged : (o : Option MeaFault) → row_fault s sp (length numbers) new.row ≡ o → judge s sp g.earlier new.row ≡ o
    judged o is = ap (λ n. row_fault s sp n new.row) (sym g.size) ∙ is

    pub wide : new.width ≡ start.width
    wide = takes.same (omega (arith, g.passed.number, first)) ∙ g.passed.width

    -- a row without a fault
    pub goes_on : (z : ℤ) (spot : Spot) → row_fault s sp (length numbers) new.row ≡ None → z ≡ number_of new.row → IsWithinLimit z → StandsAt s sp (length numbers) spot
        → Gathers s sp start new (numbers ++ z ∷ []) (Some spot)
    goes_on z spot fine is within at =
        let long = length_push numbers z in record {
          earlier = g.earlier ++ new.row ∷ [];
          passed = passes start now new g.earlier (omega (arith, first)) g.passed takes;
          leads = leads_on (judge s sp) g.earlier new.row new.rest now.rest _ g.leads takes.rest (judged None fine);
          numbers_are = ap (λ ns. ns ++ z ∷ []) g.numbers_are ∙ ap (λ x. map number_of g.earlier ++ x ∷ []) is ∙ sym (map_push number_of g.earlier new.row);
          size = omega (arith, long, g.size, length_push g.earlier new.row);
          each = All-push IsWithinLimit numbers z g.each within;
          few = omega (arith, long, index_below s sp (length numbers) spot at);
          last_stands = (length numbers, sym long, at);
        }

    -- a row with a fault, and no later row of another width
    pub stops : (f : MeaFault) → row_fault s sp (length numbers) new.row ≡ Some f → bad_rest new ≡ None → rest_due (format s sp) start ≡ Err f
    stops f fault even =
        rest_fault (format s sp) start f (sym g.passed.bad ∙ sym takes.bad ∙ even)
        (sym (leads_to (judge s sp) g.earlier new.row new.rest now.rest _ g.leads takes.rest f (judged (Some f) fault)))

    pub later_bad : (n : ℕ) → bad_rest new ≡ Some n → rest_due (format s sp) start ≡ Err (BadRow n)
    later_bad n bad = rest_bad (format s sp) start n (sym g.passed.bad ∙ sym takes.bad ∙ bad)

  module _ (now : RowsRead) (numbers : List ℤ) (last : Option Spot) (g : Gathers s sp start now numbers last) where
    pub bad_row : (n : ℕ) → bad_rest now ≡ Some n → rest_due (format s sp) start ≡ Err (BadRow n)
    bad_row n bad = rest_bad (format s sp) start n (sym g.passed.bad ∙ bad)

    -- no row is left
    module _ (none : now.rest ≡ []) (even : bad_rest now ≡ None) where
      all : start.rest ≡ g.earlier
      all = all_passed start now g.earlier g.passed none

      fine : first_fault (judge s sp) [] start.rest ≡ None
      fine = sym g.leads ∙ rw none refl

      as_many : length start.rest ≡ length numbers
      as_many = ap length all ∙ sym g.size

      -- and there are fewer than places
      pub missing : length numbers < length (places_of s sp) → rest_due (format s sp) start ≡ Err Missing
      missing fewer =
          rest_whole (format s sp) start Missing (sym g.passed.bad ∙ even) fine
          (ap (λ b. cond b (Some Missing) None) (lt-ltb (length start.rest) (length (places_of s sp)) (omega (arith, as_many, fewer))))

      pub ended : length (places_of s sp) ≤ length numbers → rest_due (format s sp) start ≡ Ok numbers
      ended enough =
          rest_fine (format s sp) start (sym g.passed.bad ∙ even) fine
          (ap (λ b. cond b (Some Missing) None) (le-ltb (length start.rest) (length (places_of s sp)) (omega (arith, as_many, enough))))
          ∙ ap Ok (ap (map number_of) all ∙ sym g.numbers_are)

      pub are_measurements : length (places_of s sp) ≤ length numbers → AreMeasurementsOf s sp numbers
      are_measurements enough = record { size = omega (arith, g.few, enough); few = g.each }

-- a row of another width, told by the reader of rows
pub tells_bad : (text : List ℕ) (now : RowsRead) (fault : RowFault) (r : Result (List ℤ) MeaFault) → IsErrAnd r (λ e. e ≡ fault_of fault) → ReadsRest (Err fault) now
    → bad_rest now ≡ bad_rest (unread text) → (s : Schema) (sp : Spine) → Gives NoMemory (λ x. x) r (read s sp text)
tells_bad text now fault (Ok x) is told same s sp = absurd is
tells_bad text now (row_fault.BadWidth n) (Err e) is told same s sp = λ other. text_bad (format s sp) text n (sym same ∙ told.0) ∙ ap Err (sym is)
tells_bad text now row_fault.NoMemory (Err e) is told same s sp = λ other. absurd (other is)
