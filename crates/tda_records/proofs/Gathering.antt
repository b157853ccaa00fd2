-- The records of the rows that were read so far.
use Rattle.std.proofs.Common.{◌≡◌, ℕ, ◌*◌, ◌≤◌, ◌^◌, ◌++◌, List, [], ◌∷◌, length, map, Option, Some, None, Result, Ok, Err, All, refl, sym, ap, ◌∙◌, arith}
use Rattle.std.proofs.lemmas.List.{length_push, length-map}
use Rattle.std.proofs.lemmas.List.Elements.{All-push}
use Rattle.std.proofs.lemmas.List.Sums.{sum_by-cons, sum_by_push}
use Rattle.std.specs.Prelude.{IsErrAnd}
use Rattle.tda_io.specs.Csv.{Row, first_fault}
use Rattle.tda_io.specs.Due.{Gives}
use Rattle.tda_io.specs.RowReading.{RowsRead, TakesRow, ReadsRest, bad_rest, rest_due, unread}
use Rattle.tda_io.specs.Rows.{rows_of}
use Rattle.tda_io.specs.declared.rows.RowFault.{RowFault}
use Rattle.tda_io.specs.declared.rows.RowFault.TheVariants as row_fault
use Rattle.tda_io.specs.Table.{row_cost, rows_cost}
use Rattle.tda_io.proofs.RestDue.{Passed, all_passed, leads_on, leads_to, none_passed, passes, rest_bad, rest_fault, rest_fine, text_bad}
use Rattle.tda_io.proofs.RowSizes.{rows_fit}
use Rattle.tda_model.specs.Schema.{Schema}
use Rattle.tda_model.specs.Spine.{Spine}
use Rattle.tda_spine.specs.Judged.{row_number}
use Rattle.tda_records.specs.Faults.{fault_of}
use Rattle.tda_records.specs.Records.{format, read, record_of, row_fault, AreRecordsOf, IsRecordOf}
use Rattle.tda_records.specs.declared.fault.RecFault.{RecFault}
use Rattle.tda_records.specs.declared.fault.RecFault.TheVariants.{BadRow, NoMemory}
use Rattle.tda_records.specs.declared.records.Record.{Record}

abbrev judge : Schema → Spine → List Row → Row → Option RecFault
judge s sp earlier row = row_fault s sp (row_number earlier) row

-- the rows that were read since the header have no fault, and these are their records
pub record Gathers (s : Schema) (sp : Spine) (start now : RowsRead) (records : List Record) : Type 0 where
  pub earlier : List Row
  pub passed : Passed start now earlier
  pub leads : first_fault (judge s sp) earlier now.rest ≡ first_fault (judge s sp) [] start.rest
  pub records_are : records ≡ map (record_of s sp) earlier
  pub each : All (IsRecordOf s sp) records
  pub cost : 4 * length earlier ≤ rows_cost earlier

map_push : {X Y : Type 0} (f : X → Y) (xs : List X) (x : X) → map f (xs ++ x ∷ []) ≡ map f xs ++ f x ∷ []
map_push f [] x = refl
map_push f (y ∷ xs) x = ap (λ ys. f y ∷ ys) (map_push f xs x)

module _ (s : Schema) (sp : Spine) (start : RowsRead) where
  pub starts : Gathers s sp start start []
  starts = record {
    earlier = [];
    passed = none_passed start;
    leads = refl;
    records_are = refl;
    each = λ k d below. absurd (omega (arith, below));
    cost = omega arith;
  }

  module _ (now new : RowsRead) (records : List Record) (first : start.number ≡ 1) (g : Gathers s sp start now records) (takes : TakesRow now new) where
    -- the number of the row that was read last
    number : new.number ≡ row_number g.earlier
    number = omega (arith, takes.number, g.passed.number, first)

    judged : (o : Option RecFault) → row_fault s sp new.number new.row ≡ o → judge s sp g.earlier new.row ≡ o
    judged o is = ap (λ n. row_fault s sp n new.row) (sym number) ∙ is

    pub wide : new.width ≡ start.width
    wide = takes.same (omega (arith, g.passed.number, first)) ∙ g.passed.width

    -- a row without a fault
    pub goes_on : (r : Record) → row_fault s sp new.number new.row ≡ None → r ≡ record_of s sp new.row → IsRecordOf s sp r → 4 ≤ row_cost new.row
        → Gathers s sp start new (records ++ r ∷ [])
    goes_on r fine is of size = record {
      earlier = g.earlier ++ new.row ∷ [];
      passed = passes start now new g.earlier (omega (arith, first)) g.passed takes;
      leads = leads_on (judge s sp) g.earlier new.row new.rest now.rest _ g.leads takes.rest (judged None fine);
      records_are = ap (λ rs. rs ++ r ∷ []) g.records_are ∙ ap (λ x. map (record_of s sp) g.earlier ++ x ∷ []) is ∙ sym (map_push (record_of s sp) g.earlier new.row);
      each = All-push (IsRecordOf s sp) records r g.each of;
      cost = omega (arith, g.cost, size, length_push g.earlier new.row, sum_by_push row_cost g.earlier new.row);
    }

    -- a row with a fault, and no later row of another width
    pub stops : (f : RecFault) → row_fault s sp new.number new.row ≡ Some f → bad_rest new ≡ None → rest_due (format s sp) start ≡ Err f
    stops f fault even =
        rest_fault (format s sp) start f (sym g.passed.bad ∙ sym takes.bad ∙ even)
        (sym (leads_to (judge s sp) g.earlier new.row new.rest now.rest _ g.leads takes.rest f (judged (Some f) fault)))

    pub later_bad : (n : ℕ) → bad_rest new ≡ Some n → rest_due (format s sp) start ≡ Err (BadRow n)
    later_bad n bad = rest_bad (format s sp) start n (sym g.passed.bad ∙ sym takes.bad ∙ bad)

  module _ (now : RowsRead) (records : List Record) (g : Gathers s sp start now records) where
    pub bad_row : (n : ℕ) → bad_rest now ≡ Some n → rest_due (format s sp) start ≡ Err (BadRow n)
    bad_row n bad = rest_bad (format s sp) start n (sym g.passed.bad ∙ bad)

    -- no row is left
    module _ (none : now.rest ≡ []) (even : bad_rest now ≡ None) where
      all : start.rest ≡ g.earlier
      all = all_passed start now g.earlier g.passed none

      pub ended : rest_due (format s sp) start ≡ Ok records
      ended =
          rest_fine (format s sp) start (sym g.passed.bad ∙ even) (sym g.leads ∙ rw none refl) refl
          ∙ ap Ok (ap (map (record_of s sp)) all ∙ sym g.records_are)

      pub are_records : rows_cost start.rest ≤ 2 ^ 28 → AreRecordsOf s sp records
      are_records few =
          let size = ap length g.records_are ∙ length-map g.earlier (record_of s sp) in
          let cost = ap rows_cost all in
          record { each = g.each; few = omega (arith, size, cost, g.cost, few) }

-- the rows after the header take less than the text
pub rest_few : (text : List ℕ) (first : RowsRead) → TakesRow (unread text) first → 1 ≤ length first.row → length text ≤ 2 ^ 28 → rows_cost first.rest ≤ 2 ^ 28
rest_few text first takes some limit =
    let rows : rows_of text ≡ first.row ∷ first.rest = takes.rest in
    omega (arith, rows_fit text, ap rows_cost rows, sum_by-cons row_cost first.row first.rest, some, limit)

-- a row of another width, told by the reader of rows
pub tells_bad : (text : List ℕ) (now : RowsRead) (fault : RowFault) (r : Result (List Record) RecFault) → IsErrAnd r (λ e. e ≡ fault_of fault) → ReadsRest (Err fault) now
    → bad_rest now ≡ bad_rest (unread text) → (s : Schema) (sp : Spine) → Gives NoMemory (λ x. x) r (read s sp text)
tells_bad text now fault (Ok x) is told same s sp = absurd is
tells_bad text now (row_fault.BadWidth n) (Err e) is told same s sp = λ other. text_bad (format s sp) text n (sym same ∙ told.0) ∙ ap Err (sym is)
tells_bad text now row_fault.NoMemory (Err e) is told same s sp = λ other. absurd (other is)
