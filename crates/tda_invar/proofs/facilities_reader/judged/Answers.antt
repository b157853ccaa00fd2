use Rattle.std.proofs.Common.{◌≡◌, ◌≤◌, ◌∙◌, sym, ap, refl, Ok, arith}
use Rattle.tda_io.specs.Csv.{after_header}
use Rattle.tda_invar.specs.Facilities.{facilities_of}
use Rattle.tda_invar.proofs.FacilityRows.{numbers_of_rows, numbers_small, judged_ok}
use Rattle.tda_invar.proofs.facilities_reader.judged.Goals as goal

pub new-table-requires-clause-limit : goal.new-table-requires-clause-limit
new-table-requires-clause-limit c =
    rw (c.in_ok-numbers.ensures, c.deref.ensures.value) (λ k d l.
    let small = numbers_small c.args.schema.now c.args.spine.now (after_header c.args.rows.now) c.in_ok-entries.entries.items c.in_ok-entries.ensures.ok k d l in
    omega (arith, small))

pub new-requires : goal.new-requires
new-requires c =
    rw (c.new-table.ensures, c.in_ok-numbers.ensures, c.deref.ensures.value)
    (numbers_small c.args.schema.now c.args.spine.now (after_header c.args.rows.now) c.in_ok-entries.entries.items c.in_ok-entries.ensures.ok)

pub returns-clause-given : goal.returns-clause-given
returns-clause-given c =
    let s = c.args.schema.now in
    let sp = c.args.spine.now in
    let rows = after_header c.args.rows.now in
    let numbers = numbers_of_rows s sp rows c.in_ok-entries.entries.items c.in_ok-entries.ensures.ok in
    let table : c.new.result ≡ facilities_of s sp rows =
    rw (c.new.ensures, c.new-table.ensures, c.in_ok-numbers.ensures, c.deref.ensures.value, c.units.ensures.count, c.kinds.ensures.count, numbers) refl in
    judged_ok s sp c.args.rows.now (sym c.if-not-has_header.ensures.header) c.in_ok-entries.ensures.fine ∙ ap Ok (sym table)
