use Rattle.std.proofs.Common.{◌∙◌, [], Err, ap, sym}
use Rattle.std.proofs.lemmas.Result.{err_from_is_err_and}
use Rattle.tda_prices.proofs.DueOf.{all_stops, end_fault, end_stops, ended}
use Rattle.tda_prices.proofs.Reading.{rest_stops, row_stops}
use Rattle.tda_prices.proofs.reader.prices_of.Goals as goal

pub returns-in_err-prices-clause-given : goal.returns-in_err-prices-clause-given
returns-in_err-prices-clause-given c =
    let s = c.args.schema.now in
    let sp = c.args.spine.now in
    let old = c.args.rows.now in
    let why = c.in_err-prices.field-0.0 in
    let p = err_from_is_err_and c.from_residual.result c.from_residual.ensures.1 in
    rw (p.1, p.2) (λ other. all_stops s sp old c.requires.number why c.in_err-prices.ensures.err other)

pub returns-in_err-next_row-clause-given : goal.returns-in_err-next_row-clause-given
returns-in_err-next_row-clause-given c =
    let s = c.args.schema.now in
    let sp = c.args.spine.now in
    let old = c.args.rows.now in
    let mid = c.read_fits.new.rows in
    let numbers = c.in_ok-prices.prices.numbers in
    let reads = c.in_ok-prices.ensures.ok in
    let p = err_from_is_err_and c.from_residual-in_err-next_row.result c.from_residual-in_err-next_row.ensures.1 in
    rw p.1 (λ other. end_stops s sp old mid c.requires.number numbers reads p.0 (row_stops [] mid c.next_row.new.self c.in_err-next_row.field-0.0 p.0 c.in_err-next_row.ensures p.2) other)

pub returns-in_err-finish-clause-given : goal.returns-in_err-finish-clause-given
returns-in_err-finish-clause-given c =
    let s = c.args.schema.now in
    let sp = c.args.spine.now in
    let old = c.args.rows.now in
    let mid = c.read_fits.new.rows in
    let numbers = c.in_ok-prices.prices.numbers in
    let reads = c.in_ok-prices.ensures.ok in
    let takes = rw c.if-branch.true at c.in_ok-next_row.ensures in
    let p = err_from_is_err_and c.from_residual-in_err-finish.result c.from_residual-in_err-finish.ensures.1 in
    rw p.1 (λ other. end_stops s sp old mid c.requires.number numbers reads p.0 (rest_stops [] mid c.next_row.new.self c.in_err-finish.field-0.0 p.0 takes c.in_err-finish.ensures p.2) other)

pub returns-then-branch-clause-given : goal.returns-then-branch-clause-given
returns-then-branch-clause-given c = λ other.
    let s = c.args.schema.now in
    let sp = c.args.spine.now in
    let old = c.args.rows.now in
    let mid = c.read_fits.new.rows in
    let numbers = c.in_ok-prices.prices.numbers in
    let reads = c.in_ok-prices.ensures.ok in
    let takes = rw c.if-branch.true at c.in_ok-next_row.ensures in
    end_fault s sp old mid c.requires.number numbers reads c.next_row.new.self takes c.in_ok-finish.ensures.0 ∙ ap Err (sym c.past_fault-fault.ensures)

pub returns-clause-given : goal.returns-clause-given
returns-clause-given c =
    let s = c.args.schema.now in
    let sp = c.args.spine.now in
    let old = c.args.rows.now in
    let mid = c.read_fits.new.rows in
    let numbers = c.in_ok-prices.prices.numbers in
    let reads = c.in_ok-prices.ensures.ok in
    let ends = rw c.if-branch.false at c.in_ok-next_row.ensures in
    ended s sp old mid c.requires.number numbers reads c.next_row.new.self ends
