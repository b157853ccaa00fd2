use Rattle.std.proofs.Common.{◌∙◌, sym, length, arith}
use Rattle.tda_spine.specs.Judged.{is_childless}
use Rattle.tda_spine.specs.Rows.{spine_in}
use Rattle.tda_spine.proofs.Firsts.{number_fails, number_passes, no_number}
use Rattle.tda_spine.proofs.UnitRows.{many}
use Rattle.tda_spine.proofs.whole.first_childless.Goals as goal

pub returns-then-is_childless : goal.returns-then-is_childless
returns-then-is_childless c =
    let s = c.args.schema.now in
    let rows = c.args.rows.now in
    let sp = spine_in s rows in
    number_passes (is_childless sp) (length sp.units) c.loop-unit.unit c.loop-unit.invariant (omega (arith, many s rows)) (sym c.is_childless.ensures ∙ c.if-is_childless.true)

pub loop-unit-preserved : goal.loop-unit-preserved
loop-unit-preserved c =
    let s = c.args.schema.now in
    let rows = c.args.rows.now in
    let sp = spine_in s rows in
    number_fails (is_childless sp) (length sp.units) c.loop-unit.unit c.loop-unit.invariant (omega (arith, many s rows)) (sym c.is_childless.ensures ∙ c.if-is_childless.false)

pub returns : goal.returns
returns c =
    let s = c.args.schema.now in
    let rows = c.args.rows.now in
    let sp = spine_in s rows in
    no_number (is_childless sp) (length sp.units) c.loop-unit.unit c.loop-unit.invariant (omega (arith, many s rows))
