use Rattle.std.proofs.Common.{◌≤◌, ◌^◌, arith}
use Rattle.tda_model.specs.Cells.{cell_count}
use Rattle.tda_places.proofs.Sizes.{few_before, few_product}
use Rattle.tda_places.proofs.spot.before_query.Goals as goal

pub overflow_add-count : goal.overflow_add-count
overflow_add-count c =
    let q = c.loop-earlier.earlier in
    let within = few_product q (cell_count c.args.schema.now) 8 4096 (omega (arith, c.loop-earlier-test.true, c.requires.query, c.queries.ensures.count, c.queries.ensures.limit)) c.cells.ensures.limits.cells in
    omega (arith, few_before c.args.schema.now c.args.level q, within, c.loop-earlier.invariant, c.classes.ensures.limit, c.cells.ensures.limits.cells)

pub returns-clause-few : goal.returns-clause-few
returns-clause-few c =
    let q = c.loop-earlier.earlier in
    let within = few_product q (cell_count c.args.schema.now) 8 4096 (omega (arith, c.loop-earlier.auto.earlier-end, c.requires.query, c.queries.ensures.count, c.queries.ensures.limit)) c.cells.ensures.limits.cells in
    omega (arith, few_before c.args.schema.now c.args.level q, within, c.loop-earlier.invariant)
