use Rattle.std.proofs.Common.{arith, length}
use Rattle.tda_model.specs.Cells.{cell_count}
use Rattle.tda_schema.specs.Stated.{queries_at}
use Rattle.tda_places.proofs.Sizes.{few_places, few_product}
use Rattle.tda_fitnet.proofs.first_place.unit_size.Goals as goal

pub returns-clause-few : goal.returns-clause-few
returns-clause-few c =
    let s = c.args.schema.now in
    let within = few_product (length (queries_at s c.args.level)) (cell_count s) 8 4096 (omega (arith, c.queries.ensures.count, c.queries.ensures.limit)) c.cells.ensures.limits.cells in
    omega (arith, c.places.ensures, few_places s c.args.level, within)
