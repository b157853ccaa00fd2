use Rattle.std.proofs.Common.{◌≤◌, arith}
use Rattle.tda_model.specs.Groups.{kind_count}
use Rattle.tda_prices.proofs.FileLaws.{prices_read_back, prices_short}
use Rattle.tda_prices.proofs.reader.read_prices.Goals as goal

pub returns-clause-read_back : goal.returns-clause-read_back
returns-clause-read_back c =
    let s = c.args.schema.now in
    let kinds : kind_count s ≤ 128 = omega (arith, c.kinds.ensures.count, c.kinds.ensures.limit) in
    prices_read_back s c.args.spine.now c.units.ensures.sound c.cells.ensures.limits.cells kinds c.count_all.ensures.nested

pub returns-clause-short : goal.returns-clause-short
returns-clause-short c =
    let s = c.args.schema.now in
    let kinds : kind_count s ≤ 128 = omega (arith, c.kinds.ensures.count, c.kinds.ensures.limit) in
    prices_short s c.args.spine.now c.units.ensures.sound c.cells.ensures.limits.cells kinds c.count_all.ensures.nested
