use Rattle.std.proofs.Common.{◌<◌, arith, get_or, sym}
use Rattle.tda_records.proofs.RowLemmas.{filled, unknown_value}
use Rattle.tda_records.proofs.judge.cell_in.Goals as goal

pub returns-in_default-clause-none : goal.returns-in_default-clause-none
returns-in_default-clause-none c =
    let below = rw c.attributes-attributes.ensures.count at c.loop-a-test.true in
    unknown_value c.args.schema.now c.args.row.now.row c.loop-a.a below (rw c.field.ensures at (sym c.in_default.ensures))

pub returns-clause-filled : goal.returns-clause-filled
returns-clause-filled c =
    let some = c.attributes-attributes.ensures.limits.some_attribute in
    let first : 0 < c.loop-a.a = omega (arith, c.loop-a-test.false, c.attributes-attributes.ensures.count, some) in
    filled c.args.schema.now c.args.row.now.row (get_or c.loop-a.values 0 0) c.value_name.result.now (c.loop-a.invariant.named 0 first) c.value_name.ensures.value c.value_name.ensures.name
