use Rattle.tda_invar.specs.Known.{known_of}
use Rattle.tda_out.specs.Counts.{count_at}
use Rattle.tda_audit.proofs.Passes.{first_rule, second_rule, third_rule, fourth_rule}
use Rattle.tda_audit.proofs.rules.broken_rule.Goals as goal

pub returns-in-Some : goal.returns-in-Some
returns-in-Some c =
    let known = known_of c.args.spine.now c.args.inv.now in
    first_rule c.args.schema.now c.args.spine.now known (count_at c.args.tables.now) c.in-Some.verdict (c.in-Some.ensures known)

pub returns-in-Some-wrong_cell : goal.returns-in-Some-wrong_cell
returns-in-Some-wrong_cell c =
    let known = known_of c.args.spine.now c.args.inv.now in
    second_rule c.args.schema.now c.args.spine.now known (count_at c.args.tables.now) (c.in_default.ensures known) c.in-Some-wrong_cell.verdict (c.in-Some-wrong_cell.ensures known)

pub returns-in-Some-wrong_total : goal.returns-in-Some-wrong_total
returns-in-Some-wrong_total c =
    let known = known_of c.args.spine.now c.args.inv.now in
    third_rule c.args.schema.now c.args.spine.now known (count_at c.args.tables.now) (c.in_default.ensures known) (c.in_default-wrong_cell.ensures known)
    c.in-Some-wrong_total.verdict c.in-Some-wrong_total.ensures

pub returns : goal.returns
returns c =
    let known = known_of c.args.spine.now c.args.inv.now in
    fourth_rule c.args.schema.now c.args.spine.now known (count_at c.args.tables.now) (c.in_default.ensures known) (c.in_default-wrong_cell.ensures known)
    c.in_default-wrong_total.ensures c.wrong_kind.result c.wrong_kind.ensures
