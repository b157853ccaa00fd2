use Rattle.std.proofs.Common.{◌∙◌, Some, ap, sym}
use Rattle.tda_records.specs.declared.fault.RecFault.TheVariants.{ImpossibleCell}
use Rattle.tda_records.proofs.RowLemmas.{fault_cell, no_fault, record_is}
use Rattle.tda_records.proofs.judge.judge.Goals as goal

pub returns-then-not-possible-clause-err : goal.returns-then-not-possible-clause-err
returns-then-not-possible-clause-err c =
    let impossible = sym c.possible.ensures ∙ c.if-not-possible.true in
    fault_cell c.args.schema.now c.args.spine.now c.args.row.now.number c.args.row.now.row c.in-Some.block (sym c.in-Some.ensures.value) c.in-Some-cell_in.cell c.in-Some-cell_in.ensures.some impossible
    ∙ ap (λ n. Some (ImpossibleCell n)) (sym c.number-number.ensures)

pub returns-clause-ok : goal.returns-clause-ok
returns-clause-ok c =
    let possible = sym c.possible.ensures ∙ c.if-not-possible.false in
    record_is c.args.schema.now c.args.spine.now c.args.row.now.number c.args.row.now.row c.in-Some.block (sym c.in-Some.ensures.value) c.in-Some-cell_in.cell c.in-Some-cell_in.ensures.some possible

pub returns-clause-fine : goal.returns-clause-fine
returns-clause-fine c =
    let possible = sym c.possible.ensures ∙ c.if-not-possible.false in
    no_fault c.args.schema.now c.args.spine.now c.args.row.now.number c.args.row.now.row c.in-Some.block (sym c.in-Some.ensures.value) c.in-Some-cell_in.cell c.in-Some-cell_in.ensures.some possible
