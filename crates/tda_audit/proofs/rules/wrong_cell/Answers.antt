use Rattle.std.proofs.Common.{map, length, sym, arith}
use Rattle.tda_model.specs.Cells.{all_cells}
use Rattle.tda_out.specs.Counts.{count_at}
use Rattle.tda_audit.specs.Verdicts.{breaks}
use Rattle.tda_audit.specs.declared.verdict.Verdict.TheVariants.{Impossible}
use Rattle.tda_audit.proofs.Walks.{number_none, number_found, no_number}
use Rattle.tda_audit.proofs.Passes.{mapped_none, mapped_some}
use Rattle.tda_audit.proofs.rules.wrong_cell.Goals as goal

pub returns-in-Some : goal.returns-in-Some
returns-in-Some c = λ known.
    let s = c.args.schema.now in
    let u = c.loop-unit.unit in
    let p = breaks s c.args.spine.now known (count_at c.args.tables.now) in
    number_found p (λ v. map (Impossible v) (all_cells s)) (length c.args.spine.now.units) u (c.loop-unit.invariant known) (omega arith) (Impossible u c.in-Some.cell)
    (mapped_some p (Impossible u) (all_cells s) c.in-Some.cell (sym c.in-Some.ensures))

pub loop-unit-preserved : goal.loop-unit-preserved
loop-unit-preserved c = λ known.
    let s = c.args.schema.now in
    let u = c.loop-unit.unit in
    let p = breaks s c.args.spine.now known (count_at c.args.tables.now) in
    number_none p (λ v. map (Impossible v) (all_cells s)) (length c.args.spine.now.units) u (c.loop-unit.invariant known) (omega arith)
    (mapped_none p (Impossible u) (all_cells s) (sym c.in_default.ensures))

pub returns : goal.returns
returns c = λ known.
    let s = c.args.schema.now in
    let p = breaks s c.args.spine.now known (count_at c.args.tables.now) in
    no_number p (λ v. map (Impossible v) (all_cells s)) (length c.args.spine.now.units) c.loop-unit.unit (c.loop-unit.invariant known) (omega arith)
