use Rattle.std.proofs.Common.{◌+◌, length, Some, None, sym, ◌∙◌, arith}
use Rattle.std.proofs.lemmas.Bool.{lt-ltb, le-ltb}
use Rattle.tda_model.specs.Cells.{all_cells}
use Rattle.tda_model.specs.Spine.{level_of}
use Rattle.tda_out.specs.Counts.{count_at}
use Rattle.tda_audit.specs.Verdicts.{breaks}
use Rattle.tda_audit.specs.declared.verdict.Verdict.TheVariants.{Sum}
use Rattle.tda_audit.proofs.Walks.{number_none, number_found, no_number}
use Rattle.tda_audit.proofs.Passes.{sums_at, sums_inner, sums_other, sums_filtered, mapped_none, mapped_some}
use Rattle.tda_audit.proofs.rules.wrong_sum.Goals as goal
use Rattle.tda_audit.proofs.rules.wrong_sum.Goals.{then-level-levels+in_default, else-level-levels}

pub returns-in-Some : goal.returns-in-Some
returns-in-Some c = λ known.
    let s = c.args.schema.now in
    let sp = c.args.spine.now in
    let u = c.loop-unit.unit in
    let p = breaks s sp known (count_at c.args.tables.now) in
    number_found p (sums_at s sp) (length sp.units) u (c.loop-unit.invariant known) (omega arith) (Sum u c.in-Some.cell)
    (sums_inner s sp p u (lt-ltb (level_of sp u + 1) sp.depth (omega (arith, c.level.ensures, c.levels.ensures.count, c.requires.belong, c.if-level-levels.true))) (Some (Sum u c.in-Some.cell)) (mapped_some p (Sum u) (all_cells s) c.in-Some.cell (sym c.in-Some.ensures)))
    ∙ sums_filtered s sp p

pub loop-unit-preserved : goal.loop-unit-preserved
loop-unit-preserved c = λ known.
    let s = c.args.schema.now in
    let sp = c.args.spine.now in
    let u = c.loop-unit.unit in
    let p = breaks s sp known (count_at c.args.tables.now) in
    number_none p (sums_at s sp) (length sp.units) u (c.loop-unit.invariant known) (omega arith)
    (elim c.if-level-levels.branch [
      | then-level-levels+in_default w ↦
          sums_inner s sp p u (lt-ltb (level_of sp u + 1) sp.depth (omega (arith, c.level.ensures, c.levels.ensures.count, c.requires.belong, w.if-level-levels.true))) None
          (mapped_none p (Sum u) (all_cells s) (sym w.in_default.ensures))
      | else-level-levels w ↦
          sums_other s sp p u (le-ltb (level_of sp u + 1) sp.depth (omega (arith, c.level.ensures, c.levels.ensures.count, c.requires.belong, w.if-level-levels.false)))
    ])

pub returns : goal.returns
returns c = λ known.
    let s = c.args.schema.now in
    let sp = c.args.spine.now in
    let p = breaks s sp known (count_at c.args.tables.now) in
    no_number p (sums_at s sp) (length sp.units) c.loop-unit.unit (c.loop-unit.invariant known) (omega arith) ∙ sums_filtered s sp p
