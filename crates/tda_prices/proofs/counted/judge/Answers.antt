use Rattle.std.proofs.Common.{◌≡◌, ◌<◌, ◌+◌, ◌*◌, ◌^◌, ◌∙◌, [], Some, None, ap, sym, arith, get_or}
use Rattle.tda_model.specs.Bounds.{persons_limit}
use Rattle.tda_model.specs.Cells.{cell_count}
use Rattle.tda_model.specs.Spine.{code_of}
use Rattle.tda_prices.specs.TablesRead.{comes_late, count_in, number_within, spot_in}
use Rattle.tda_prices.specs.declared.fault.TabFault.TheVariants.{WrongPlace, BadNumber}
use Rattle.tda_prices.proofs.TablesJudging.{late_fault, named, no_count, no_fault, nowhere, spot_at, stands_nowhere}
use Rattle.tda_prices.proofs.counted.judge.Goals as goal

pub returns-in_default-clause-err : goal.returns-in_default-clause-err
returns-in_default-clause-err c =
    let s = c.args.schema.now in
    let sp = c.args.spine.now in
    let row = c.args.row.now.row in
    let n = c.args.row.now.number in
    stands_nowhere s sp n c.args.last row (nowhere s sp c.units.ensures.sound row (λ u here e. c.in_default.ensures.absent u here (e ∙ sym c.field.ensures)))
    ∙ ap (λ m. Some (WrongPlace m)) (sym c.number-number.ensures)

pub returns-then-is_late-clause-err : goal.returns-then-is_late-clause-err
returns-then-is_late-clause-err c =
    let s = c.args.schema.now in
    let sp = c.args.spine.now in
    let row = c.args.row.now.row in
    let n = c.args.row.now.number in
    let u = c.in-Some.unit in
    let j = c.in-Some-cell_named.cell in
    let code : code_of sp u ≡ get_or row 0 [] = c.in-Some.ensures.found.1 ∙ c.field.ensures in
    let is : number_within 0 (cell_count s) (get_or row 1 []) ≡ Some j = ap (number_within 0 (cell_count s)) (sym c.field-2.ensures) ∙ c.in-Some-cell_named.ensures.some in
    let few : cell_count s < 2 ^ 64 = omega (arith, c.cells.ensures.limits.cells) in
    let here = c.in-Some.ensures.found.0 in
    let at : spot_in s sp row ≡ Some (c.from.result * c.from-2.result + c.from-3.result) =
    spot_at s sp c.units.ensures.sound row few u j here c.in-Some-cell_named.ensures.cell code is c.args.ranks.now c.requires.ranks
    ∙ ap (λ m. Some (m * cell_count s + j)) (sym c.from.ensures) ∙ ap (λ m. Some (c.from.result * m + j)) (sym (c.from-2.ensures ∙ c.cells.ensures.count)) ∙ ap (λ m. Some (c.from.result * c.from-2.result + m)) (sym c.from-3.ensures) in
    late_fault s sp n c.args.last row (ap (comes_late c.args.last) at ∙ sym c.is_late.ensures ∙ c.if-is_late.true) ∙ ap (λ m. Some (WrongPlace m)) (sym c.number-number.ensures)

pub returns-in-Some-number_within-clause-named : goal.returns-in-Some-number_within-clause-named
returns-in-Some-number_within-clause-named c =
    let s = c.args.schema.now in
    let sp = c.args.spine.now in
    let row = c.args.row.now.row in
    let n = c.args.row.now.number in
    let u = c.in-Some.unit in
    let j = c.in-Some-cell_named.cell in
    let code : code_of sp u ≡ get_or row 0 [] = c.in-Some.ensures.found.1 ∙ c.field.ensures in
    let is : number_within 0 (cell_count s) (get_or row 1 []) ≡ Some j = ap (number_within 0 (cell_count s)) (sym c.field-2.ensures) ∙ c.in-Some-cell_named.ensures.some in
    let few : cell_count s < 2 ^ 64 = omega (arith, c.cells.ensures.limits.cells) in
    let here = c.in-Some.ensures.found.0 in
    let at : spot_in s sp row ≡ Some (c.from.result * c.from-2.result + c.from-3.result) =
    spot_at s sp c.units.ensures.sound row few u j here c.in-Some-cell_named.ensures.cell code is c.args.ranks.now c.requires.ranks
    ∙ ap (λ m. Some (m * cell_count s + j)) (sym c.from.ensures) ∙ ap (λ m. Some (c.from.result * m + j)) (sym (c.from-2.ensures ∙ c.cells.ensures.count)) ∙ ap (λ m. Some (c.from.result * c.from-2.result + m)) (sym c.from-3.ensures) in
    named s sp c.units.ensures.sound row few u j here c.in-Some-cell_named.ensures.cell code is

pub returns-in-Some-number_within-clause-spot : goal.returns-in-Some-number_within-clause-spot
returns-in-Some-number_within-clause-spot c =
    let s = c.args.schema.now in
    let sp = c.args.spine.now in
    let row = c.args.row.now.row in
    let n = c.args.row.now.number in
    let u = c.in-Some.unit in
    let j = c.in-Some-cell_named.cell in
    let code : code_of sp u ≡ get_or row 0 [] = c.in-Some.ensures.found.1 ∙ c.field.ensures in
    let is : number_within 0 (cell_count s) (get_or row 1 []) ≡ Some j = ap (number_within 0 (cell_count s)) (sym c.field-2.ensures) ∙ c.in-Some-cell_named.ensures.some in
    let few : cell_count s < 2 ^ 64 = omega (arith, c.cells.ensures.limits.cells) in
    let here = c.in-Some.ensures.found.0 in
    let at : spot_in s sp row ≡ Some (c.from.result * c.from-2.result + c.from-3.result) =
    spot_at s sp c.units.ensures.sound row few u j here c.in-Some-cell_named.ensures.cell code is c.args.ranks.now c.requires.ranks
    ∙ ap (λ m. Some (m * cell_count s + j)) (sym c.from.ensures) ∙ ap (λ m. Some (c.from.result * m + j)) (sym (c.from-2.ensures ∙ c.cells.ensures.count)) ∙ ap (λ m. Some (c.from.result * c.from-2.result + m)) (sym c.from-3.ensures) in
    at

pub returns-in-Some-number_within-clause-fine : goal.returns-in-Some-number_within-clause-fine
returns-in-Some-number_within-clause-fine c =
    let s = c.args.schema.now in
    let sp = c.args.spine.now in
    let row = c.args.row.now.row in
    let n = c.args.row.now.number in
    let u = c.in-Some.unit in
    let j = c.in-Some-cell_named.cell in
    let code : code_of sp u ≡ get_or row 0 [] = c.in-Some.ensures.found.1 ∙ c.field.ensures in
    let is : number_within 0 (cell_count s) (get_or row 1 []) ≡ Some j = ap (number_within 0 (cell_count s)) (sym c.field-2.ensures) ∙ c.in-Some-cell_named.ensures.some in
    let few : cell_count s < 2 ^ 64 = omega (arith, c.cells.ensures.limits.cells) in
    let here = c.in-Some.ensures.found.0 in
    let at : spot_in s sp row ≡ Some (c.from.result * c.from-2.result + c.from-3.result) =
    spot_at s sp c.units.ensures.sound row few u j here c.in-Some-cell_named.ensures.cell code is c.args.ranks.now c.requires.ranks
    ∙ ap (λ m. Some (m * cell_count s + j)) (sym c.from.ensures) ∙ ap (λ m. Some (c.from.result * m + j)) (sym (c.from-2.ensures ∙ c.cells.ensures.count)) ∙ ap (λ m. Some (c.from.result * c.from-2.result + m)) (sym c.from-3.ensures) in
    let count : count_in row ≡ Some c.in-Some-number_within.count = ap (number_within 1 persons_limit) (sym c.field-3.ensures) ∙ sym c.number_within.ensures.value ∙ c.in-Some-number_within.is in
    no_fault s sp n c.args.last row _ at (sym c.is_late.ensures ∙ c.if-is_late.false) c.in-Some-number_within.count count

pub returns-in-None-clause-err : goal.returns-in-None-clause-err
returns-in-None-clause-err c =
    let s = c.args.schema.now in
    let sp = c.args.spine.now in
    let row = c.args.row.now.row in
    let n = c.args.row.now.number in
    let u = c.in-Some.unit in
    let j = c.in-Some-cell_named.cell in
    let code : code_of sp u ≡ get_or row 0 [] = c.in-Some.ensures.found.1 ∙ c.field.ensures in
    let is : number_within 0 (cell_count s) (get_or row 1 []) ≡ Some j = ap (number_within 0 (cell_count s)) (sym c.field-2.ensures) ∙ c.in-Some-cell_named.ensures.some in
    let few : cell_count s < 2 ^ 64 = omega (arith, c.cells.ensures.limits.cells) in
    let here = c.in-Some.ensures.found.0 in
    let at : spot_in s sp row ≡ Some (c.from.result * c.from-2.result + c.from-3.result) =
    spot_at s sp c.units.ensures.sound row few u j here c.in-Some-cell_named.ensures.cell code is c.args.ranks.now c.requires.ranks
    ∙ ap (λ m. Some (m * cell_count s + j)) (sym c.from.ensures) ∙ ap (λ m. Some (c.from.result * m + j)) (sym (c.from-2.ensures ∙ c.cells.ensures.count)) ∙ ap (λ m. Some (c.from.result * c.from-2.result + m)) (sym c.from-3.ensures) in
    let none : count_in row ≡ None = ap (number_within 1 persons_limit) (sym c.field-3.ensures) ∙ sym c.number_within.ensures.value ∙ c.in-None.is in
    no_count s sp n c.args.last row _ at (sym c.is_late.ensures ∙ c.if-is_late.false) none ∙ ap (λ m. Some (BadNumber m)) (sym c.number-number.ensures)
