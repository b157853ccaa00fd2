use Rattle.std.proofs.Common.{ℕ, arith, refl}
use Rattle.std.proofs.lemmas.Int.{ints}
use Rattle.tda_cancel.specs.Steps.{step_at}
use Rattle.tda_cancel.specs.Rows.{cost_at, last_at}
use Rattle.tda_cancel.proofs.Signed.{plain-add}
use Rattle.tda_cancel.proofs.Lowered.{row-kept, row-lowered}
use Rattle.tda_cancel.proofs.rows.follow.Goals as goal

pub returns-then-costs-end : goal.returns-then-costs-end
returns-then-costs-end c =
    let from : ℕ = (step_at c.args.steps.now c.args.place).from in
    let e = plain-add (cost_at c.args.before.now from) (step_at c.args.steps.now c.args.place).cost
    (c.requires.near from (c.requires.steps.from c.args.place c.requires.place)) (c.requires.steps.near c.args.place c.requires.place) in
    let h = c.if-costs-end.true in
    row-kept c.args.steps.now c.args.place _ (cost_at c.args.before.now) (cost_at c.args.costs.now) (last_at c.args.lasts.now) c.requires.row (omega (arith, ints, e))

pub returns : goal.returns
returns c =
    let from : ℕ = (step_at c.args.steps.now c.args.place).from in
    let e = plain-add (cost_at c.args.before.now from) (step_at c.args.steps.now c.args.place).cost
    (c.requires.near from (c.requires.steps.from c.args.place c.requires.place)) (c.requires.steps.near c.args.place c.requires.place) in
    let h = c.if-costs-end.false in
    row-lowered c.args.steps.now c.args.place _ (cost_at c.args.before.now) c.args.costs.now c.args.lasts.now (step_at c.args.steps.now c.args.place).to _
    c.requires.row refl e (omega (arith, ints, e)) (c.requires.steps.to c.args.place c.requires.place) refl (omega arith)
