use Rattle.std.proofs.Common.{◌≡◌, ◌∙◌, ◌<◌, ◌≤◌, ℕ, ap, arith, sum_by}
use Rattle.tda_model.specs.Spine.{children_of}
use Rattle.tda_invar.specs.KindTable.{number_at}
use Rattle.tda_invar.proofs.Raising.{same_children}
use Rattle.tda_invar.proofs.TableLemmas.{row_more}
use Rattle.tda_invar.proofs.UnitLists.{children_within, few_children}
use Rattle.tda_invar.proofs.lows.sum_children.Goals as goal

pub sum-sum-requires-clause-units : goal.sum-sum-requires-clause-units
sum-sum-requires-clause-units c =
    rw (c.children-children.ensures, c.loop-kind.invariant.sized.units, c.requires.units) (children_within c.args.spine.now c.args.unit)

pub sum-sum-requires-clause-few : goal.sum-sum-requires-clause-few
sum-sum-requires-clause-few c = rw c.children-children.ensures (few_children c.args.spine.now c.args.unit c.requires.sound)

pub set-requires-clause-limit : goal.set-requires-clause-limit
set-requires-clause-limit c =
    let old = c.args.numbers.now in
    let row : ℕ → ℕ = λ k. sum_by (λ v. number_at old v k) (children_of c.args.spine.now c.args.unit) in
    let sum = c.sum-sum.ensures ∙ ap (sum_by (λ v. number_at c.loop-kind.numbers v c.loop-kind.kind)) c.children-children.ensures in
    let same = same_children c.args.spine.now c.requires.sound c.args.unit c.requires.unit old c.loop-kind.numbers c.loop-kind.kind row c.loop-kind.invariant c.loop-kind.kind in
    let le = c.requires.room c.loop-kind.kind (omega (arith, c.loop-kind-test.true, c.kinds-kind-end.ensures)) in
    omega (arith, sum, same, le)

pub loop-kind-preserved : goal.loop-kind-preserved
loop-kind-preserved c =
    let old = c.args.numbers.now in
    let row : ℕ → ℕ = λ k. sum_by (λ v. number_at old v k) (children_of c.args.spine.now c.args.unit) in
    let sum = c.sum-sum.ensures ∙ ap (sum_by (λ v. number_at c.loop-kind.numbers v c.loop-kind.kind)) c.children-children.ensures in
    let same = same_children c.args.spine.now c.requires.sound c.args.unit c.requires.unit old c.loop-kind.numbers c.loop-kind.kind row c.loop-kind.invariant c.loop-kind.kind in
    row_more old c.loop-kind.numbers c.set.new.self c.args.unit c.loop-kind.kind c.sum-sum.result row c.loop-kind.invariant c.set.ensures (sum ∙ same)
