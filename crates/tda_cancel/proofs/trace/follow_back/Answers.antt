use Rattle.std.proofs.Common.{◌≡◌, ◌-◌, ◌<◌, length, Bool, true, false, not, ℕ, Option, Some, None, is_some, subst, arith}
use Rattle.tda_cancel.specs.Rows.{IsLowered}
use Rattle.tda_cancel.proofs.Traced.{mark_at, following-none, row-left, last-step, following-more, losing}
use Rattle.tda_cancel.proofs.trace.follow_back.Goals as goal

none_of : {X : Type 0} (o : Option X) (b : Bool) → is_some o ≡ not b → b ≡ true → o ≡ None
none_of None b e f = cc
none_of (Some x) true e f = absurd (cc)
none_of (Some x) false e f = absurd (cc)

some_is : (a b : ℕ) (o : Option ℕ) → o ≡ Some a → o ≡ Some b → a ≡ b
some_is a b o e f = cc

pub loop-marks-init : goal.loop-marks-init
loop-marks-init c = (
  c.requires.table,
  following-none c.args.steps.now (length c.args.marks.now) c.args.lasts.now c.requires.table c.set_all.new.entries c.args.walk.now c.args.start
      c.requires.start c.requires.changed c.set_all.ensures,
)

pub unreachable-requires : goal.unreachable-requires
unreachable-requires c =
    let t = c.loop-marks.invariant.0 in
    let h = c.loop-marks.invariant.1 in
    let none : mark_at c.loop-marks.marks c.loop-marks.at ≡ None = none_of _ c.is_none.result c.is_none.ensures c.loop-marks-test.true in
    let some : 0 < c.loop-marks.row = row-left c.args.steps.now t.0 (length c.args.marks.now) c.loop-marks.marks c.loop-marks.walk c.loop-marks.at c.loop-marks.row h (omega arith) none in
    let w = last-step c.args.steps.now (length c.args.marks.now) c.args.lasts.now t c.loop-marks.marks c.loop-marks.walk c.loop-marks.at c.loop-marks.row h some in
    c.in_default.not-Some w.0 w.1

pub bounds-steps-last : goal.bounds-steps-last
bounds-steps-last c =
    let t = c.loop-marks.invariant.0 in
    let h = c.loop-marks.invariant.1 in
    let none : mark_at c.loop-marks.marks c.loop-marks.at ≡ None = none_of _ c.is_none.result c.is_none.ensures c.loop-marks-test.true in
    let some : 0 < c.loop-marks.row = row-left c.args.steps.now t.0 (length c.args.marks.now) c.loop-marks.marks c.loop-marks.walk c.loop-marks.at c.loop-marks.row h (omega arith) none in
    let w = last-step c.args.steps.now (length c.args.marks.now) c.args.lasts.now t c.loop-marks.marks c.loop-marks.walk c.loop-marks.at c.loop-marks.row h some in
    let e = some_is w.0 c.in-Some.last _ w.1 c.in-Some.is in
    omega (arith, w.2.listed)

pub loop-marks-preserved : goal.loop-marks-preserved
loop-marks-preserved c =
    let n : ℕ = length c.args.marks.now in
    let at : ℕ = c.loop-marks.at in
    let row : ℕ = c.loop-marks.row in
    let t = c.loop-marks.invariant.0 in
    let h = c.loop-marks.invariant.1 in
    let none : mark_at c.loop-marks.marks at ≡ None = none_of _ c.is_none.result c.is_none.ensures c.loop-marks-test.true in
    let some : 0 < row = row-left c.args.steps.now t.0 n c.loop-marks.marks c.loop-marks.walk at row h (omega arith) none in
    let w = last-step c.args.steps.now n c.args.lasts.now t c.loop-marks.marks c.loop-marks.walk at row h some in
    let e = some_is w.0 c.in-Some.last _ w.1 c.in-Some.is in
    let is : IsLowered c.args.steps.now (length c.args.steps.now) (t.0 (row - 1)) (t.0 row) at c.in-Some.last =
    subst (λ z. IsLowered c.args.steps.now (length c.args.steps.now) (t.0 (row - 1)) (t.0 row) at z) e w.2 in
    (t, following-more c.args.steps.now n c.args.lasts.now t c.loop-marks.marks c.loop-marks.walk at row c.in-Some.last c.requires.steps h (omega arith) (omega arith) none some is)

pub returns-clause-order : goal.returns-clause-order
returns-clause-order c =
    (losing c.args.steps.now c.loop-marks.invariant.0.0 (length c.args.marks.now) c.loop-marks.marks c.loop-marks.walk c.loop-marks.at c.loop-marks.row c.unwrap.result
    c.loop-marks.invariant.1 (omega arith) c.unwrap.ensures).0

pub returns-clause-within : goal.returns-clause-within
returns-clause-within c =
    let w = losing c.args.steps.now c.loop-marks.invariant.0.0 (length c.args.marks.now) c.loop-marks.marks c.loop-marks.walk c.loop-marks.at c.loop-marks.row c.unwrap.result
    c.loop-marks.invariant.1 (omega arith) c.unwrap.ensures in
    omega (arith, w.1)

pub returns-clause-losing : goal.returns-clause-losing
returns-clause-losing c =
    (losing c.args.steps.now c.loop-marks.invariant.0.0 (length c.args.marks.now) c.loop-marks.marks c.loop-marks.walk c.loop-marks.at c.loop-marks.row c.unwrap.result
    c.loop-marks.invariant.1 (omega arith) c.unwrap.ensures).2
