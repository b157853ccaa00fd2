use Rattle.std.proofs.Common.{◌≡◌, ◌∙◌, ap, sym, subst, length, take, Bor, arith}
use Rattle.std.proofs.lemmas.List.{take_all}
use Rattle.std.proofs.lemmas.List.Elements.{All-more}
use Rattle.tda_sets.specs.Family.{Names, IsFamily}
use Rattle.tda_sets.specs.Counted.{fresh_count}
use Rattle.tda_sets.proofs.AllNested.{lent, lent_more}
use Rattle.tda_sets.proofs.Fresh.{length-fresh_marks, fresh_marks_more, count_is}
use Rattle.tda_sets.proofs.counted.count_fresh.Goals as goal

pub not_shared-requires-clause-one_each : goal.not_shared-requires-clause-one_each
not_shared-requires-clause-one_each c =
    ap length (c.deref.ensures.value ∙ c.loop-other.invariant.marks) ∙ length-fresh_marks c.args.family.now (lent (take c.loop-other.other-index c.args.earlier.now))

pub loop-other-preserved : goal.loop-other-preserved
loop-other-preserved c =
    let names = c.args.family.now in
    let earlier = c.args.earlier.now in
    let i = c.loop-other.other-index in
    let item = c.other-item.result in
    let marks = fresh_marks_more names (lent (take i earlier)) item.now c.deref.result.now c.in_ok-marks-2.marks.items (c.deref.ensures.value ∙ c.loop-other.invariant.marks) c.in_ok-marks-2.ensures.left in
    record {
      marks = rw (lent_more earlier i item c.loop-other-test.true, sym c.other-item.is) marks;
      families = All-more (λ f. IsFamily f.now) earlier i item c.loop-other-test.true c.loop-other.invariant.families (subst (λ (f : Bor Names). IsFamily f.now) c.other-item.is c.in_ok-marks-2.ensures.family);
    }

pub returns-clause-count : goal.returns-clause-count
returns-clause-count c =
    let all : take c.loop-other.other-index c.args.earlier.now ≡ c.args.earlier.now = take_all c.loop-other.other-index c.args.earlier.now c.loop-other-test.false in
    c.count_marks.ensures
    ∙ count_is c.args.family.now (lent (take c.loop-other.other-index c.args.earlier.now)) c.deref-2.result.now (c.deref-2.ensures.value ∙ c.loop-other.invariant.marks)
    ∙ ap (λ fs. fresh_count (lent fs) c.args.family.now) all
