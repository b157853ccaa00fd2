use Rattle.std.proofs.Common.{◌≡◌, ◌∙◌, ap, sym, subst, map, take, length, get_or, Bor, Contains, refl}
use Rattle.std.proofs.lemmas.Bool.{false≢true}
use Rattle.std.proofs.lemmas.List.{take_all}
use Rattle.tda_sets.specs.Family.{Names, sets_of}
use Rattle.tda_sets.specs.Nested.{AreAllNested, all_sets}
use Rattle.tda_sets.proofs.AllNested.{lent, lent_more, nested_push, AreAllNested-fewer, family_within}
use Rattle.tda_sets.proofs.nested.is_nested_with.Goals as goal

pub returns-then-not-branch : goal.returns-then-not-branch
returns-then-not-branch c =
    let others = c.args.others.now in
    let xss = sets_of c.args.family.now in
    let i = c.loop-other.other-index in
    let item = c.other-item.result in (
      λ said. absurd (false≢true said),
      λ nested. absurd (false≢true (sym c.if-not-branch.true ∙ c.in_ok-are_nested.ensures.1
          (AreAllNested-fewer xss (all_sets (lent others)) xss (sets_of item.now) (λ xs here. here)
          (λ ys there. family_within others i item c.loop-other-test.true ys (subst (λ (f : Bor Names). Contains (sets_of f.now) ys) c.other-item.is there)) nested))),
    )

pub loop-other-preserved : goal.loop-other-preserved
loop-other-preserved c =
    let others = c.args.others.now in
    let xss = sets_of c.args.family.now in
    let i = c.loop-other.other-index in
    let item = c.other-item.result in
    let here : AreAllNested xss (sets_of item.now) = c.in_ok-are_nested.ensures.0 c.if-not-branch.false in
    rw (lent_more others i item c.loop-other-test.true, sym c.other-item.is) (nested_push (lent (take i others)) item.now xss c.loop-other.invariant here)

pub returns : goal.returns
returns c =
    let all : take c.loop-other.other-index c.args.others.now ≡ c.args.others.now = take_all c.loop-other.other-index c.args.others.now c.loop-other-test.false in
    (λ said. rw all at c.loop-other.invariant, λ nested. refl)
