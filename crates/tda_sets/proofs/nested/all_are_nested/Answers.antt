use Rattle.std.proofs.Common.{◌≡◌, ◌∙◌, ap, sym, subst, map, take, length, get_or, Bor, Contains, refl}
use Rattle.std.proofs.lemmas.Bool.{false≢true}
use Rattle.std.proofs.lemmas.List.{take_all}
use Rattle.tda_sets.specs.Family.{Names, sets_of}
use Rattle.tda_sets.specs.Nested.{AreAllNested, all_sets}
use Rattle.tda_sets.proofs.AllNested.{lent, lent_more, all_nested_push, AreAllNested-fewer, family_within, earlier_within}
use Rattle.tda_sets.proofs.nested.all_are_nested.Goals as goal

pub returns-then-not-branch : goal.returns-then-not-branch
returns-then-not-branch c =
    let families = c.args.families.now in
    let all = all_sets (lent families) in
    let i = c.loop-place.place in
    let item = c.index-families-place.result in (
      λ said. absurd (false≢true said),
      λ nested. absurd (false≢true (sym c.if-not-branch.true ∙ c.in_ok-is_nested_with.ensures.1
          (AreAllNested-fewer all all (sets_of item.now) (all_sets (lent (take i families)))
          (λ xs here. family_within families i item c.loop-place-test.true xs (subst (λ (f : Bor Names). Contains (sets_of f.now) xs) c.index-families-place.is here))
          (λ ys there. earlier_within families i ys there) nested))),
    )

pub loop-place-preserved : goal.loop-place-preserved
loop-place-preserved c =
    let families = c.args.families.now in
    let i = c.loop-place.place in
    let item = c.index-families-place.result in
    let here : AreAllNested (sets_of item.now) (all_sets (lent (take i families))) = c.in_ok-is_nested_with.ensures.0 c.if-not-branch.false in
    rw (lent_more families i item c.loop-place-test.true, sym c.index-families-place.is) (all_nested_push (lent (take i families)) item.now c.loop-place.invariant here)

pub returns : goal.returns
returns c =
    let all : take c.loop-place.place c.args.families.now ≡ c.args.families.now = take_all c.loop-place.place c.args.families.now c.loop-place-test.false in
    (λ said. rw all at c.loop-place.invariant, λ nested. refl)
