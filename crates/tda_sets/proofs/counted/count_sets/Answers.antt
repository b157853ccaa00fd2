use Rattle.std.proofs.Common.{◌≡◌, ◌∙◌, ◌+◌, ◌++◌, ◌∷◌, [], ◌≤◌, ◌^◌, ap, sym, subst, length, take, Bor, All, arith}
use Rattle.std.proofs.lemmas.List.Elements.{All-take}
use Rattle.tda_model.specs.Groups.{each_once}
use Rattle.tda_sets.specs.Family.{Names, IsFamily}
use Rattle.tda_sets.specs.Nested.{all_sets}
use Rattle.tda_sets.specs.Counted.{fresh_count}
use Rattle.tda_sets.proofs.AllNested.{lent, lent_more}
use Rattle.tda_sets.proofs.Fresh.{one_family_more, fresh_count_few, lent_families}
use Rattle.tda_sets.proofs.counted.count_sets.Goals as goal
use Rattle.tda_sets.proofs.counted.count_sets.Goals.{In_ok-count}

few : (c : In_ok-count) → c.in_ok-count.field-0 ≤ 2 ^ 32
few c =
    let names = c.index-families-place.result.now in
    omega (arith, c.in_ok-count.ensures.count, c.in_ok-count.ensures.family.few, fresh_count_few names (lent (take c.loop-place.place c.args.families.now)))

pub overflow_add-count : goal.overflow_add-count
overflow_add-count c = omega (arith, few c, c.loop-place.invariant.few, c.requires.few)

pub loop-place-preserved : goal.loop-place-preserved
loop-place-preserved c =
    let families = c.args.families.now in
    let i = c.loop-place.place in
    let item = c.index-families-place.result in
    let names = item.now in
    let same : All (λ f. length names ≡ length f.now) families =
    subst (λ (g : Bor Names). All (λ f. length g.now ≡ length f.now) families) (sym c.index-families-place.is) (c.requires.one_length i item c.loop-place-test.true) in
    let each = lent_families (take i families) (length names) c.in_ok-count.ensures.earlier (All-take (λ f. length names ≡ length f.now) i families same) in
    let more = one_family_more names c.in_ok-count.ensures.family (lent (take i families)) each in
    let all : length (each_once (all_sets (lent (take (i + 1) families)))) ≡ length (each_once (all_sets (lent (take i families)))) + fresh_count (lent (take i families)) names =
    ap (λ fs. length (each_once (all_sets fs))) (lent_more families i item c.loop-place-test.true ∙ ap (λ (g : Bor Names). lent (take i families) ++ g.now ∷ []) (sym c.index-families-place.is)) ∙ more in
    record {
      count = omega (arith, c.in_ok-count.ensures.count, c.loop-place.invariant.count, all);
      few = omega (arith, few c, c.loop-place.invariant.few);
    }
