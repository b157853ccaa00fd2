use Rattle.std.proofs.Common.{◌≡◌, ◌∙◌, ◌∷◌, ◌≤◌, true, List, Bor, ap, sym, subst, length, map, All}
use Rattle.std.specs.List.{sum_by}
use Rattle.tda_model.specs.Schema.{Level}
use Rattle.tda_model.specs.Groups.{each_once}
use Rattle.tda_sets.specs.Family.{Names}
use Rattle.tda_sets.specs.Nested.{all_sets}
use Rattle.tda_schema.specs.Classes.{query_family, level_families, family_parts, whole_family, AreFamiliesOf}
use Rattle.tda_schema.specs.Parts.{query_parts, level_is_nested}
use Rattle.tda_schema.proofs.GroupSizes.{families_one_length, families_cells, families_few}
use Rattle.tda_schema.proofs.LevelLemmas.{queries_are, few_classes, level_made}
use Rattle.tda_schema.proofs.finish.level_parts.Goals as goal
use Rattle.tda_schema.proofs.finish.level_parts.Goals.{In_ok-families, In_ok-lent, After-deref-3, After-deref-4, After-deref-5}

families : (c : In_ok-families) → c.in_ok-families.families.items ≡ map (query_family c.args.stated.now) c.args.level.now.queries
families c = c.in_ok-families.ensures ∙ ap (map (query_family c.args.stated.now)) (c.deref.ensures.value ∙ ap (λ (l : Level). l.queries) c.level.view_is)

lent : (c : In_ok-lent) → map (λ f. f.now) c.in_ok-lent.lent.items ≡ level_families c.args.stated.now c.args.level.now
lent c =
    let s = c.args.stated.now in
    c.in_ok-lent.ensures ∙ ap (λ fs. c.args.whole.now ∷ c.args.kinds.now ∷ fs) (c.deref-2.ensures.value ∙ families ((goal.at.In_ok-lent c).In_ok-families))
    ∙ ap (λ f. f ∷ c.args.kinds.now ∷ map (query_family s) c.args.level.now.queries) c.requires.whole ∙ ap (λ f. whole_family s ∷ f ∷ map (query_family s) c.args.level.now.queries) c.requires.kinds

are : (c : In_ok-lent) (fs : List (Bor Names)) → fs ≡ c.in_ok-lent.lent.items → AreFamiliesOf c.args.stated.now c.args.level.now (map (λ f. f.now) fs)
are c fs same = record { looked_up = c.requires.looked_up; level = c.requires.level; value = ap (map (λ f. f.now)) same ∙ lent c }

are-3 : (c : After-deref-3) → AreFamiliesOf c.args.stated.now c.args.level.now (map (λ f. f.now) c.deref-3.result.now)
are-3 c = are ((goal.at.After-deref-3 c).In_ok-lent) c.deref-3.result.now c.deref-3.ensures.value

are-4 : (c : After-deref-4) → AreFamiliesOf c.args.stated.now c.args.level.now (map (λ f. f.now) c.deref-4.result.now)
are-4 c = are ((goal.at.After-deref-4 c).In_ok-lent) c.deref-4.result.now c.deref-4.ensures.value

pub is_nested-requires : goal.is_nested-requires
is_nested-requires c = families_one_length c.args.stated.now c.args.level.now c.deref-3.result.now (are-3 c)

pub count_groups-requires-clause-one_length : goal.count_groups-requires-clause-one_length
count_groups-requires-clause-one_length c = families_one_length c.args.stated.now c.args.level.now c.deref-4.result.now (are-4 c)

pub count_groups-requires-clause-cells : goal.count_groups-requires-clause-cells
count_groups-requires-clause-cells c = families_cells c.args.stated.now c.args.level.now c.deref-4.result.now (are-4 c)

pub count_groups-requires-clause-few : goal.count_groups-requires-clause-few
count_groups-requires-clause-few c = families_few c.args.stated.now c.args.level.now c.deref-4.result.now (are-4 c)

queries : (c : After-deref-5) → c.in_ok-queries.queries.items ≡ map (query_parts c.args.stated.now) c.args.level.now.queries
queries c =
    c.in_ok-queries.ensures ∙ ap (map family_parts) (families ((goal.at.After-deref-5 c).In_ok-families)) ∙ queries_are c.args.stated.now c.args.level.now.queries c.requires.level.queries

pub count_places-places-requires-clause-classes : goal.count_places-places-requires-clause-classes
count_places-places-requires-clause-classes c =
    let s = c.args.stated.now in
    subst (λ qs. All (λ p. length p.classes ≤ 4096) qs) (sym (c.deref-5.ensures.value ∙ queries c)) (few_classes s c.requires.looked_up.limits c.args.level.now.queries)

pub returns : goal.returns
returns c =
    let s = c.args.stated.now in
    let l = c.args.level.now in
    let d = (goal.at.returns c).After-deref-5 in
    let e = (goal.at.After-deref-5 d).After-deref-4 in
    let f = (goal.at.After-deref-4 e).After-deref-3 in
    let nested : level_is_nested s l ≡ true = sym (c.in_ok-is_nested.ensures s l (are-3 f)) ∙ c.if-not-branch.false in
    level_made s l c.in_ok-queries.queries.items c.in_ok-groups.groups c.count_places-places.result nested (queries d)
    (c.in_ok-groups.ensures.sets ∙ ap (λ fs. length (each_once (all_sets fs))) (are-4 e).value)
    (c.count_places-places.ensures ∙ ap (sum_by (λ p. length p.classes)) c.deref-5.ensures.value)
