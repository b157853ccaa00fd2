use Rattle.std.proofs.Common.{◌∙◌, ap, arith, length}
use Rattle.tda_model.specs.Groups.{each_once}
use Rattle.tda_sets.specs.Nested.{all_sets}
use Rattle.tda_schema.proofs.GroupSizes.{group_count_few}
use Rattle.tda_schema.proofs.LevelGroups.{group_count_is}
use Rattle.tda_schema.proofs.groups.count_groups.Goals as goal

pub overflow_cast-result : goal.overflow_cast-result
overflow_cast-result c =
    let few = group_count_few c.args.families.now c.requires.few c.requires.cells in
    omega (arith, c.in_ok-count.ensures, few)

pub returns-clause-groups : goal.returns-clause-groups
returns-clause-groups c s l are kinds =
    c.in_ok-count.ensures ∙ ap (λ fs. length (each_once (all_sets fs))) are.value ∙ group_count_is s are.looked_up.limits l are.level kinds
