use Rattle.std.proofs.Common.{◌≡◌, ◌↔◌, ◌∙◌, ◌≤◌, ℕ, List, length, map, Contains, ap, subst, arith}
use Rattle.tda_model.specs.Schema.{Level, Schema}
use Rattle.tda_model.specs.Groups.{group_count, IsGroup}
use Rattle.tda_schema.specs.Stated.{level_at}
use Rattle.tda_groups.specs.Sources.{source_sets, kind_sets}
use Rattle.tda_groups.specs.Order.{AreGroups}
use Rattle.tda_groups.specs.Tree.{Tree, place_in}
use Rattle.tda_groups.proofs.LevelSets.{sources_rise, sources_nested, exact, count, whole_is, are_groups, cells_below, kinds_found, classes_found, groups_is}
use Rattle.tda_groups.proofs.TreeFacts.{each_kind, each_class}
use Rattle.tda_groups.proofs.OneTree.{groups_listed}
use Rattle.tda_groups.proofs.group_tree.tree.Goals as goal
use Rattle.tda_groups.proofs.group_tree.tree.Goals.{In_ok-source_sets, In_ok-groups}

abbrev schema : In_ok-source_sets → Schema
schema c = c.args.schema.now

abbrev level : In_ok-source_sets → Level
level c = level_at c.args.schema.now c.args.level

pub ordered-requires-clause-ascending : goal.ordered-requires-clause-ascending
ordered-requires-clause-ascending c =
    rw c.in_ok-source_sets.ensures.value (sources_rise (schema c) (level c) c.in_ok-source_sets.ensures.kinds c.in_ok-source_sets.ensures.over_all)

pub ordered-requires-clause-nested : goal.ordered-requires-clause-nested
ordered-requires-clause-nested c =
    rw c.in_ok-source_sets.ensures.value
    (sources_nested (schema c) (level c) c.in_ok-source_sets.ensures.kinds c.in_ok-source_sets.ensures.over_all c.groups-count.ensures.nested)

-- the groups, as they were ordered
abbrev Gathered : In_ok-groups → Type 0
Gathered c = (xs : List ℕ) → Contains c.in_ok-groups.groups.items xs ↔ (Contains (source_sets c.args.schema.now (level_at c.args.schema.now c.args.level)) xs × (1 ≤ length xs))

gathered : (c : In_ok-groups) → Gathered c
gathered c xs =
    subst (λ sets. Contains c.in_ok-groups.groups.items xs ↔ (Contains sets xs × (1 ≤ length xs))) c.in_ok-source_sets.ensures.value (c.in_ok-groups.ensures.exact xs)

in_order : (c : In_ok-groups) → AreGroups c.in_ok-groups.groups.items
in_order c =
    are_groups c.args.schema.now (level_at c.args.schema.now c.args.level) c.in_ok-source_sets.ensures.kinds c.in_ok-source_sets.ensures.over_all
    c.groups-count.ensures.nested c.in_ok-groups.groups.items c.in_ok-groups.ensures.sets c.in_ok-groups.ensures.ordered (gathered c)

counted : (c : In_ok-groups) → length c.in_ok-groups.groups.items ≡ group_count c.args.schema.now (level_at c.args.schema.now c.args.level)
counted c =
    count c.args.schema.now (level_at c.args.schema.now c.args.level) c.in_ok-source_sets.ensures.kinds c.in_ok-source_sets.ensures.over_all
    c.groups-count.ensures.nested c.in_ok-groups.groups.items c.in_ok-groups.ensures.sets c.in_ok-groups.ensures.ordered (gathered c)

pub new-requires-clause-groups : goal.new-requires-clause-groups
new-requires-clause-groups c = in_order ((goal.at.new-requires-clause-groups c).In_ok-groups)

pub new-requires-clause-few : goal.new-requires-clause-few
new-requires-clause-few c =
    let size = counted ((goal.at.new-requires-clause-few c).In_ok-groups) in
    omega (arith, size, groups_is c.args.schema.now c.args.level c.requires, c.groups-count.ensures.count)

pub new-requires-clause-cells : goal.new-requires-clause-cells
new-requires-clause-cells c =
    let d = (goal.at.new-requires-clause-cells c).In_ok-groups in
    let s = c.args.schema.now in
    rw c.cells.ensures.count
    (cells_below s (level_at s c.args.level) c.in_ok-source_sets.ensures.kinds c.in_ok-source_sets.ensures.over_all
    c.groups-count.ensures.nested c.in_ok-groups.groups.items c.in_ok-groups.ensures.sets c.in_ok-groups.ensures.ordered (gathered d))

pub places-requires-clause-groups : goal.places-requires-clause-groups
places-requires-clause-groups c = rw c.in_ok-chains.ensures (in_order ((goal.at.places-requires-clause-groups c).In_ok-groups))

pub places-requires-clause-known : goal.places-requires-clause-known
places-requires-clause-known c =
    let d = (goal.at.places-requires-clause-known c).In_ok-groups in
    let s = c.args.schema.now in
    let sets : c.deref.result.now ≡ kind_sets s = c.deref.ensures.value ∙ c.in_ok-kind_sets.ensures.value in
    rw (sets, c.in_ok-chains.ensures)
    (kinds_found s (level_at s c.args.level) c.in_ok-source_sets.ensures.kinds c.in_ok-source_sets.ensures.over_all
    c.groups-count.ensures.nested c.in_ok-groups.groups.items c.in_ok-groups.ensures.sets c.in_ok-groups.ensures.ordered (gathered d))

pub class_places-requires-clause-groups : goal.class_places-requires-clause-groups
class_places-requires-clause-groups c = rw c.in_ok-chains.ensures (in_order ((goal.at.class_places-requires-clause-groups c).In_ok-groups))

pub class_places-requires-clause-known : goal.class_places-requires-clause-known
class_places-requires-clause-known c =
    let d = (goal.at.class_places-requires-clause-known c).In_ok-groups in
    let s = c.args.schema.now in
    rw c.in_ok-chains.ensures
    (classes_found s (level_at s c.args.level) c.in_ok-source_sets.ensures.kinds c.in_ok-source_sets.ensures.over_all
    c.groups-count.ensures.nested c.in_ok-groups.groups.items c.in_ok-groups.ensures.sets c.in_ok-groups.ensures.ordered (gathered d))

pub returns : goal.returns
returns c =
    let d = (goal.at.returns c).In_ok-groups in
    let s = c.args.schema.now in
    let l = level_at s c.args.level in
    let kinds = c.in_ok-source_sets.ensures.kinds in
    let over_all = c.in_ok-source_sets.ensures.over_all in
    let nested = c.groups-count.ensures.nested in
    let groups = c.in_ok-groups.groups.items in
    let same : c.in_ok-chains.chains ≡ groups = c.in_ok-chains.ensures in
    let sets : c.deref.result.now ≡ kind_sets s = c.deref.ensures.value ∙ c.in_ok-kind_sets.ensures.value in
    let in_order : AreGroups c.in_ok-chains.chains = rw same (in_order d) in
    let exact : (xs : List ℕ) → Contains c.in_ok-chains.chains xs ↔ IsGroup s l xs = rw same (exact s l kinds over_all nested groups c.in_ok-groups.ensures.sets c.in_ok-groups.ensures.ordered (gathered d)) in
    let kind_places : c.in_ok-kinds.kinds.items ≡ map (place_in c.in_ok-chains.chains) (kind_sets s) = c.in_ok-kinds.ensures ∙ ap (map (place_in c.in_ok-chains.chains)) sets in
    let t : Tree = record { groups = c.in_ok-chains.chains; kinds = c.in_ok-kinds.kinds.items; classes = map (λ row. row.items) c.in_ok-classes.classes.items } in
    record {
      groups = in_order;
      exact = exact;
      count = ap length same ∙ counted d;
      whole = rw same (whole_is s l kinds over_all nested groups c.in_ok-groups.ensures.sets c.in_ok-groups.ensures.ordered (gathered d));
      each_kind = each_kind s l t in_order exact kind_places;
      each_class = each_class s l t in_order exact over_all c.in_ok-classes.ensures;
      listed = groups_listed c.in_ok-chains.chains in_order s l exact;
    }
