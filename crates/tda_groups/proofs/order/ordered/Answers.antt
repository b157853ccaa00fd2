use Rattle.std.proofs.Common.{◌↔◌, ◌≤◌, ℕ, List, length, All, Contains}
use Rattle.tda_sets.proofs.Members.{All-from_Contains}
use Rattle.std.proofs.lemmas.List.Elements.{All-contains}
use Rattle.std.proofs.lemmas.Result.{IfOk-weaker}
use Rattle.tda_groups.specs.Order.{IsCellSet}
use Rattle.tda_groups.proofs.Filled.{nested, cell_sets, exact}
use Rattle.tda_groups.proofs.order.ordered.Goals as goal

pub distinct-requires-clause-sets : goal.distinct-requires-clause-sets
distinct-requires-clause-sets c = cell_sets c.args.sets.items c.drop_empty.new.sets.items c.sort_sets.new.sets.items c.drop_empty.ensures c.sort_sets.ensures.permutation c.requires.ascending

pub distinct-requires-clause-nested : goal.distinct-requires-clause-nested
distinct-requires-clause-nested c = nested c.args.sets.items c.drop_empty.new.sets.items c.sort_sets.new.sets.items c.drop_empty.ensures c.sort_sets.ensures.permutation c.requires.nested

pub returns-clause-sets : goal.returns-clause-sets
returns-clause-sets c =
    let sorted = c.sort_sets.new.sets.items in
    let all = cell_sets c.args.sets.items c.drop_empty.new.sets.items sorted c.drop_empty.ensures c.sort_sets.ensures.permutation c.requires.ascending in
    IfOk-weaker c.distinct.result (λ groups. (xs : List ℕ) → Contains groups.items xs ↔ Contains sorted xs) (λ groups. All IsCellSet groups.items)
    (λ groups same. All-from_Contains IsCellSet groups.items (λ xs found. All-contains IsCellSet sorted xs all ((same xs).0 found))) c.distinct.ensures.exact

pub returns-clause-exact : goal.returns-clause-exact
returns-clause-exact c =
    let sorted = c.sort_sets.new.sets.items in
    IfOk-weaker c.distinct.result (λ groups. (xs : List ℕ) → Contains groups.items xs ↔ Contains sorted xs) (λ groups. (xs : List ℕ) → Contains groups.items xs ↔ (Contains c.args.sets.items xs × (1 ≤ length xs)))
    (λ groups same. exact c.args.sets.items c.drop_empty.new.sets.items sorted c.drop_empty.ensures c.sort_sets.ensures.permutation groups.items same) c.distinct.ensures.exact
