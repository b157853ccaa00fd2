use Rattle.std.proofs.Common.{◌+◌, length, get_or, arith, rules}
use Rattle.std.proofs.lemmas.List.Sorted.{answers_always}
use Rattle.tda_groups.specs.Order.{first_cell}
use Rattle.tda_groups.proofs.Ordering.{no_later}
use Rattle.tda_groups.proofs.order.sort_sets.Goals as goal

pub returns-clause-sorted : goal.returns-clause-sorted
returns-clause-sorted c =
    let sets = c.sort_unstable_by_key.new.self.items in
    let h = c.sort_unstable_by_key.ensures.sorted (λ xs. (first_cell xs, record { 0 = length xs })) (answers_always _ _ _ (λ f a r g h. search rules)) in
    λ k d below. no_later (get_or sets k d) (get_or sets (k + 1) d) (h k d (omega arith) below)
