use Rattle.std.proofs.Common.{ℕ, List, []}
use Rattle.tda_sets.proofs.Ranges.{map_range_push}
use Rattle.tda_groups.proofs.sources.empty_sets.Goals as goal

pub loop-preserved : goal.loop-preserved
loop-preserved c =
    let none : ℕ → List ℕ = λ _. [] in
    map_range_push none c.loop.counter c.loop.sets.items c.push.new.self.items c.new.result c.in_ok-push.ensures.items c.loop.invariant c.new.ensures
