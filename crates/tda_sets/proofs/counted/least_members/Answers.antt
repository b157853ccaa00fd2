use Rattle.std.proofs.Common.{ℕ, Bool}
use Rattle.tda_sets.specs.Family.{is_in}
use Rattle.tda_sets.proofs.Ranges.{map_range_push}
use Rattle.tda_sets.proofs.counted.least_members.Goals as goal

pub loop-number-preserved : goal.loop-number-preserved
loop-number-preserved c =
    let f : ℕ → Bool = λ r. is_in c.args.names.now r r in
    map_range_push f c.loop-number.number c.loop-number.marks.items c.push.new.self.items c.is_least.result c.in_ok-push.ensures.items c.loop-number.invariant c.is_least.ensures
