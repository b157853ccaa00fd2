use Rattle.std.proofs.Common.{◌∙◌, ap, map}
use Rattle.tda_spine.proofs.Grouped.{lists_more}
use Rattle.tda_spine.proofs.lists.Lists.new.Goals as goal

pub loop-preserved : goal.loop-preserved
loop-preserved c =
    ap (map (λ v. v.items)) c.in_ok-push.ensures.items ∙ lists_more c.loop.counter c.loop.lists.items c.new.result c.loop.invariant c.new.ensures.items
