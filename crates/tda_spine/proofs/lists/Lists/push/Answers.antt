use Rattle.tda_spine.proofs.Grouped.{lists_push}
use Rattle.tda_spine.proofs.lists.Lists.push.Goals as goal

pub returns : goal.returns
returns c =
    rw (← c.self.view_is)
    (lists_push c.self.inside.lists.items c.args.at c.args.unit c.index_mut.result.now c.push.new.self c.index_mut.ensures.value
    (rw c.self.view_is c.requires) c.in_ok-push.ensures.items)
