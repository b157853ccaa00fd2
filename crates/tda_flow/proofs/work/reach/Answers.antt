use Rattle.std.proofs.Common.{arith}
use Rattle.std.proofs.lemmas.List.{with_items_is}
use Rattle.tda_flow.proofs.Traces.{ends_least}
use Rattle.tda_flow.proofs.Views.{searched-work}
use Rattle.tda_flow.proofs.work.reach.Goals as goal

pub returns-clause-searched : goal.returns-clause-searched
returns-clause-searched c =
    searched-work c.args.net.now c.args.flow.now c.args.delta c.args.start c.work.inside.low.items c.deref.result.now c.work.inside.high.items c.deref-2.result.now c.search.new.marks _
    c.deref.ensures.value c.deref-2.ensures.value (with_items_is c.work.inside.marks c.search.new.marks (omega arith)) c.search.ensures

pub returns-clause-lasts : goal.returns-clause-lasts
returns-clause-lasts c = ends_least _ _ _ _ (returns-clause-searched c)
