use Rattle.std.proofs.Common.{arith}
use Rattle.tda_descent.proofs.TablesMore.{kept_next}
use Rattle.tda_descent.proofs.tables.UnitTables.keep_all.Goals as goal

pub loop-n-preserved : goal.loop-n-preserved
loop-n-preserved c =
    kept_next c.args.spine.now c.args.cells c.args.fit.now.counts.items c.args.fit.now.units.items c.loop-n.n c.args.self.now c.loop-n.self c.keep.new.self
    c.deref-unit-items.result.now c.deref.result.now c.deref-unit-items.ensures.value c.deref.ensures.value
    c.loop-n.invariant (omega arith) c.in_ok-keep.ensures.count c.in_ok-keep.ensures.here c.in_ok-keep.ensures.others
