use Rattle.std.proofs.Common.{ap, length, ◌∙◌, arith}
use Rattle.tda_release.proofs.UnitsHere.{units_here}
use Rattle.tda_release.proofs.PriceCounts.{price_nodes}
use Rattle.tda_release.proofs.release.Texts.push.Goals as goal

pub write_tables-requires-clause-units : goal.write_tables-requires-clause-units
write_tables-requires-clause-units c =
    units_here c.args.spine.now c.units.ensures.sound.tree c.args.fit.now.parent c.deref.result.now (c.deref.ensures.value ∙ c.requires.formed.units)

pub write_prices-requires-clause-count : goal.write_prices-requires-clause-count
write_prices-requires-clause-count c =
    let nodes = price_nodes c.args.schema.now c.args.spine.now c.units.ensures.sound.tree c.args.fit.now.parent in
    let all = c.requires.formed.prices in
    let same = ap length c.deref-3.ensures.value in
    omega arith
