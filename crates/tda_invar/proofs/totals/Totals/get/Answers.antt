use Rattle.std.proofs.Common.{◌∙◌, arith}
use Rattle.tda_invar.proofs.StatePlaces.{found_never, found_total}
use Rattle.tda_invar.proofs.totals.Totals.get.Goals as goal

pub at_level-requires : goal.at_level-requires
at_level-requires c = omega (arith, c.units.ensures.sound.tree.deep)

pub unreachable-requires : goal.unreachable-requires
unreachable-requires c =
    let position = rw c.at_level.ensures at c.binary_search.ensures.position in
    found_never c.args.spine.now c.args.state (record { here = c.requires.state; at = c.requires.level }) c.binary_search.result position c.in-Err.field-0 c.in-Err.is

pub returns-clause-total : goal.returns-clause-total
returns-clause-total c =
    let position = rw c.at_level.ensures at c.binary_search.ensures.position in
    c.nth.ensures.number
    ∙ found_total c.args.spine.now c.args.state (record { here = c.requires.state; at = c.requires.level }) c.binary_search.result position c.args.self.now c.in-Ok.place c.in-Ok.is
