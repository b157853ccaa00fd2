use Rattle.std.proofs.Common.{◌∙◌, sym}
use Rattle.tda_schema.specs.Stated.{level_at}
use Rattle.tda_groups.proofs.Callers.{cell_known}
use Rattle.tda_reader_tests.proofs.groups.smallest.Goals as goal

pub smallest-requires : goal.smallest-requires
smallest-requires c =
    let s = c.args.schema.now in
    cell_known s (level_at s c.args.level) c.args.tree.now c.requires.tree c.args.cell c.requires.cell (sym c.possible.ensures ∙ c.if-possible.true)
