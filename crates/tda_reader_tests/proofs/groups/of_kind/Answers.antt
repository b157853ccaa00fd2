use Rattle.tda_schema.specs.Stated.{level_at}
use Rattle.tda_groups.proofs.Callers.{kind_known}
use Rattle.tda_reader_tests.proofs.groups.of_kind.Goals as goal

pub kind_group-requires : goal.kind_group-requires
kind_group-requires c =
    let s = c.args.schema.now in
    kind_known s (level_at s c.args.level) c.args.tree.now c.requires.tree c.args.kind c.requires.kind
