use Rattle.std.proofs.Common.{◌∙◌, ap, sym, unwrap_or}
use Rattle.tda_spine.specs.Rows.{level_named}
use Rattle.tda_spine.proofs.UnitRows.{level_is}
use Rattle.tda_spine.proofs.whole.level.Goals as goal

pub returns-clause-level : goal.returns-clause-level
returns-clause-level c =
    c.unwrap_or.ensures ∙ ap (λ o. unwrap_or o 0) (c.find_level.ensures ∙ ap (level_named c.args.schema.now) c.level.ensures)
    ∙ sym (level_is c.args.schema.now c.args.rows.now c.args.unit c.requires)
