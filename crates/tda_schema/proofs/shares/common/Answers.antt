use Rattle.std.proofs.Common.{◌≡◌, ap, ◌∙◌}
use Rattle.tda_model.specs.Schema.{Schema}
use Rattle.tda_schema.proofs.Commons.{least_where_found}
use Rattle.tda_schema.proofs.shares.common.Goals as goal

pub returns-clause-least : goal.returns-clause-least
returns-clause-least c =
    let levels : c.deref.result.now ≡ c.args.schema.now.levels = c.deref.ensures.value ∙ ap (λ (s : Schema). s.levels) c.schema.view_is in
    least_where_found c.args.schema.now.levels c.common_of_levels.result c.requires.levels (rw levels at c.common_of_levels.ensures)
