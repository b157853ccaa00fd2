use Rattle.std.proofs.Common.{◌≡◌, ◌∙◌}
use Rattle.tda_model.specs.Groups.{kind_count}
use Rattle.tda_schema.proofs.WholeLemmas.{kind_is}
use Rattle.tda_schema.proofs.readers.Schema.kind_of.Goals as goal

pub returns-clause-kind : goal.returns-clause-kind
returns-clause-kind c =
    let s = c.args.self.now in
    let kinds : c.from.result ≡ kind_count s = c.from.ensures ∙ c.kinds.ensures.count in
    rw (c.cells.ensures.count, kinds) (kind_is s c.args.cell c.cells.ensures.limits.some_attribute c.cells.ensures.limits.some_value c.requires).is

pub returns-clause-in_range : goal.returns-clause-in_range
returns-clause-in_range c =
    let s = c.args.self.now in
    let kinds : c.from.result ≡ kind_count s = c.from.ensures ∙ c.kinds.ensures.count in
    rw (c.cells.ensures.count, kinds) (kind_is s c.args.cell c.cells.ensures.limits.some_attribute c.cells.ensures.limits.some_value c.requires).below
