use Rattle.std.proofs.Common.{rules}
use Rattle.std.proofs.lemmas.List.Elements.{filter_from_retain}
use Rattle.tda_groups.specs.Order.{has_cells}
use Rattle.tda_groups.proofs.order.drop_empty.Goals as goal

pub returns : goal.returns
returns c = filter_from_retain _ has_cells (λ p x b q h. search rules) _ _ _ c.retain.ensures.filtered
