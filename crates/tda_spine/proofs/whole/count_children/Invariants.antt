use Rattle.tda_model.specs.Schema.{Schema}
use Rattle.tda_spine.specs.Rows.{spine_in}
use Rattle.tda_spine.proofs.Children.{AreCounted}
use Rattle.tda_spine.proofs.whole.count_children.Given as goal

abbrev pub invariant-loop-unit : goal.invariant-loop-unit
invariant-loop-unit l = (s : Schema) → AreCounted (spine_in s l.rows) l.unit l.counts.items
