use Rattle.std.proofs.Common.{◌∙◌, ◌++◌, ◌∷◌, [], ap, sym, arith}
use Rattle.std.specs.List.{range_with_len}
use Rattle.tda_sets.proofs.Ranges.{range_more}
use Rattle.tda_schema.proofs.DigitLemmas.{own_digits}
use Rattle.tda_schema.proofs.classes.value_digits.Goals as goal

pub loop-value-preserved : goal.loop-value-preserved
loop-value-preserved c = c.in_ok-push.ensures.items ∙ ap (λ ds. ds ++ c.loop-value.value ∷ []) c.loop-value.invariant ∙ sym (range_more c.loop-value.value)

pub returns : goal.returns
returns c = own_digits c.args.count c.loop-value.digits.items (c.loop-value.invariant ∙ ap (range_with_len 0) (omega arith))
