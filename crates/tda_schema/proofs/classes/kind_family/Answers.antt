use Rattle.std.proofs.Common.{◌≡◌, true, subst, IfOk}
use Rattle.tda_schema.proofs.ClassFamilies.{kind_is, length-cells}
use Rattle.tda_schema.proofs.classes.kind_family.Goals as goal

pub split_by_values-requires-clause-cells : goal.split_by_values-requires-clause-cells
split_by_values-requires-clause-cells c = length-cells c.args.stated.now (λ i j. true) c.args.whole.now c.requires.whole

pub returns : goal.returns
returns c = subst (λ x. IfOk c.split_by_values.result (λ f. f ≡ x)) (kind_is c.args.stated.now c.args.whole.now c.requires.whole) c.split_by_values.ensures
