use Rattle.std.proofs.Common.{◌≡◌, map, take}
use Rattle.tda_schema.proofs.values.values_by_text.Given as goal

abbrev pub invariant-loop-attribute : goal.invariant-loop-attribute
invariant-loop-attribute l = l.values.items ≡ map (λ a. a.values) (take l.attribute-index l.attributes)
