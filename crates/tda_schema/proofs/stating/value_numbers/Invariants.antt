use Rattle.std.proofs.Common.{◌≡◌, take, map}
use Rattle.tda_schema.specs.Stating as spec
use Rattle.tda_schema.proofs.stating.value_numbers.Given as goal

abbrev pub invariant-loop-text : goal.invariant-loop-text
invariant-loop-text l = l.numbers.items ≡ map (spec.value_number l.attribute) (map (λ t. t.now) (take l.text-index l.texts))
