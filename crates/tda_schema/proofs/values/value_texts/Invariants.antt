use Rattle.std.proofs.Common.{◌≡◌, map, take, string_bytes}
use Rattle.tda_schema.proofs.values.value_texts.Given as goal

abbrev pub invariant-loop-value : goal.invariant-loop-value
invariant-loop-value l = l.texts ≡ map string_bytes (take l.value-index l.values)
