use Rattle.std.proofs.Common.{◌≡◌, map, string_bytes}
use Rattle.std.specs.List.{range_with_len}
use Rattle.tda_schema.proofs.DigitLemmas.{first_of}
use Rattle.tda_schema.proofs.classes.label_digits.Given as goal

abbrev pub invariant-loop-label : goal.invariant-loop-label
invariant-loop-label l = l.digits.items ≡ map (first_of (map string_bytes l.labels)) (range_with_len 0 l.label-index)
