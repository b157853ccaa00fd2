use Rattle.std.proofs.Common.{◌≡◌, take, map, string_bytes}
use Rattle.tda_schema.proofs.stating.texts_of.Given as goal

abbrev pub invariant-loop-text : goal.invariant-loop-text
invariant-loop-text l = map (λ s. string_bytes s) l.owned.items ≡ map (λ t. t.now) (take l.text-index l.texts)
