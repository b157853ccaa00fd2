use Rattle.std.proofs.Common.{◌≡◌, take}
use Rattle.tda_schema.proofs.stating.attributes_of.Given as goal

abbrev pub invariant-loop-attribute : goal.invariant-loop-attribute
invariant-loop-attribute l = l.owned.items ≡ take l.attribute-index l.attributes
