use Rattle.std.proofs.Common.{◌≡◌, map, take}
use Rattle.tda_spine.proofs.spine.codes_of.Given as goal

abbrev pub invariant-loop-unit : goal.invariant-loop-unit
invariant-loop-unit l = l.codes ≡ map (λ x. x.code) (take l.unit-index l.units)
