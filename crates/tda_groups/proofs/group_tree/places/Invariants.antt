use Rattle.std.proofs.Common.{◌≡◌, map, take}
use Rattle.tda_groups.specs.Tree.{place_in}
use Rattle.tda_groups.proofs.group_tree.places.Given as goal

abbrev pub invariant-loop-set : goal.invariant-loop-set
invariant-loop-set l = l.places.items ≡ map (place_in l.chains) (take l.set-index l.sets)
