use Rattle.std.proofs.Common.{◌≡◌, ◌+◌, drop}
use Rattle.tda_prices.specs.Ranks.{ranked}
use Rattle.tda_prices.proofs.ranks.rank_all.Given as goal

abbrev pub invariant-loop-index : goal.invariant-loop-index
invariant-loop-index l = ranked l.initial.ranks l.units l.first ≡ ranked l.ranks (drop l.index l.units) (l.first + l.index)
