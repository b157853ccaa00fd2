use Rattle.std.proofs.Common.{◌≡◌, length}
use Rattle.tda_descent.proofs.tables.UnitTables.new.Given as goal

abbrev pub invariant-loop : goal.invariant-loop
invariant-loop l = length l.tables.items ≡ l.counter
