-- The classes so far.
use Rattle.tda_fitnet.specs.TermTable.{IsRowOf}
use Rattle.tda_fitnet.proofs.level_terms.query_places.Given as goal

abbrev pub invariant-loop-rank : goal.invariant-loop-rank
invariant-loop-rank l = IsRowOf l.fn.schema l.fn.level l.fn.tree.groups l.fn.query l.rank l.row.items
