-- What clauses see of a solver.
use Rattle.std.specs.Prelude.{ℕ}

-- how many nodes and arcs a net may have
pub record Size : Type 0 where
  pub nodes : ℕ
  pub arcs : ℕ
