use Rattle.tda_hist.proofs.TallyLemmas.{AreTallied}
use Rattle.tda_hist.proofs.counting.own_counts.Given as goal

abbrev pub invariant-loop-i : goal.invariant-loop-i
invariant-loop-i l = AreTallied l.schema l.spine (λ r. r.block) (λ r. r.cell) l.records l.i l.tables
