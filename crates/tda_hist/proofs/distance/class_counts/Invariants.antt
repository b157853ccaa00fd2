use Rattle.std.proofs.Common.{◌-◌}
use Rattle.tda_model.proofs.Tree.{up}
use Rattle.tda_schema.specs.Stated.{query_at, class_of}
use Rattle.tda_hist.proofs.TallyLemmas.{AreTallied}
use Rattle.tda_hist.proofs.distance.class_counts.Given as goal

abbrev pub invariant-loop-i : goal.invariant-loop-i
invariant-loop-i l = AreTallied l.schema l.spine (λ r. up l.spine r.block (l.spine.depth - 1 - l.level)) (λ r. class_of l.schema (query_at l.schema l.level l.query) r.cell) l.records l.i l.tables
