use Rattle.std.proofs.Common.{◌≡◌, length, take}
use Rattle.std.specs.List.{flat_map}
use Rattle.tda_model.specs.Cells.{cell_count}
use Rattle.tda_noise.specs.Answers.{CountsTaken}
use Rattle.tda_out.specs.Counts.{count_at}
use Rattle.tda_measure.specs.Steps.{unit_steps, Adds}
use Rattle.tda_measure.proofs.measuring.measure_level.Given as goal

abbrev pub invariant-loop-unit : goal.invariant-loop-unit
invariant-loop-unit g l = record {
  adds : Adds (flat_map (λ u. unit_steps l.schema l.level (count_at l.tables u)) (take l.unit-index l.unit-items)) (g.W.Words.words l.fn.w) l.fn.numbers.items l.numbers.items (g.W.Words.words l.w);
  counts : CountsTaken (g.W.Words.words l.fn.w) (g.W.Words.taken l.fn.w) (g.W.Words.words l.w) (g.W.Words.taken l.w);
  size : length l.sums ≡ cell_count l.schema;
}
