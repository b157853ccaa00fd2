use Rattle.std.proofs.Common.{◌≡◌, [], length, take}
use Rattle.std.specs.List.{flat_map, range_with_len}
use Rattle.tda_model.specs.Cells.{cell_count}
use Rattle.tda_noise.specs.Answers.{CountsTaken}
use Rattle.tda_out.specs.Counts.{count_at}
use Rattle.tda_measure.specs.Steps.{level_steps, Adds}
use Rattle.tda_measure.proofs.measuring.measure.Given as goal

abbrev pub invariant-loop-level : goal.invariant-loop-level
invariant-loop-level g l = record {
  adds : Adds (flat_map (level_steps l.schema l.spine (count_at l.tables)) (take l.level (range_with_len 0 (length l.schema.levels)))) (g.W.Words.words l.fn.w) [] l.numbers.items (g.W.Words.words l.w);
  counts : CountsTaken (g.W.Words.words l.fn.w) (g.W.Words.taken l.fn.w) (g.W.Words.words l.w) (g.W.Words.taken l.w);
  size : length l.sums.items ≡ cell_count l.schema;
}
