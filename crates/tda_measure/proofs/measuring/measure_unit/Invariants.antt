use Rattle.std.proofs.Common.{◌≡◌, length, take}
use Rattle.std.specs.List.{flat_map, range_with_len}
use Rattle.tda_model.specs.Cells.{cell_count}
use Rattle.tda_noise.specs.Answers.{CountsTaken}
use Rattle.tda_out.specs.Counts.{count_at}
use Rattle.tda_schema.specs.Stated.{queries_at, query_at}
use Rattle.tda_measure.specs.Steps.{query_steps, Adds}
use Rattle.tda_measure.proofs.measuring.measure_unit.Given as goal

abbrev pub invariant-loop-query : goal.invariant-loop-query
invariant-loop-query g l = record {
  adds : Adds (flat_map (λ query. query_steps l.schema (query_at l.schema l.level query) (count_at l.tables l.unit)) (take l.query (range_with_len 0 (length (queries_at l.schema l.level))))) (g.W.Words.words l.fn.w) l.fn.numbers.items l.numbers.items (g.W.Words.words l.w);
  counts : CountsTaken (g.W.Words.words l.fn.w) (g.W.Words.taken l.fn.w) (g.W.Words.words l.w) (g.W.Words.taken l.w);
  size : length l.sums ≡ cell_count l.schema;
}
