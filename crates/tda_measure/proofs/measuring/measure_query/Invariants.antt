use Rattle.std.proofs.Common.{[], ◌∷◌, take}
use Rattle.std.specs.List.{flat_map}
use Rattle.tda_noise.specs.Answers.{CountsTaken}
use Rattle.tda_schema.specs.Stated.{query_at}
use Rattle.tda_measure.specs.Steps.{written_step, Adds}
use Rattle.tda_measure.proofs.measuring.measure_query.Given as goal

abbrev pub invariant-loop-class : goal.invariant-loop-class
invariant-loop-class g l = record {
  adds : Adds (flat_map (λ c. written_step (query_at l.schema l.level l.query) l.sums c ∷ []) (take l.class-index l.class-items)) (g.W.Words.words l.fn.w) l.fn.numbers.items l.numbers.items (g.W.Words.words l.w);
  counts : CountsTaken (g.W.Words.words l.fn.w) (g.W.Words.taken l.fn.w) (g.W.Words.words l.w) (g.W.Words.taken l.w);
}
