use Rattle.std.proofs.Common.{length, slice_index}
use Rattle.tda_model.specs.Cells.{kind_of}
use Rattle.tda_fitnet.specs.Giving.{IsGiven}
use Rattle.tda_fitnet.proofs.giving.give_out.Given as goal

abbrev pub invariant-loop-r : goal.invariant-loop-r
invariant-loop-r l = IsGiven (λ r. kind_of l.schema (slice_index l.cells r)) (length l.cells) l.first l.fn.quotas l.fn.flow l.r l.quotas l.flow
