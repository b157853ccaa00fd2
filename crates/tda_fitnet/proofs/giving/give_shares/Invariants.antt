use Rattle.std.proofs.Common.{◌+◌, ◌*◌, length, slice_index}
use Rattle.tda_model.specs.Cells.{kind_of}
use Rattle.tda_model.specs.Groups.{kind_count}
use Rattle.tda_fitnet.specs.Giving.{AreGiven}
use Rattle.tda_fitnet.proofs.giving.give_shares.Given as goal

abbrev pub invariant-loop-unit : goal.invariant-loop-unit
invariant-loop-unit l =
    AreGiven (λ r. kind_of l.schema (slice_index l.cells r)) (length l.cells) (kind_count l.schema) l.first (λ u k. slice_index l.shares (u * kind_count l.schema + k)) l.fn.flow l.unit l.flow
