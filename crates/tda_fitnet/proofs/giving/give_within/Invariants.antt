use Rattle.std.proofs.Common.{◌≡◌, ℕ, ◌<◌, length, slice_index}
use Rattle.tda_model.specs.Cells.{kind_of}
use Rattle.tda_model.specs.Groups.{kind_count}
use Rattle.tda_invar.specs.Known.{known_of}
use Rattle.tda_fitnet.specs.Giving.{AreGiven, child_must, child_may, spare_in, spare_left, split_quota}
use Rattle.tda_fitnet.proofs.giving.give_within.Given as goal

abbrev pub invariant-loop-u : goal.invariant-loop-u
invariant-loop-u l =
    (length l.spare ≡ 128)
    × ((k : ℕ) → k < kind_count l.schema → slice_index l.spare k
    ≡ spare_left (child_must l.spine (known_of l.spine l.inv) l.parent) (child_may l.spine (known_of l.spine l.inv) l.parent) (spare_in l.spine (known_of l.spine l.inv) l.parent (λ r. kind_of l.schema (slice_index l.cells r)) l.fn.flow (length l.cells)) l.u k)
    × AreGiven (λ r. kind_of l.schema (slice_index l.cells r)) (length l.cells) (kind_count l.schema) l.first
    (split_quota l.spine (known_of l.spine l.inv) l.parent (λ r. kind_of l.schema (slice_index l.cells r)) l.fn.flow (length l.cells)) l.fn.flow l.u l.flow
