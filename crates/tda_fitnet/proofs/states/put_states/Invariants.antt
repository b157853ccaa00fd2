use Rattle.std.proofs.Common.{◌≡◌, ℕ, ◌+◌, ◌*◌, ◌<◌, ◌≤◌, length, slice_index, sum_by}
use Rattle.std.specs.List.{range_with_len}
use Rattle.tda_model.specs.Groups.{kind_count}
use Rattle.tda_model.specs.Spine.{units_at}
use Rattle.tda_invar.specs.Known.{known_of}
use Rattle.tda_fitnet.specs.Plain.{plain_at}
use Rattle.tda_fitnet.proofs.states.put_states.Given as goal

abbrev pub invariant-loop-n : goal.invariant-loop-n
invariant-loop-n l =
    (length l.flow ≡ length l.fn.flow)
    × (length l.sums ≡ length l.fn.sums)
    × ((n : ℕ) → n < l.n → slice_index l.flow n ≡ (known_of l.spine l.inv).total (slice_index (units_at l.spine 1) n))
    × ((n k : ℕ) → n < l.n → k < kind_count l.schema → slice_index l.flow (length (units_at l.spine 1) + (n * kind_count l.schema + k)) ≡ plain_at l.schema l.spine (known_of l.spine l.inv) n k)
    × ((j : ℕ) → length (units_at l.spine 1) + length (units_at l.spine 1) * kind_count l.schema ≤ j → slice_index l.flow j ≡ slice_index l.fn.flow j)
    × ((k : ℕ) → k < kind_count l.schema → slice_index l.sums k ≡ sum_by (λ n. plain_at l.schema l.spine (known_of l.spine l.inv) n k) (range_with_len 0 l.n))
