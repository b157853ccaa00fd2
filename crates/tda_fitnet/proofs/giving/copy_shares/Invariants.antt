use Rattle.std.proofs.Common.{◌≡◌, ℕ, ◌+◌, ◌<◌, length, get_or}
use Rattle.tda_fitnet.proofs.giving.copy_shares.Given as goal

abbrev pub invariant-loop-kind : goal.invariant-loop-kind
invariant-loop-kind l = (length l.quotas ≡ length l.fn.quotas) × ((k : ℕ) → k < l.kind → get_or l.quotas k 0 ≡ get_or l.shares (l.start + k) 0)
