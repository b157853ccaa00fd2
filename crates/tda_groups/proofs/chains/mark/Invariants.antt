use Rattle.std.proofs.Common.{◌≡◌, ℕ, ◌<◌, length, get_or, take, cond, Some, None}
use Rattle.tda_schema.specs.Parts.{holds}
use Rattle.tda_groups.proofs.chains.mark.Given as goal

abbrev pub invariant-loop-cell : goal.invariant-loop-cell
invariant-loop-cell l = (j : ℕ) → j < length l.initial.smallest → get_or l.smallest j None ≡ cond (holds (take l.cell-index l.cells) j) (Some l.group) (get_or l.initial.smallest j None)
