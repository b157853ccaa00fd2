-- Counting the words taken.
use Rattle.std.proofs.Common.{ℕ, List, refl, ◌∙◌}
use Rattle.tda_noise.specs.Answers.{CountsTaken}

pub counts_start : (w : List ℕ) (taken : ℕ) → CountsTaken w taken w taken
counts_start w taken = refl

pub counts_on : (before : List ℕ) (taken_before : ℕ) (w : List ℕ) (taken : ℕ) (now : List ℕ) (taken_now : ℕ) →
    CountsTaken before taken_before w taken → CountsTaken w taken now taken_now → CountsTaken before taken_before now taken_now
counts_on before taken_before w taken now taken_now a b = b ∙ a
