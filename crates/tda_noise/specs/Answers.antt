-- What the samplers answer on the words left, and what they leave.
use Rattle.std.specs.Prelude.{ℕ, ℤ, nat_abs, ◌≡◌, ◌≤◌, ◌+◌, Option, Some, None, Result, Ok, Err, List, [], length}
use Rattle.tda_noise.specs.Draws.{Drawing, Ends, Attempt, Refused, Gives, Outcome, Drawn, Passed, magnitude_limit}
use Rattle.tda_noise.specs.declared.draw.Draw.{Draw}
use Rattle.tda_noise.specs.declared.draw.Draw.TheVariants as draw
use Rattle.tda_noise.specs.declared.draw.Stop.{Stop}
use Rattle.tda_noise.specs.declared.draw.Stop.TheVariants as stop

-- what stands at the front of the words is answered, and its rest is left; none is answered where no such
-- draw stands there, and then nothing is left
abbrev pub Answers : {A : Type 0} → Drawing A → Option A → List ℕ → List ℕ → Type 0
Answers Draws (Some x) before now = Draws before x now
Answers Draws None before now = Ends Draws before × (now ≡ [])

-- as many words are counted as were taken
abbrev pub CountsTaken : List ℕ → ℕ → List ℕ → ℕ → Type 0
CountsTaken before taken_before now taken = taken + length now ≡ taken_before + length before

-- what a draw came to, if the words sufficed
abbrev pub outcome_of : Draw → Option (Outcome ℤ)
outcome_of (draw.Value y) = Some (Drawn y)
outcome_of (draw.TooLarge m) = Some (Passed m)
outcome_of draw.OutOfWords = None

-- a number that is drawn is within the limit
abbrev pub IsWithinLimit : Draw → Type 0
IsWithinLimit (draw.Value y) = nat_abs y ≤ magnitude_limit
IsWithinLimit (draw.TooLarge m) = Unit {0}
IsWithinLimit draw.OutOfWords = Unit {0}

-- what a step of a draw came to
abbrev pub found : {A : Type 0} → Result A Stop → Option (Outcome A)
found (Ok x) = Some (Drawn x)
found (Err (stop.TooLarge m)) = Some (Passed m)
found (Err stop.OutOfWords) = None

-- what an attempt came to: it gives nothing where it is refused
abbrev pub attempt_of : {A : Type 0} → Result (Option A) Stop → Option (Attempt (Outcome A))
attempt_of (Ok None) = Some Refused
attempt_of (Ok (Some x)) = Some (Gives (Drawn x))
attempt_of (Err (stop.TooLarge m)) = Some (Gives (Passed m))
attempt_of (Err stop.OutOfWords) = None
