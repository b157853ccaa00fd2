-- A fit that is made and handed on.
use Rattle.std.specs.Prelude.{◌≡◌, Bool, true, false, MatchResult, Result}
use Rattle.tda_descent.specs.declared.fit.Fit.{Fit}
use Rattle.tda_descent.specs.declared.fit.DescentStop.{DescentStop}
use Rattle.tda_descent.specs.declared.fit.DescentStop.TheVariants.{Stopped, NoMemory}

module _ {K : Type 0} (called : K → Fit → Bool → K → Type 0) where
  abbrev pub Ends : (Fit → Type 0) → K → K → DescentStop → Type 0
  Ends Q old new Stopped = (fit : Fit) × Q fit × called old fit false new
  Ends Q old new NoMemory = old ≡ new

  -- Such a fit was handed on, and taken or refused; or memory ran out, and none was handed on.
  abbrev pub HandsOne : (Fit → Type 0) → (Fit → Type 0) → K → K → Result (Unit {0}) DescentStop → Type 0
  HandsOne P Q old new result = MatchResult result (λ u. (fit : Fit) × P fit × called old fit true new) (λ why. Ends Q old new why)
