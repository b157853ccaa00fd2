-- What each schema keeps beside what it states.
use Rattle.std.specs.Prelude.{ℕ, ◌≡◌, true, List, map}
use Rattle.tda_frac.specs.Fraction as frac
use Rattle.tda_model.specs.Schema.{Schema}
use Rattle.tda_schema.specs.Stated.{fraction_of, IsLookedUp}
use Rattle.tda_schema.specs.Shares.{IsPaid, common_of, spent_of, has_denominators, is_within_total}
use Rattle.tda_schema.specs.Parts.{Parts, ArePartsOf}

-- a schema that passed each test, with the common denominator and the sum of its shares, its parts, and the values of its attributes
pub record IsWhole (s : Schema) (m : ℕ) (f : frac.Fraction) (p : Parts) (texts : List (List (List ℕ))) : Type 0 where
  pub looked_up : IsLookedUp s
  pub paid : IsPaid s
  pub common : m ≡ common_of s
  pub denominators : has_denominators s ≡ true
  pub spent : fraction_of f ≡ spent_of s
  pub within : is_within_total s ≡ true
  pub parts : ArePartsOf s p
  pub values : texts ≡ map (λ a. a.values) s.attributes
