-- The largest of some numbers.
use Rattle.std.specs.Prelude.{ℕ, ◌≡◌, ◌≤◌, List, All, Contains}

-- the number is that of some element, and no element has a larger one
pub record IsLargest {A : Type 0} (f : A → ℕ) (xs : List A) (n : ℕ) : Type 0 where
  pub each : All (λ x. f x ≤ n) xs
  pub some : (x : A) × Contains xs x × (f x ≡ n)
