-- A number that is answered where it fits a u64.
use Rattle.std.proofs.Common.{ℕ, ◌≡◌, ◌<◌, ◌^◌, ◌↔◌, Option, Some, None, Result, Ok, Err, IfSome, IsSome, refl, subst, sym}
use Rattle.std.specs.Option.{SomeIff}
use Rattle.std.specs.Result.{OkIff, result_ok}

pub value_of_narrow : (r : Option ℕ) (v : ℕ) (P : ℕ → Type 0) → P v → SomeIff r (v < 2 ^ 64) v → IfSome r P
value_of_narrow None v P holds iff = tt
value_of_narrow (Some w) v P holds iff = subst P (sym iff.1) holds

pub fits_of_narrow : (r : Option ℕ) (v : ℕ) (P : ℕ → Type 0) → P v → ((w : ℕ) → P w → w ≡ v) → SomeIff r (v < 2 ^ 64) v → IsSome r ↔ ((w : ℕ) × P w × (w < 2 ^ 64))
fits_of_narrow None v P holds only iff =
    (λ e. absurd cc, λ h. absurd (iff (subst (λ n. n < 2 ^ 64) (only h.0 h.1) h.2)))
fits_of_narrow (Some w) v P holds only iff = (λ e. (v, holds, iff.0), λ h. refl)

pub SomeIff-result_ok : {E : Type 0} (r : Result ℕ E) (o : Option ℕ) (v : ℕ) → OkIff r (v < 2 ^ 64) v → o ≡ result_ok r → SomeIff o (v < 2 ^ 64) v
SomeIff-result_ok (Ok w) o v iff is = subst (λ p. SomeIff p (v < 2 ^ 64) v) (sym is) iff
SomeIff-result_ok (Err e) o v iff is = subst (λ p. SomeIff p (v < 2 ^ 64) v) (sym is) iff
