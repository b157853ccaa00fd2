-- The largest of some numbers, and of one more.
use Rattle.std.proofs.Common.{◌≡◌, ℕ, ◌≤◌, ◌⊎◌, max, List, [], ◌∷◌, ◌++◌, refl, sym, ap, ◌∙◌, inl, inr, arith}
use Rattle.std.proofs.Math.Nat.{le-max_left, le-max_right}
use Rattle.std.proofs.lemmas.List.Elements.{All-push, All-weaker, All-from_recursion, Contains-append_left, Contains-push}
use Rattle.tda_spine.specs.Largest.{IsLargest}

max_is : (a b : ℕ) → (max a b ≡ a) ⊎ (max a b ≡ b)
max_is a b = grind arith

module _ {A : Type 0} (f : A → ℕ) where
  pub largest_one : (x : A) (n : ℕ) → n ≡ f x → IsLargest f (x ∷ []) n
  largest_one x n e = record {
    each = All-from_recursion (λ y. f y ≤ n) (x ∷ []) (omega arith, tt);
    some = (x, (0, omega arith, refl), sym e);
  }

  pub largest_more : (xs : List A) (y : A) (n m k : ℕ) → IsLargest f xs n → m ≡ f y → k ≡ max n m → IsLargest f (xs ++ y ∷ []) k
  largest_more xs y n m k h e d = record {
    each = All-push (λ z. f z ≤ k) xs y (All-weaker (λ z. f z ≤ n) (λ z. f z ≤ k) (λ z l. omega (arith, le-max_left n m, d)) xs h.each) (omega (arith, le-max_right n m, d, e));
    some = elim (max_is n m) [
      | inl left ↦ (h.some.0, Contains-append_left xs (y ∷ []) h.some.0 h.some.1, h.some.2 ∙ sym left ∙ sym d)
      | inr right ↦ (y, Contains-push xs y, sym e ∙ sym right ∙ sym d)
    ];
  }
