-- Lists that are written from the first place on.
use Rattle.std.proofs.Common.{◌≡◌, ℕ, ◌+◌, ◌<◌, ◌≤◌, List, length, get_or, set, sym, ap, ◌∙◌, inl, inr, arith, get_or-set_other, get_or-set_same}
use Rattle.std.proofs.lemmas.Bool.{cases_eq}

-- one place more
pub write_more : (xs : List ℕ) (n v : ℕ) (f : ℕ → ℕ) → n < length xs → ((k : ℕ) → k < n → get_or xs k 0 ≡ f k) → v ≡ f n
    → (k : ℕ) → k < n + 1 → get_or (set xs n v) k 0 ≡ f k
write_more xs n v f low h e k l = elim (cases_eq k n) [
  | inl same ↦ ap (λ m. get_or (set xs n v) m 0) same ∙ get_or-set_same xs n v 0 low ∙ e ∙ ap f (sym same)
  | inr ne ↦ get_or-set_other xs n k v 0 ne ∙ h k (omega arith)
]

-- and the later ones stay
pub write_later : (xs : List ℕ) (n v : ℕ) (f : ℕ → ℕ) → ((k : ℕ) → n ≤ k → get_or xs k 0 ≡ f k) → (k : ℕ) → n + 1 ≤ k → get_or (set xs n v) k 0 ≡ f k
write_later xs n v f h k l = get_or-set_other xs n k v 0 (λ e. omega arith) ∙ h k (omega arith)
