-- Prices that are written one after another.
use Rattle.std.proofs.Common.{◌≡◌, ◌^◌, ℕ, ◌+◌, ◌<◌, List, length, set, ℤ, pos, ◌-ℤ◌, to_z, of_z, sym, subst, ◌∙◌, inl, inr, arith, get_or-set_same, get_or-set_other}
use Rattle.std.specs.Int.{w128}
use Rattle.std.proofs.lemmas.Int.{ints, to_z-of_z}
use Rattle.std.proofs.lemmas.Bool.{cases_eq}
use Rattle.tda_loss.specs.Curve.{IsWithin}
use Rattle.tda_flow.specs.Certificate.{price_at}

pub plain : (a : ℤ) → IsWithin (2 ^ 90) a → to_z w128 (of_z w128 a) ≡ a
plain a h = to_z-of_z w128 a (omega (arith, ints, h.low, h.high))

pub plain-sub : (a b : ℤ) → IsWithin (2 ^ 89) a → IsWithin (2 ^ 89) b → to_z w128 (of_z w128 (to_z w128 (of_z w128 a) -ℤ to_z w128 (of_z w128 b))) ≡ a -ℤ b
plain-sub a b h i =
    let ea = plain a (record { low = omega (arith, ints, h.low); high = omega (arith, ints, h.high) }) in
    let eb = plain b (record { low = omega (arith, ints, i.low); high = omega (arith, ints, i.high) }) in
    rw (ea, eb) (plain (a -ℤ b) (record { low = omega (arith, ints, h.low, i.high); high = omega (arith, ints, h.high, i.low) }))

-- one more price
pub written-more : (prices : List ℤ) (p : ℕ → ℤ) (hub x : ℤ) (v : ℕ) → v < length prices → x ≡ p v -ℤ hub
    → ((k : ℕ) → k < v → price_at prices k ≡ p k -ℤ hub) → (k : ℕ) → k < v + 1 → price_at (set prices v x) k ≡ p k -ℤ hub
written-more prices p hub x v l e h k m =
    elim (cases_eq k v) [
      | inl q ↦ subst (λ z. price_at (set prices v x) z ≡ p z -ℤ hub) (sym q) (get_or-set_same prices v x (pos 0) l ∙ e)
      | inr ne ↦ get_or-set_other prices v k x (pos 0) ne ∙ h k (omega arith)
    ]
