-- The turns that leave a node, one after another.
use Rattle.std.proofs.Common.{◌≡◌, ◌⊎◌, ℕ, ◌+◌, ◌*◌, ◌<◌, ◌≤◌, Bool, true, false, cond, Option, Some, None, inl, inr, refl, sym, ap, ◌∙◌, arith}
use Rattle.std.proofs.lemmas.Bool.{cases_eq, cases_lt}
use Rattle.tda_flow.specs.declared.net.Turn.{Turn}
use Rattle.tda_flow.specs.Network.{Network, arc_count}
use Rattle.tda_flow.specs.Turns.{turn_number, turn_limit, Leaves, IsLastBelow}

number_same : (j k : ℕ) (b c : Bool) → 2 * j + cond b 1 0 ≡ 2 * k + cond c 1 0 → (j ≡ k) × (b ≡ c)
number_same j k true true e = (omega arith, refl)
number_same j k false false e = (omega arith, refl)
number_same j k true false e = absurd (omega arith)
number_same j k false true e = absurd (omega arith)

abbrev turn : ℕ → Bool → Turn
turn k b = record { arc = k; back = b }

pub turn_of_number : (t u : Turn) → turn_number t ≡ turn_number u → u ≡ t
turn_of_number t u e =
    let h = number_same t.arc u.arc t.back u.back e in
    sym (ap (λ k. turn k t.back) h.0 ∙ ap (λ b. turn u.arc b) h.1)

number_below : (n k : ℕ) (b : Bool) → k < n → 2 * k + cond b 1 0 < 2 * n
number_below n k true l = omega arith
number_below n k false l = omega arith

-- before the first turn none is passed
pub none_passed : (net : Network) (v : ℕ) (next : Option Turn) → IsLastBelow net v (2 * arc_count net) next → (u : Turn) → Leaves net v u → turn_limit next ≤ turn_number u → ⊥
none_passed net v next h u l p = let b = number_below (arc_count net) u.arc u.back l.arc in let a = h.last u l b in omega arith

-- a turn that is passed after t is t, or was passed before
pub passed_more : (net : Network) (v : ℕ) (t : Turn) (next : Option Turn) → IsLastBelow net v (turn_number t) next → (u : Turn) → Leaves net v u → turn_limit next ≤ turn_number u
    → (u ≡ t) ⊎ (turn_number t < turn_number u)
passed_more net v t next h u l p =
    elim (cases_eq (turn_number t) (turn_number u)) [
      | inl e ↦ inl (turn_of_number t u e)
      | inr ne ↦
          elim (cases_lt (turn_number u) (turn_number t)) [
            | inl k ↦ let a = h.last u l k in absurd (omega arith)
            | inr k ↦ inr (omega arith)
          ]
    ]

pub left_falls : (net : Network) (v : ℕ) (t : Turn) (next : Option Turn) → IsLastBelow net v (turn_number t) next → turn_limit next < turn_number t + 1
left_falls net v t next h = go next (λ u e. h.below u e)
  where
    go : (o : Option Turn) → ((u : Turn) → o ≡ Some u → turn_number u < turn_number t) → turn_limit o < turn_number t + 1
    go None h = omega arith
    go (Some u) h = omega (arith, h u refl)
