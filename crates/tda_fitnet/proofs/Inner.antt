-- The chain of the groups of a cell: a group has the cell where it is the cell's smallest one, or next to just one group that has it.
use Rattle.std.proofs.Common.{◌≡◌, ℕ, zero, suc, ◌+◌, ◌≤◌, Bool, true, false, cond, ◌&&◌, eqb, nat_lt, refl, sym, ap, ◌∙◌, inl, inr, arith, ne_eqb, eq-eqb, lt-ltb, le-ltb}
use Rattle.std.proofs.lemmas.Bool.{cases_eq, cases_lt, cases_Bool}
use Rattle.tda_model.proofs.Shares.{sum_range_more}
use Rattle.tda_groups.specs.Chains.{last_passing}
use Rattle.tda_fitnet.proofs.Ranges.{below}

-- so much for what passes
abbrev pub tick : ℕ → Bool → ℕ
tick y b = cond b y 0

-- the numbers that pass, one after the other: each that passes is the last of all, or the last before just one other
pub linked : (y : ℕ) (q : ℕ → Bool) (n g : ℕ) → q 0 ≡ true → 1 ≤ n
    → below n (λ h. tick y (nat_lt 0 h && (q h && eqb (last_passing q h) g))) + tick y (eqb (last_passing q n) g) ≡ tick y (q g && nat_lt g n)
linked y q zero g whole some = absurd (omega arith)
linked y q (suc zero) g whole some =
    let none : below (suc zero) (λ h. tick y (nat_lt 0 h && (q h && eqb (last_passing q h) g))) ≡ 0 = omega (arith, sum_range_more (λ h. tick y (nat_lt 0 h && (q h && eqb (last_passing q h) g))) 0) in
    ap (λ m. m + tick y (eqb (cond (q 0) 0 0) g)) none ∙ ap (λ b. 0 + tick y (eqb (cond b 0 0) g)) whole ∙ zero_plus (tick y (eqb 0 g)) ∙ elim (cases_eq 0 g) [
      | inl e ↦ ap (λ b. tick y b) (eq-eqb 0 g e) ∙ sym (ap (λ b. tick y (b && nat_lt g 1)) (ap q (sym e) ∙ whole) ∙ ap (λ b. tick y b) (lt-ltb g 1 (omega arith)))
      | inr ne ↦ ap (λ b. tick y b) (ne_eqb 0 g ne) ∙ sym (ap (λ b. tick y (q g && b)) (le-ltb g 1 (omega arith)) ∙ and_false (q g))
    ]
  where
    zero_plus : (a : ℕ) → 0 + a ≡ a
    zero_plus a = omega arith

    and_false : (b : Bool) → tick y (b && false) ≡ zero
    and_false true = refl
    and_false false = refl
linked y q (suc (suc n)) g whole some =
    let m : ℕ = suc n in
    let ih = linked y q (suc n) g whole (omega arith) in
    let f : ℕ → ℕ = λ h. tick y (nat_lt 0 h && (q h && eqb (last_passing q h) g)) in
    let more = sum_range_more f m in
    let pos_m : nat_lt 0 m ≡ true = lt-ltb 0 m (omega arith) in
    elim (cases_Bool (q m)) [
      | inl passes ↦
          let own : f m ≡ tick y (eqb (last_passing q m) g) = ap (λ b. tick y (b && (q m && eqb (last_passing q m) g))) pos_m ∙ ap (λ b. tick y (b && eqb (last_passing q m) g)) passes in
          let last : tick y (eqb (last_passing q (suc m)) g) ≡ tick y (eqb m g) = ap (λ b. tick y (eqb (cond b m (last_passing q m)) g)) passes in
          elim (cases_eq m g) [
            | inl e ↦
                let right : tick y (q g && nat_lt g (suc m)) ≡ y = ap (λ b. tick y (b && nat_lt g (suc m))) (ap q (sym e) ∙ passes) ∙ ap (λ b. tick y b) (lt-ltb g (suc m) (omega arith)) in
                let left : tick y (q g && nat_lt g m) ≡ 0 = ap (λ b. tick y (q g && b)) (le-ltb g m (omega arith)) ∙ and_false (q g) in
                let one : tick y (eqb m g) ≡ y = ap (λ b. tick y b) (eq-eqb m g e) in
                omega (arith, more, own, last, ih)
            | inr ne ↦
                let zero_here : tick y (eqb m g) ≡ 0 = ap (λ b. tick y b) (ne_eqb m g ne) in
                let same : tick y (q g && nat_lt g (suc m)) ≡ tick y (q g && nat_lt g m) = ap (λ b. tick y (q g && b)) (lt_more g m ne) in
                omega (arith, more, own, last, ih)
          ]
      | inr misses ↦
          let own : f m ≡ 0 = ap (λ b. tick y (nat_lt 0 m && (b && eqb (last_passing q m) g))) misses ∙ and_false (nat_lt 0 m) in
          let last : tick y (eqb (last_passing q (suc m)) g) ≡ tick y (eqb (last_passing q m) g) = ap (λ b. tick y (eqb (cond b m (last_passing q m)) g)) misses in
          elim (cases_eq m g) [
            | inl e ↦
                let gone : q g ≡ false = ap q (sym e) ∙ misses in
                let right : tick y (q g && nat_lt g (suc m)) ≡ 0 = ap (λ b. tick y (b && nat_lt g (suc m))) gone in
                let left : tick y (q g && nat_lt g m) ≡ 0 = ap (λ b. tick y (b && nat_lt g m)) gone in
                omega (arith, more, own, last, ih)
            | inr ne ↦
                let same : tick y (q g && nat_lt g (suc m)) ≡ tick y (q g && nat_lt g m) = ap (λ b. tick y (q g && b)) (lt_more g m ne) in
                omega (arith, more, own, last, ih)
          ]
    ]
  where
    and_false : (b : Bool) → tick y (b && false) ≡ zero
    and_false true = refl
    and_false false = refl

    lt_more : (g m : ℕ) → (m ≡ g → ⊥) → nat_lt g (suc m) ≡ nat_lt g m
    lt_more g m ne = elim (cases_lt g m) [
      | inl l ↦ lt-ltb g (suc m) (omega arith) ∙ sym (lt-ltb g m l)
      | inr ge ↦ le-ltb g (suc m) (omega arith) ∙ sym (le-ltb g m ge)
    ]
