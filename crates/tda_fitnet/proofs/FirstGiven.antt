-- What cells are given where the first cell of each kind takes all of its kind.
use Rattle.std.proofs.Common.{◌≡◌, ℕ, suc, ◌+◌, ◌<◌, ◌≤◌, cond, List, length, get_or, set, sym, ap, ◌∙◌, inl, inr, arith, ne_eqb, eq-eqb, get_or-set_other, get_or-set_same}
use Rattle.std.proofs.lemmas.Bool.{cases_eq}
use Rattle.tda_fitnet.specs.Giving.{kind_part}
use Rattle.tda_fitnet.proofs.GivenOut.{part_same, part_more}

module _ (kind : ℕ → ℕ) (first cells : ℕ) (n m : ℕ) (flow sums : List ℕ) (own : m ≡ kind n) (low : n < cells) (room : first + cells ≤ length flow) (in_sums : m < length sums) where
  abbrev flow2 : List ℕ
  flow2 = set flow (first + n) (get_or sums m 0)

  abbrev sums2 : List ℕ
  sums2 = set sums m 0

  given : get_or flow2 (first + n) 0 ≡ get_or sums m 0
  given = get_or-set_same flow (first + n) (get_or sums m 0) 0 (omega arith)

  before : (k : ℕ) → kind_part kind k (λ r. get_or flow2 (first + r) 0) n ≡ kind_part kind k (λ r. get_or flow (first + r) 0) n
  before k = part_same kind k (λ r. get_or flow2 (first + r) 0) (λ r. get_or flow (first + r) 0) n (λ r l. get_or-set_other flow (first + n) (first + r) (get_or sums m 0) 0 (λ e. omega arith))

  pub first_more : (k old : ℕ) → get_or sums k 0 + kind_part kind k (λ r. get_or flow (first + r) 0) n ≡ old
      → get_or sums2 k 0 + kind_part kind k (λ r. get_or flow2 (first + r) 0) (n + 1) ≡ old
  first_more k old h =
      let next : suc n ≡ n + 1 = omega arith in
      let more = sym (ap (kind_part kind k (λ r. get_or flow2 (first + r) 0)) next) ∙ part_more kind k (λ r. get_or flow2 (first + r) 0) n in
      elim (cases_eq k m) [
        | inl e ↦ taken _ _ _ _ _ _ _ (ap (λ j. get_or sums2 j 0) e ∙ get_or-set_same sums m 0 0 in_sums) more (before k)
            (ap (λ b. cond b (get_or flow2 (first + n) 0) 0) (eq-eqb (kind n) k (sym own ∙ sym e)) ∙ given) (ap (λ j. get_or sums j 0) e) h
        | inr ne ↦ left _ _ _ _ _ _ (get_or-set_other sums m k 0 0 ne) more (before k)
            (ap (λ b. cond b (get_or flow2 (first + n) 0) 0) (ne_eqb (kind n) k (λ e. ne (sym e ∙ sym own)))) h
      ]
    where
      taken : (s2 p2 pb t p s sm : ℕ) {old : ℕ} → s2 ≡ 0 → p2 ≡ pb + t → pb ≡ p → t ≡ sm → s ≡ sm → s + p ≡ old → s2 + p2 ≡ old
      taken s2 p2 pb t p s sm a b c d e f = omega arith

      left : (s2 p2 pb t p s : ℕ) {old : ℕ} → s2 ≡ s → p2 ≡ pb + t → pb ≡ p → t ≡ 0 → s + p ≡ old → s2 + p2 ≡ old
      left s2 p2 pb t p s a b c d f = omega arith

  pub first_none : (k q : ℕ) → q < n + 1 → kind q ≡ k → ((q : ℕ) → q < n → kind q ≡ k → get_or sums k 0 ≡ 0) → get_or sums2 k 0 ≡ 0
  first_none k q l e h = elim (cases_eq k m) [
    | inl same ↦ ap (λ j. get_or sums2 j 0) same ∙ get_or-set_same sums m 0 0 in_sums
    | inr ne ↦ get_or-set_other sums m k 0 0 ne ∙ h q (early q l e ne) e
  ]
    where
      early : (q : ℕ) → q < n + 1 → kind q ≡ k → (k ≡ m → ⊥) → q < n
      early q l e ne = elim (cases_eq q n) [ inl same ↦ absurd (ne (sym e ∙ ap kind same ∙ sym own)) | inr other ↦ omega arith ]
