-- Each unit is the nation or a child of just one unit in fit order, so what is added over the fits is added over all units.
use Rattle.std.proofs.Common.{◌≡◌, ◌≢◌, ℕ, ◌+◌, ◌<◌, ◌≤◌, Bool, false, cond, ◌==◌, Option, Some, None, List, [], ◌∷◌, length, refl, sym, ap, ◌∙◌, subst, inl, inr, arith, ne_eqb, eq-eqb}
use Rattle.std.proofs.lemmas.Bool.{cases_eq}
use Rattle.std.proofs.lemmas.List.Sums.{sum_by-cons}
use Rattle.std.specs.List.{sum_by}
use Rattle.tda_model.specs.Spine.{Spine, level_of, is_child, children_of, unit_numbers, parent_of, nation_of, parents_of, IsUnit, IsTree}
use Rattle.tda_model.proofs.Sums.{Each, each_weaker, each_range, each_any, sum_same, sum_zero, sum_add, sum_filter, sum_swap, sum_one}
use Rattle.tda_model.proofs.FitOrder.{EachOnce, parents_once, each_inner}

-- a number that comes once in a list is counted once
abbrev counted : ℕ → ℕ → List ℕ → ℕ
counted v p ps = sum_by (λ q. cond (q == p) v 0) ps

-- the first is counted if it is the number
one_more : (v p q : ℕ) (qs : List ℕ) (n m : ℕ) → cond (q == p) v 0 ≡ n → counted v p qs ≡ m → counted v p (q ∷ qs) ≡ n + m
one_more v p q qs n m h k = omega (arith, sum_by-cons (λ r. cond (r == p) v 0) q qs, h, k)

counted_none : (v p : ℕ) (ps : List ℕ) → Each (λ q. q ≢ p) ps → counted v p ps ≡ 0
counted_none v p [] h = refl
counted_none v p (q ∷ qs) h =
    let here : cond (q == p) v 0 ≡ 0 = ap (λ b. cond b v 0) (ne_eqb q p h.0) in
    one_more v p q qs 0 0 here (counted_none v p qs h.1)

total : (v : ℕ) → v + 0 ≡ v
total v = omega arith

whole : (v : ℕ) → 0 + v ≡ v
whole v = omega arith

counted_here : (v p : ℕ) (ps : List ℕ) → Each (λ q. q ≢ p) ps → counted v p (p ∷ ps) ≡ v
counted_here v p ps h =
    let here : cond (p == p) v 0 ≡ v = ap (λ b. cond b v 0) (eq-eqb p p refl) in
    one_more v p p ps v 0 here (counted_none v p ps h) ∙ total v

counted_once : (v p : ℕ) (ps : List ℕ) → EachOnce ps → (Each (λ q. q ≢ p) ps → ⊥) → counted v p ps ≡ v
counted_once v p [] apart among = absurd (among tt)
counted_once v p (q ∷ qs) apart among =
    elim (cases_eq q p) [
      | inl same ↦ subst (λ w. counted v w (q ∷ qs) ≡ v) same (counted_here v q qs (each_weaker (λ r. q ≢ r) (λ r. r ≢ q) qs (λ r other e. other (sym e)) apart.0))
      | inr other ↦
          let here : cond (q == p) v 0 ≡ 0 = ap (λ b. cond b v 0) (ne_eqb q p other) in
          one_more v p q qs 0 v here (counted_once v p qs apart.1 (λ none. among (other, none))) ∙ whole v
    ]

module _ (sp : Spine) (t : IsTree sp (nation_of sp)) (f : ℕ → ℕ) where
  among : (u : ℕ) → IsUnit sp u → level_of sp u + 1 < sp.depth → Each (λ p. p ≢ u) (parents_of sp) → ⊥
  among u here inner none = each_inner sp t (λ p. p ≢ u) none u here inner refl

  abbrev own : ℕ → ℕ
  own u = sum_by (λ p. cond (is_child sp p u) (f u) 0) (parents_of sp)

  own_of : (u : ℕ) (o : Option ℕ) → parent_of sp u ≡ o → own u ≡ sum_by (λ p. cond (elim o as (λ _. Bool) [ Some q ↦ p == q | None ↦ false ]) (f u) 0) (parents_of sp)
  own_of u o e = ap (λ r. sum_by (λ p. cond (elim r as (λ _. Bool) [ Some q ↦ p == q | None ↦ false ]) (f u) 0) (parents_of sp)) e

  each_own : (u : ℕ) → IsUnit sp u → cond (u == nation_of sp) (f u) 0 + own u ≡ f u
  each_own u here =
      elim (cases_eq u (nation_of sp)) [
        | inl same ↦
            let none : own u ≡ 0 = own_of u None (ap (parent_of sp) same ∙ t.root_parent) ∙ sum_zero (parents_of sp) in
            let here : cond (u == nation_of sp) (f u) 0 ≡ f u = ap (λ b. cond b (f u) 0) (eq-eqb u (nation_of sp) same) in
            omega (arith, none, here)
        | inr other ↦
            let low : 1 ≤ level_of sp u = elim (cases_eq (level_of sp u) 0) [ inl at ↦ absurd (other (t.root_alone u here at)) | inr positive ↦ omega (arith, positive) ] in
            let p = t.parent u here low in
            let above : level_of sp u ≡ level_of sp p.0 + 1 = p.1.above in
            let deep : level_of sp u < sp.depth = t.within u here in
            let one : own u ≡ f u = own_of u (Some p.0) p.1.named ∙ counted_once (f u) p.0 (parents_of sp) (parents_once sp t) (among p.0 p.1.here (omega arith)) in
            let here : cond (u == nation_of sp) (f u) 0 ≡ 0 = ap (λ b. cond b (f u) 0) (ne_eqb u (nation_of sp) other) in
            omega (arith, one, here)
      ]

  pub units_once : sum_by f (unit_numbers sp) ≡ f (nation_of sp) + sum_by (λ p. sum_by f (children_of sp p)) (parents_of sp)
  units_once =
      let ps = parents_of sp in
      let us = unit_numbers sp in
      let nation_part : sum_by (λ u. cond (u == nation_of sp) (f u) 0) us ≡ f (nation_of sp) = sum_one f (nation_of sp) 0 (length sp.units) (omega arith) (omega (arith, t.root)) in
      let inner : sum_by (λ p. sum_by f (children_of sp p)) ps ≡ sum_by (λ p. sum_by (λ u. cond (is_child sp p u) (f u) 0) us) ps =
      sum_same _ _ ps (each_any _ ps (λ p. sum_filter f (is_child sp p) us)) in
      let turned : sum_by (λ p. sum_by (λ u. cond (is_child sp p u) (f u) 0) us) ps ≡ sum_by own us = sum_swap (λ p u. cond (is_child sp p u) (f u) 0) ps us in
      let parts : sum_by (λ u. cond (u == nation_of sp) (f u) 0 + own u) us ≡ sum_by f us =
      sum_same (λ u. cond (u == nation_of sp) (f u) 0 + own u) f us (each_range (λ u. cond (u == nation_of sp) (f u) 0 + own u ≡ f u) 0 (length sp.units) (λ u low high. each_own u (omega arith))) in
      let added = sum_add (λ u. cond (u == nation_of sp) (f u) 0) own us in
      sym parts ∙ added ∙ ap (λ n. n + sum_by own us) nation_part ∙ ap (λ n. f (nation_of sp) + n) (sym (inner ∙ turned))
