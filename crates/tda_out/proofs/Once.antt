-- In fit order below each unit with children each other unit stands once; and sums over numbers that stand once.
use Rattle.std.proofs.Common.{◌≡◌, ◌≢◌, ℕ, zero, suc, ◌+◌, ◌<◌, ◌≤◌, ◌||◌, cond, eqb, Bool, true, false, List, [], ◌∷◌, ◌++◌, length, get_or, refl, sym, ap, ◌∙◌, subst, inl, inr, arith, ne_eqb, eq-eqb}
use Rattle.std.specs.List.{sum_by, range_with_len, flat_map}
use Rattle.std.proofs.lemmas.Bool.{cases_eq}
use Rattle.std.proofs.lemmas.List.Sums.{sum_by-cons}
use Rattle.tda_model.specs.Spine.{Spine, level_of, is_child, children_of, nation_of, parents_of, IsUnit, HasParent, IsTree}
use Rattle.tda_model.specs.TablesText.{units_in_order}
use Rattle.tda_model.proofs.FitOrder.{EachOnce, each_append, each_joined, joined_each}
use Rattle.tda_model.proofs.FitOrder as order
use Rattle.tda_model.proofs.Sums.{Each, Ascends, each_weaker, each_both, each_any, range_ascends, filter_ascends, sum_same, sum_add, sum_le, sum_one}
use Rattle.tda_model.proofs.Tree.{parent_is, parent_or_self}

each_get : (P : ℕ → Type 0) (xs : List ℕ) → Each P xs → (k : ℕ) → k < length xs → P (get_or xs k 0)
each_get P [] h k l = absurd (omega arith)
each_get P (x ∷ xs) h zero l = h.0
each_get P (x ∷ xs) h (suc k) l = each_get P xs h.1 k (omega arith)

pub once_at : (xs : List ℕ) → EachOnce xs → (k n : ℕ) → k < n → n < length xs → get_or xs k 0 ≡ get_or xs n 0 → ⊥
once_at [] h k n l m e = absurd (omega arith)
once_at (x ∷ xs) h zero zero l m e = absurd (omega arith)
once_at (x ∷ xs) h zero (suc n) l m e = each_get (λ y. x ≡ y → ⊥) xs h.0 n (omega arith) e
once_at (x ∷ xs) h (suc k) zero l m e = absurd (omega arith)
once_at (x ∷ xs) h (suc k) (suc n) l m e = once_at xs h.1 k n (omega arith) (omega arith) e

pub ascends_once : (xs : List ℕ) → Ascends xs → EachOnce xs
ascends_once [] h = tt
ascends_once (x ∷ xs) h = (each_weaker (λ y. x < y) (λ y. x ≡ y → ⊥) xs (λ y l e. omega arith) h.0, ascends_once xs h.1)

once_append : (xs ys : List ℕ) → EachOnce xs → EachOnce ys → Each (λ x. Each (λ y. x ≡ y → ⊥) ys) xs → EachOnce (xs ++ ys)
once_append [] ys h k apart = k
once_append (x ∷ xs) ys h k apart = (each_append (λ y. x ≡ y → ⊥) xs ys h.0 apart.0, once_append xs ys h.1 k apart.1)

-- lists whose numbers tell from which they come
pub once_joined : (tag : ℕ → ℕ) (f : ℕ → List ℕ) (xs : List ℕ) → EachOnce xs → Each (λ x. EachOnce (f x)) xs → Each (λ x. Each (λ v. tag v ≡ x) (f x)) xs → EachOnce (flat_map f xs)
once_joined tag f [] once each tags = tt
once_joined tag f (x ∷ xs) once each tags =
    once_append (f x) (flat_map f xs) each.0 (once_joined tag f xs once.1 each.1 tags.1)
    (each_weaker (λ v. tag v ≡ x) (λ v. Each (λ w. v ≡ w → ⊥) (flat_map f xs)) (f x) (λ v from_x.
    each_joined (λ w. v ≡ w → ⊥) f xs (each_both (λ y. x ≡ y → ⊥) (λ y. Each (λ w. tag w ≡ y) (f y)) (λ y. Each (λ w. v ≡ w → ⊥) (f y)) xs
    (λ y other from_y. each_weaker (λ w. tag w ≡ y) (λ w. v ≡ w → ⊥) (f y) (λ w is e. other (sym from_x ∙ ap tag e ∙ is)) from_y) once.0 tags.1)) tags.0)

module _ (sp : Spine) (t : IsTree sp (nation_of sp)) where
  pub children_once : (u : ℕ) → EachOnce (children_of sp u)
  children_once u = ascends_once (children_of sp u) (filter_ascends (is_child sp u) _ (range_ascends 0 (length sp.units)))

  -- each unit below those with children once, and not the nation
  pub units_once : EachOnce (units_in_order sp)
  units_once = (
    each_joined (λ v. nation_of sp ≢ v) (children_of sp) (parents_of sp) (each_any (λ p. Each (λ v. nation_of sp ≢ v) (children_of sp p)) (parents_of sp) (λ p.
        order.each_child sp t (λ v. nation_of sp ≢ v) p (λ v here up e.
        let above : level_of sp v ≡ level_of sp p + 1 = up.above in
        let root = t.root_level in
        let same : level_of sp (nation_of sp) ≡ level_of sp v = ap (level_of sp) e in omega arith))),
    once_joined (parent_or_self sp) (children_of sp) (parents_of sp) (order.parents_once sp t) (each_any (λ p. EachOnce (children_of sp p)) (parents_of sp) children_once)
        (each_any (λ p. Each (λ v. parent_or_self sp v ≡ p) (children_of sp p)) (parents_of sp) (λ p. order.each_child sp t (λ v. parent_or_self sp v ≡ p) p (λ v here up. parent_is sp (nation_of sp) t v p up))),
  )

  pub units_here : Each (IsUnit sp) (units_in_order sp)
  units_here = (t.root, each_joined (IsUnit sp) (children_of sp) (parents_of sp) (each_any (λ p. Each (IsUnit sp) (children_of sp p)) (parents_of sp) (λ p. order.each_child sp t (IsUnit sp) p (λ v here up. here))))

  -- and each unit stands among them
  pub each_unit : (P : ℕ → Type 0) → Each P (units_in_order sp) → (u : ℕ) → IsUnit sp u → P u
  each_unit P h u here = elim (cases_eq (level_of sp u) 0) [
    | inl top ↦ subst P (sym (t.root_alone u here top)) h.0
    | inr below ↦
        let p = t.parent u here (omega arith) in
        let above : level_of sp u ≡ level_of sp p.0 + 1 = p.1.above in
        let within : level_of sp u < sp.depth = t.within u here in
        order.among_children sp P p.0 u here p.1 (order.each_inner sp t (λ p. Each P (children_of sp p)) (joined_each P (children_of sp) (parents_of sp) h.1) p.0 p.1.here (omega arith))
  ]

-- ---- a sum over numbers that stand once
among : List ℕ → ℕ → Bool
among [] v = false
among (x ∷ xs) v = eqb v x || among xs v

not_among : (x : ℕ) (xs : List ℕ) → Each (λ y. x ≡ y → ⊥) xs → among xs x ≡ false
unfolding among
not_among x [] h = refl
not_among x (y ∷ ys) h = ap (λ b. b || among ys x) (ne_eqb x y h.0) ∙ not_among x ys h.1

once_sum : (n : ℕ) (f : ℕ → ℕ) (xs : List ℕ) → EachOnce xs → Each (λ x. x < n) xs → sum_by f xs ≡ sum_by (λ v. cond (among xs v) (f v) 0) (range_with_len 0 n)
unfolding among
once_sum n f [] once low = sym (zeros n 0)
  where
    zeros : (n a : ℕ) → sum_by (λ v. 0) (range_with_len a n) ≡ 0
    zeros zero a = refl
    zeros (suc n) a = sum_by-cons (λ v. 0) a (range_with_len (a + 1) n) ∙ omega (arith, zeros n (a + 1))
once_sum n f (x ∷ xs) once low =
    let range = range_with_len 0 n in
    let own : ℕ → ℕ = λ v. cond (eqb v x) (f v) 0 in
    let rest : ℕ → ℕ = λ v. cond (among xs v) (f v) 0 in
    let split : sum_by (λ v. cond (eqb v x || among xs v) (f v) 0) range ≡ sum_by (λ v. own v + rest v) range =
    sum_same (λ v. cond (eqb v x || among xs v) (f v) 0) (λ v. own v + rest v) range (each_any (λ v. cond (eqb v x || among xs v) (f v) 0 ≡ own v + rest v) range (λ v. elim (cases_eq v x) [
      | inl e ↦ both v e
      | inr ne ↦ ap (λ b. cond (b || among xs v) (f v) 0) (ne_eqb v x ne) ∙ sym (ap (λ b. cond b (f v) 0 + rest v) (ne_eqb v x ne) ∙ nothing (rest v))
    ])) in
    sum_by-cons f x xs ∙ omega (arith, split, sum_add own rest range, sum_one f x 0 n (omega arith) (omega (arith, low.0)), once_sum n f xs once.1 low.1)
  where
    nothing : (k : ℕ) → 0 + k ≡ k
    nothing k = omega arith

    both : (v : ℕ) → v ≡ x → cond (eqb v x || among xs v) (f v) 0 ≡ cond (eqb v x) (f v) 0 + cond (among xs v) (f v) 0
    both v e =
        let is : eqb v x ≡ true = eq-eqb v x e in
        let none : among xs v ≡ false = ap (among xs) e ∙ not_among x xs once.0 in
        ap (λ b. cond (b || among xs v) (f v) 0) is ∙ sym (ap (λ b. cond b (f v) 0 + cond (among xs v) (f v) 0) is ∙ ap (λ b. f v + cond b (f v) 0) none ∙ more (f v))
      where
        more : (k : ℕ) → k + 0 ≡ k
        more k = omega arith

pub once_at_most : (n : ℕ) (f : ℕ → ℕ) (xs : List ℕ) → EachOnce xs → Each (λ x. x < n) xs → sum_by f xs ≤ sum_by f (range_with_len 0 n)
once_at_most n f xs once low =
    let e = once_sum n f xs once low in
    let le = sum_le (λ v. cond (among xs v) (f v) 0) f (range_with_len 0 n) (each_any (λ v. cond (among xs v) (f v) 0 ≤ f v) (range_with_len 0 n) (λ v. part (among xs v) (f v))) in
    omega arith
  where
    part : (b : Bool) (k : ℕ) → cond b k 0 ≤ k
    part true k = omega arith
    part false k = omega arith
