-- Tables of the children of a unit put beside those that were there: what earlier fits say stays.
use Rattle.std.proofs.Common.{◌≡◌, ◌≢◌, ℕ, ◌+◌, ◌<◌, ◌≤◌, ◌⊎◌, inl, inr, Bool, true, false, cond, ◌==◌, Option, Some, None, length, get_or, refl, sym, ap, ◌∙◌, subst, arith, ne_eqb, eq-eqb}
use Rattle.std.proofs.lemmas.Bool.{cases_eq, eqb-true}
use Rattle.tda_model.specs.Spine.{Spine, level_of, is_child, children_of, unit_numbers, parent_of, nation_of, parents_of, IsUnit, IsTree}
use Rattle.tda_model.specs.Tables.{Tables}
use Rattle.tda_model.proofs.Sums.{each_filter, each_any}
use Rattle.std.proofs.lemmas.List.Elements.{All-from_recursion, All-get_or}
use Rattle.tda_model.proofs.FitOrder.{once_pairs, parents_once, parents_each, parent_before}
use Rattle.tda_descent.proofs.Family.{AreSame}

-- the tables of the children of p, and else those before
abbrev pub with_children : Spine → ℕ → Tables → Tables → Tables
with_children sp p added x = λ u. cond (is_child sp p u) (added u) (x u)

-- whose child a unit is follows from its parent
child_of : (sp : Spine) (p u : ℕ) (o : Option ℕ) → parent_of sp u ≡ o → is_child sp p u ≡ elim o as (λ _. Bool) [ Some q ↦ p == q | None ↦ false ]
child_of sp p u o e = ap (λ r. elim r as (λ _. Bool) [ Some q ↦ p == q | None ↦ false ]) e

parent_is : (sp : Spine) (q u : ℕ) → is_child sp q u ≡ true → parent_of sp u ≡ Some q
parent_is sp q u is = by (parent_of sp u) is
  where
    by : (o : Option ℕ) → elim o as (λ _. Bool) [ Some r ↦ q == r | None ↦ false ] ≡ true → o ≡ Some q
    by (Some r) h = ap Some (sym (eqb-true q r h))
    by None h = cc

named_child : (sp : Spine) (p u : ℕ) → parent_of sp u ≡ Some p → is_child sp p u ≡ true
named_child sp p u e = child_of sp p u (Some p) e ∙ eq-eqb p p refl

pub not_of_another : (sp : Spine) (p q u : ℕ) → p ≢ q → is_child sp q u ≡ true → is_child sp p u ≡ false
not_of_another sp p q u other is = child_of sp p u (Some q) (parent_is sp q u is) ∙ ne_eqb p q other

pub added_here : (sp : Spine) (p : ℕ) (added x : Tables) → AreSame (children_of sp p) (with_children sp p added x) added
added_here sp p added x = each_filter _ (is_child sp p) (unit_numbers sp) (each_any (λ u. is_child sp p u ≡ true → with_children sp p added x u ≡ added u) (unit_numbers sp) (λ u is. ap (λ b. cond b (added u) (x u)) is))

pub kept_there : (sp : Spine) (p u : ℕ) (added x : Tables) → is_child sp p u ≡ false → with_children sp p added x u ≡ x u
kept_there sp p u added x is = ap (λ b. cond b (added u) (x u)) is

pub kept_children : (sp : Spine) (p q : ℕ) (added x : Tables) → p ≢ q → AreSame (children_of sp q) (with_children sp p added x) x
kept_children sp p q added x other =
    each_filter _ (is_child sp q) (unit_numbers sp) (each_any (λ u. is_child sp q u ≡ true → with_children sp p added x u ≡ x u) (unit_numbers sp)
    (λ u is. kept_there sp p u added x (not_of_another sp p q u other is)))

-- the unit's table is there after the fits of the first k units with children: it is the nation, or a child of one of these
abbrev pub IsReached : Spine → ℕ → ℕ → Type 0
IsReached sp k u = (u ≡ nation_of sp) ⊎ ((j : ℕ) × (j < k) × (is_child sp (get_or (parents_of sp) j 0) u ≡ true))

module _ (sp : Spine) (t : IsTree sp (nation_of sp)) where
  pub nation_no_child : (p : ℕ) → is_child sp p (nation_of sp) ≡ false
  nation_no_child p = child_of sp p (nation_of sp) None t.root_parent

  apart : (j k : ℕ) → j < k → k < length (parents_of sp) → get_or (parents_of sp) k 0 ≢ get_or (parents_of sp) j 0
  apart j k less in_list same = once_pairs (parents_of sp) (parents_once sp t) j k 0 less in_list (sym same)

  pub reached_first : (u : ℕ) → IsReached sp 0 u → u ≡ nation_of sp
  reached_first u (inl e) = e
  reached_first u (inr below) = absurd (omega (arith, below.1))

  -- the next unit with children has its table
  pub reached_next : (k : ℕ) → k < length (parents_of sp) → IsReached sp k (get_or (parents_of sp) k 0)
  reached_next k less =
      let u = get_or (parents_of sp) k 0 in
      let here : IsUnit sp u = All-get_or (IsUnit sp) (parents_of sp) k 0 less (All-from_recursion (IsUnit sp) (parents_of sp) (parents_each sp t (IsUnit sp) (λ v is above. is))) in
      elim (cases_eq (level_of sp u) 0) [
        | inl top ↦ inl (t.root_alone u here top)
        | inr low ↦
            let p = t.parent u here (omega (arith, low)) in
            let before = parent_before sp t k less p.0 p.1 in
            inr (before.0, before.1, subst (λ q. is_child sp q u ≡ true) (sym before.2) (named_child sp p.0 u p.1.named))
      ]

  -- what is reached one unit later was reached, or is a child of that one
  pub reached_more : (k u : ℕ) → IsReached sp (k + 1) u → IsReached sp k u ⊎ (is_child sp (get_or (parents_of sp) k 0) u ≡ true)
  reached_more k u (inl e) = inl (inl e)
  reached_more k u (inr below) =
      elim (cases_eq below.0 k) [
        | inl e ↦ inr (subst (λ j. is_child sp (get_or (parents_of sp) j 0) u ≡ true) e below.2)
        | inr other ↦ inl (inr (below.0, omega (arith, below.1, other), below.2))
      ]

  -- what is reached is no child of a unit that comes later
  pub not_reached : (k u : ℕ) → k < length (parents_of sp) → IsReached sp k u → is_child sp (get_or (parents_of sp) k 0) u ≡ false
  not_reached k u less (inl e) = ap (is_child sp (get_or (parents_of sp) k 0)) e ∙ nation_no_child (get_or (parents_of sp) k 0)
  not_reached k u less (inr below) =
      not_of_another sp (get_or (parents_of sp) k 0) (get_or (parents_of sp) below.0 0) u (apart below.0 k below.1 less) below.2

  -- what is reached stays so
  pub reached_later : (j k u : ℕ) → j ≤ k → IsReached sp j u → IsReached sp k u
  reached_later j k u le (inl e) = inl e
  reached_later j k u le (inr below) = inr (below.0, omega (arith, below.1), below.2)

  pub kept_earlier : (j k : ℕ) (added x : Tables) → j < k → k < length (parents_of sp)
      → AreSame (children_of sp (get_or (parents_of sp) j 0)) (with_children sp (get_or (parents_of sp) k 0) added x) x
      × (with_children sp (get_or (parents_of sp) k 0) added x (get_or (parents_of sp) j 0) ≡ x (get_or (parents_of sp) j 0))
  kept_earlier j k added x less in_list =
      let p = get_or (parents_of sp) k 0 in
      let q = get_or (parents_of sp) j 0 in (
        kept_children sp p q added x (apart j k less in_list),
        kept_there sp p q added x (not_reached k q in_list (reached_later j k q (omega arith) (reached_next j (omega arith)))),
      )
