-- Which units a block belongs to.
use Rattle.std.proofs.Common.{◌≡◌, ℕ, zero, suc, ◌+◌, ◌-◌, ◌<◌, ◌≤◌, Bool, true, false, ◌||◌, ◌&&◌, ◌==◌, List, length, filter, refl, sym, ap, ◌∙◌, inl, inr, arith, ne_eqb, eq-eqb, sum_by}
use Rattle.std.proofs.lemmas.Bool.{cases_eq, eqb-true}
use Rattle.std.proofs.lemmas.Map.Views.{any-filter_same}
use Rattle.std.specs.List.{range_with_len}
use Rattle.tda_model.specs.Spine.{Spine, level_of, is_at, is_over, units_at, unit_numbers, blocks_of, nation_of, IsUnit, IsTree}
use Rattle.tda_model.proofs.Sums.{sum_same, each_filter, each_any, range_ascends, filter_ascends}
use Rattle.tda_model.proofs.Tree.{up, over_is, up_is}
use Rattle.tda_schema.specs.Parts.{holds}
use Rattle.tda_hist.proofs.CountLemmas.{one_if, turned, once_among}

-- a filter holds what it keeps of the list
pub holds_kept : (p : ℕ → Bool) (y : ℕ) (xs : List ℕ) → holds (filter p xs) y ≡ (p y && holds xs y)
holds_kept p y xs = any-filter_same (λ x. x == y) p (p y) (λ x is. ap p (eqb-true x y is)) xs

pub holds_range : (a n y : ℕ) → a ≤ y → y < a + n → holds (range_with_len a n) y ≡ true
holds_range a zero y low high = absurd (omega arith)
holds_range a (suc n) y low high = elim (cases_eq a y) [
  | inl e ↦ ap (λ b. b || holds (range_with_len (a + 1) n) y) (eq-eqb a y e)
  | inr other ↦ ap (λ b. b || holds (range_with_len (a + 1) n) y) (ne_eqb a y other) ∙ holds_range (a + 1) n y (omega arith) (omega arith)
]

module _ (sp : Spine) (t : IsTree sp (nation_of sp)) where
  -- a block is one of a unit's where the unit is over it
  pub holds_over : (u b : ℕ) → IsUnit sp b → level_of sp b ≡ sp.depth - 1 → holds (blocks_of sp u) b ≡ is_over sp u b sp.depth
  holds_over u b here at =
      holds_kept (λ v. is_over sp u v sp.depth) b (units_at sp (sp.depth - 1))
      ∙ ap (λ h. is_over sp u b sp.depth && h) (holds_kept (is_at sp (sp.depth - 1)) b (unit_numbers sp)
      ∙ ap (λ h. h && holds (unit_numbers sp) b) (eq-eqb (level_of sp b) (sp.depth - 1) at) ∙ holds_range 0 (length sp.units) b (omega arith) (omega (arith, here)))
      ∙ and_true (is_over sp u b sp.depth)
    where
      and_true : (h : Bool) → (h && true) ≡ h
      and_true true = refl
      and_true false = refl

  -- the unit of a level over a block
  abbrev pub unit_over : ℕ → ℕ → ℕ
  unit_over level b = up sp b (sp.depth - 1 - level)

  module _ (b level : ℕ) (here : IsUnit sp b) (at : level_of sp b ≡ sp.depth - 1) (within : level < sp.depth) where
    pub is_over_there : (u : ℕ) → level_of sp u ≡ level → is_over sp u b sp.depth ≡ (u == unit_over level b)
    is_over_there u at_u =
        over_is sp (nation_of sp) t u b (sp.depth - 1 - level) sp.depth here (omega arith) (omega arith)

    pub lives_there : (u : ℕ) → level_of sp u ≡ level → holds (blocks_of sp u) b ≡ (u == unit_over level b)
    lives_there u at_u = holds_over u b here at ∙ is_over_there u at_u

    pub unit_there : IsUnit sp (unit_over level b)
    unit_there = (up_is sp (nation_of sp) t b (sp.depth - 1 - level) level here (omega arith)).0

    -- the level has it
    pub among_there : holds (units_at sp level) (unit_over level b) ≡ true
    among_there =
        let a = unit_over level b in
        let is = up_is sp (nation_of sp) t b (sp.depth - 1 - level) level here (omega arith) in
        holds_kept (is_at sp level) a (unit_numbers sp) ∙ ap (λ h. h && holds (unit_numbers sp) a) (eq-eqb (level_of sp a) level is.1) ∙ holds_range 0 (length sp.units) a (omega arith) (omega (arith, is.0))

    -- and no other is over the block
    pub one_there : sum_by (λ u. one_if (holds (blocks_of sp u) b)) (units_at sp level) ≡ 1
    one_there =
        let a = unit_over level b in
        let all = range_with_len 0 (length sp.units) in
        sum_same (λ u. one_if (holds (blocks_of sp u) b)) (λ u. one_if (a == u)) (units_at sp level)
        (each_filter _ (is_at sp level) all (each_any _ all (λ u is. ap one_if (lives_there u (eqb-true (level_of sp u) level is) ∙ turned u a))))
        ∙ once_among (units_at sp level) a (filter_ascends (is_at sp level) all (range_ascends 0 (length sp.units)))
        ∙ ap one_if among_there

  -- and each block is one of the nation's
  pub lives_in_nation : (b : ℕ) → IsUnit sp b → level_of sp b ≡ sp.depth - 1 → holds (blocks_of sp (nation_of sp)) b ≡ true
  lives_in_nation b here at =
      let deep : 0 < sp.depth = omega (arith, t.deep) in
      let is = up_is sp (nation_of sp) t b (sp.depth - 1 - 0) 0 here (omega arith) in
      lives_there b 0 here at deep (nation_of sp) t.root_level
      ∙ eq-eqb (nation_of sp) (unit_over 0 b) (sym (t.root_alone (unit_over 0 b) is.0 is.1))
