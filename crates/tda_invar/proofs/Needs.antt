-- What facilities need, from the blocks up to the nation.
use Rattle.std.proofs.Common.{◌≡◌, ℕ, zero, suc, ◌+◌, ◌*◌, ◌<◌, ◌≤◌, min, true, cond, eqb, refl, sym, ap, ◌∙◌, subst, inl, inr, arith, eq-eqb, length}
use Rattle.std.proofs.lemmas.Bool.{cases_Bool}
use Rattle.std.specs.List.{sum_by, range_with_len}
use Rattle.std.proofs.lemmas.List.Elements.{recursion_from_All}
use Rattle.tda_model.specs.Schema.{Schema}
use Rattle.tda_model.specs.Groups.{kind_count}
use Rattle.tda_model.specs.Spine.{Spine, level_of, is_child, is_at, children_of, blocks_of, states_of, units_at, unit_numbers, IsUnit, HasParent, IsTree}
use Rattle.tda_model.specs.Tables.{Table, Published, persons_in, Attainable}
use Rattle.tda_model.specs.Bounds.{persons_limit, low, high, needed, MostHolds, TotalsSuffice}
use Rattle.tda_model.proofs.Sums.{sum_same, sum_le, sum_zero, sum_swap, sum_filter, each_any, each_filter, each_range, each_le_sum, filter_each, range_each}
use Rattle.tda_model.proofs.Tree.{child_tells, under_each, under_up, over_itself, blocks_split}
use Rattle.tda_model.proofs.Attain.{persons_add}
use Rattle.tda_spine.proofs.Lookups.{child_yes}

module _ (sp : Spine) (nation : ℕ) (t : IsTree sp nation) where
  -- a term of a child is within the sum over the children
  within_children : (f : ℕ → ℕ) (c u : ℕ) → IsUnit sp c → HasParent sp c u → f c ≤ sum_by f (children_of sp u)
  within_children f c u here up =
      let all = sum_by f (children_of sp u) in
      range_each _ 0 (length sp.units) (filter_each (λ v. f v ≤ all) (is_child sp u) (unit_numbers sp) (each_le_sum f (children_of sp u)))
      c (omega arith) (omega (arith, here)) (child_yes sp c u up.named)

  -- the nation's children are states
  child_is_state : (u : ℕ) → IsUnit sp u → is_child sp nation u ≡ true → (HasParent sp u nation) × (level_of sp u ≡ 1)
  child_is_state u here is =
      let up = child_tells sp nation t nation u here is in
      let above : level_of sp u ≡ level_of sp nation + 1 = up.above in
      (up, omega (arith, above, t.root_level))

  states_sum : (f g : ℕ → ℕ) → ((u : ℕ) → IsUnit sp u → level_of sp u ≡ 1 → f u ≤ g u) → sum_by f (children_of sp nation) ≤ sum_by g (units_at sp 1)
  states_sum f g h =
      let F : ℕ → ℕ = λ u. cond (is_child sp nation u) (f u) 0 in
      let G : ℕ → ℕ = λ u. cond (is_at sp 1 u) (g u) 0 in
      let among : sum_by f (children_of sp nation) ≡ sum_by F (unit_numbers sp) = sum_filter f (is_child sp nation) (unit_numbers sp) in
      let states : sum_by g (units_at sp 1) ≡ sum_by G (unit_numbers sp) = sum_filter g (is_at sp 1) (unit_numbers sp) in
      let le : sum_by F (unit_numbers sp) ≤ sum_by G (unit_numbers sp) = sum_le F G (unit_numbers sp) (each_range (λ u. F u ≤ G u) 0 (length sp.units) (λ u from to. one u (omega arith))) in
      omega arith
    where
      one : (u : ℕ) → IsUnit sp u → cond (is_child sp nation u) (f u) 0 ≤ cond (is_at sp 1 u) (g u) 0
      one u here = elim (cases_Bool (is_child sp nation u)) [
        | inl is ↦
            let state = (child_is_state u here is).1 in
            let at : is_at sp 1 u ≡ true = eq-eqb (level_of sp u) 1 state in
            rw (is, at) (h u here state)
        | inr other ↦ rw other (omega arith)
      ]

  module _ (p : Published) where
    -- the least persons of a unit with children are those of its children together
    pub low_split : (u k : ℕ) → IsUnit sp u → level_of sp u + 1 < sp.depth → low sp p u k ≡ sum_by (λ c. low sp p c k) (children_of sp u)
    low_split u zero here above = sym (sum_zero (children_of sp u))
    low_split u (suc k) here above = blocks_split sp nation t (λ b. p.facilities b (suc k)) u here above

    module _ (s : Schema) where
      abbrev need : ℕ → ℕ
      need = needed s sp p

      need_split : (u : ℕ) → IsUnit sp u → level_of sp u + 1 < sp.depth → need u ≡ sum_by need (children_of sp u)
      need_split u here above =
          let kinds = range_with_len 0 (kind_count s) in
          sum_same (low sp p u) (λ k. sum_by (λ c. low sp p c k) (children_of sp u)) kinds (each_any _ kinds (λ k. low_split u k here above))
          ∙ sum_swap (λ k c. low sp p c k) kinds (children_of sp u)

      -- a unit needs at most what the unit above it does, and so at most what the nation does
      need_up : (c u : ℕ) → IsUnit sp c → HasParent sp c u → need c ≤ need u
      need_up c u here up =
          let within : level_of sp c < sp.depth = t.within c here in
          let above : level_of sp c ≡ level_of sp u + 1 = up.above in
          let split = need_split u up.here (omega arith) in
          let le = within_children need c u here up in
          omega (arith, split, le)

      need_of_nation : (level u : ℕ) → IsUnit sp u → level_of sp u ≡ level → need u ≤ need nation
      need_of_nation zero u here at =
          let same : u ≡ nation = t.root_alone u here at in
          subst (λ v. need v ≤ need nation) (sym same) (own (need nation))
        where
          own : (n : ℕ) → n ≤ n
          own n = omega arith
      need_of_nation (suc level) u here at =
          let up = t.parent u here (omega arith) in
          let above : level_of sp u ≡ level_of sp up.0 + 1 = up.1.above in
          let step = need_up u up.0 here up.1 in
          let rest = need_of_nation level up.0 up.1.here (omega arith) in
          omega (arith, step, rest)

      low_le_need : (u k : ℕ) → k < kind_count s → low sp p u k ≤ need u
      low_le_need u k l = range_each (λ i. low sp p u i ≤ need u) 0 (kind_count s) (each_le_sum (low sp p u) (range_with_len 0 (kind_count s))) k (omega arith) (omega arith)

      module _ (suffice : TotalsSuffice s sp p) (few : sum_by p.total (units_at sp 1) ≤ persons_limit) where
        nation_needs : need nation ≤ persons_limit
        nation_needs =
            let split = need_split nation t.root (omega (arith, t.root_level, t.deep)) in
            let le = states_sum need p.total suffice.enough in
            omega (arith, split, le)

        -- no unit needs more persons than there may be
        pub need_small : (u : ℕ) → IsUnit sp u → need u ≤ persons_limit
        need_small u here =
            let le = need_of_nation (level_of sp u) u here refl in
            let nation_le = nation_needs in
            omega (arith, le, nation_le)

        pub low_small : (u k : ℕ) → IsUnit sp u → k < kind_count s → low sp p u k ≤ persons_limit
        low_small u k here l =
            let le = low_le_need u k l in
            let small = need_small u here in
            omega (arith, le, small)

        pub low_le_high : MostHolds p → (u k : ℕ) → IsUnit sp u → k < kind_count s → low sp p u k ≤ high sp p u k
        low_le_high m u zero here l = omega arith
        low_le_high m u (suc k) here l =
            both _ _ _ (low_small u (suc k) here l)
            (sum_le (λ b. p.facilities b (suc k)) (λ b. p.most b (suc k)) (blocks_of sp u) (each_any _ (blocks_of sp u) (λ b. m.holds b (suc k) (omega arith))))
          where
            both : (a b c : ℕ) → a ≤ b → a ≤ c → a ≤ min b c
            both a b c h g = omega arith

    pub high_small : (u k : ℕ) → high sp p u k ≤ persons_limit
    high_small u zero = omega arith
    high_small u (suc k) = first _ _
      where
        first : (a b : ℕ) → min a b ≤ a
        first a b = omega arith

    -- a table that the nation can have counts the persons of all states
    pub nation_persons_few : (s : Schema) → sum_by p.total (units_at sp 1) ≤ persons_limit → (x : Table) → Attainable s sp p nation x → persons_in s x ≤ persons_limit
    nation_persons_few s few x (ts, h) =
        let counts : ℕ → ℕ = λ b. persons_in s (ts b) in
        let of_unit : ℕ → ℕ = λ u. sum_by counts (blocks_of sp u) in
        let Total : ℕ → Type 0 = λ st. of_unit st ≡ p.total st in
        let totals = recursion_from_All Total (states_of sp nation) h.totals in
        let all : persons_in s x ≡ of_unit nation = persons_add s (blocks_of sp nation) ts x h.adds in
        let split : of_unit nation ≡ sum_by of_unit (children_of sp nation) = blocks_split sp nation t counts nation t.root (omega (arith, t.root_level, t.deep)) in
        let same : sum_by of_unit (children_of sp nation) ≡ sum_by p.total (children_of sp nation) =
        sum_same of_unit p.total (children_of sp nation) (each_filter Total (is_child sp nation) (unit_numbers sp) (each_range _ 0 (length sp.units) (λ u from to is.
        let here : IsUnit sp u = omega arith in
        let state = child_is_state u here is in
        under_each sp nation t Total 1 nation totals u
        (under_up sp nation t 1 nation u u t.root here state.0 (record { here = here; at = state.1; over = over_itself sp nation t u here }))))) in
        let le = states_sum p.total p.total (λ u here at. own (p.total u)) in
        omega (arith, all, split, same, le)
      where
        own : (n : ℕ) → n ≤ n
        own n = omega arith
