-- The shares of the states are quotas of the nation's children, and give out all persons of each kind.
use Rattle.std.proofs.Common.{◌≡◌, ℕ, ◌+◌, ◌*◌, ◌<◌, ◌≤◌, Bool, cond, List, [], ◌∷◌, length, slice_index, filter, refl, sym, ap, ◌∙◌, subst, inl, inr, arith, eq-eqb, ne_eqb}
use Rattle.std.proofs.lemmas.Bool.{cases_Bool}
use Rattle.tda_model.specs.Schema.{Schema}
use Rattle.tda_model.specs.Groups.{kind_count}
use Rattle.tda_model.specs.Spine.{Spine, nation_of, is_at, is_child, children_of, units_at, unit_numbers, IsUnit, IsTree}
use Rattle.tda_model.specs.Tables.{Table, Published, kind_sum}
use Rattle.tda_model.specs.Bounds.{low, high}
use Rattle.tda_model.proofs.Sums.{Each, each_range, sum_by_index}
use Rattle.tda_model.proofs.Tree.{child_tells}
use Rattle.tda_fitnet.specs.Fits.{AreListedShares}
use Rattle.tda_fitnet.specs.Giving.{AreQuotas}
use Rattle.tda_fitnet.proofs.Ranges.{below, below_same}
use Rattle.tda_fitnet.proofs.NationShares.{child_at_one, state_parent, child_test}

same_filter : (p q : ℕ → Bool) (xs : List ℕ) → Each (λ v. p v ≡ q v) xs → filter p xs ≡ filter q xs
same_filter p q [] h = refl
same_filter p q (x ∷ xs) (e, h) = ap (λ b. cond b (x ∷ filter p xs) (filter p xs)) e ∙ ap (λ ys. cond (q x) (x ∷ ys) ys) (same_filter p q xs h)

module _ (sp : Spine) (tree : IsTree sp (nation_of sp)) where
  -- the states are the nation's children, in the same order
  pub states_are_children : units_at sp 1 ≡ children_of sp (nation_of sp)
  states_are_children =
      same_filter (is_at sp 1) (is_child sp (nation_of sp)) (unit_numbers sp) (each_range _ 0 (length sp.units) (λ v from to. one v (omega arith)))
    where
      one : (v : ℕ) → IsUnit sp v → is_at sp 1 v ≡ is_child sp (nation_of sp) v
      one v here = elim (cases_Bool (is_child sp (nation_of sp) v)) [
        | inl child ↦ eq-eqb _ _ (child_at_one sp tree v (child_tells sp (nation_of sp) tree (nation_of sp) v here child)) ∙ sym child
        | inr other ↦ ne_eqb _ _ (λ e. let child = child_test sp tree v (state_parent sp tree v here e) in absurd cc) ∙ sym other
      ]

  module _ (s : Schema) (known : Published) (x : Table) (list : List ℕ) (h : AreListedShares s sp known x list) where
    abbrev children : List ℕ
    children = children_of sp (nation_of sp)

    abbrev pub share_quota : ℕ → ℕ → ℕ
    share_quota u k = slice_index list (u * kind_count s + k)

    count : length (units_at sp 1) ≡ length children
    count = ap length states_are_children

    share_is : (u k : ℕ) → u < length children → k < kind_count s → share_quota u k ≡ h.shares (slice_index (units_at sp 1) u) k
    share_is u k l lk = h.at u k (omega (arith, count)) lk

    pub shares_size : length list ≡ length (children_of sp (nation_of sp)) * kind_count s
    shares_size = h.size ∙ ap (λ n. n * kind_count s) count

    pub nation_quotas : AreQuotas s sp known (nation_of sp) share_quota
    nation_quotas = record {
      enough = λ u k l lk. subst (λ ys. low sp known (slice_index ys u) k ≤ share_quota u k) states_are_children
          (subst (λ n. low sp known (slice_index (units_at sp 1) u) k ≤ n) (sym (share_is u k l lk)) (h.are.enough u k (omega (arith, count)) lk));
      not_more = λ u k l lk. subst (λ ys. share_quota u k ≤ high sp known (slice_index ys u) k) states_are_children
          (subst (λ n. n ≤ high sp known (slice_index (units_at sp 1) u) k) (sym (share_is u k l lk)) (h.are.not_more u k (omega (arith, count)) lk));
      totals = λ u l d.
          below_same (kind_count s) (share_quota u) (h.shares (slice_index (units_at sp 1) u)) (λ k lk. share_is u k l lk)
          ∙ h.are.totals u (omega (arith, count)) ∙ ap (λ ys. known.total (slice_index ys u)) states_are_children;
    }

    pub nation_add : (k : ℕ) → k < kind_count s → below (length (children_of sp (nation_of sp))) (λ u. share_quota u k) ≡ kind_sum s k x
    nation_add k lk =
        below_same (length children) (λ u. share_quota u k) (λ u. h.shares (slice_index (units_at sp 1) u) k) (λ u l. share_is u k l lk)
        ∙ ap (λ n. below n (λ u. h.shares (slice_index (units_at sp 1) u) k)) (sym count)
        ∙ sym (sum_by_index (λ st. h.shares st k) (units_at sp 1) 0)
        ∙ h.are.kinds k lk

    -- the same at a unit that is the nation
    pub quotas_at : (p : ℕ) → p ≡ nation_of sp → AreQuotas s sp known p (λ u k. slice_index list (u * kind_count s + k))
    quotas_at p e = subst (λ q. AreQuotas s sp known q share_quota) (sym e) nation_quotas

    pub add_at : (p : ℕ) → p ≡ nation_of sp → (k : ℕ) → k < kind_count s → below (length (children_of sp p)) (λ u. slice_index list (u * kind_count s + k)) ≡ kind_sum s k x
    add_at p e k l = ap (λ q. below (length (children_of sp q)) (λ u. share_quota u k)) e ∙ nation_add k l

    pub size_at : (p : ℕ) → p ≡ nation_of sp → length list ≡ length (children_of sp p) * kind_count s
    size_at p e = shares_size ∙ ap (λ q. length (children_of sp q) * kind_count s) (sym e)
