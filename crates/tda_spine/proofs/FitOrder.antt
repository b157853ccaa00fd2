-- The units in fit order are those above the last level, each once and after its parent.
use Rattle.std.proofs.Common.{◌≡◌, ◌≢◌, ℕ, ◌+◌, ◌<◌, List, ◌∷◌, [], length, get_or, slice_get, take, All, Contains, ◌↔◌, Some, sym, ap, ◌∙◌, subst, arith}
use Rattle.std.specs.List.{AllPairs}
use Rattle.std.proofs.lemmas.List.{get_or-take, length-take}
use Rattle.std.proofs.lemmas.List.Elements.{All-from_recursion, All-get_or, Contains-get_or}
use Rattle.tda_model.specs.Spine.{Spine, parent_of, nation_of, parents_of, IsUnit, IsTree}
use Rattle.tda_model.proofs.FitOrder as order
use Rattle.tda_model.proofs.Sums.{Each}
use Rattle.tda_spine.specs.Sound.{IsInner, FollowParents}
use Rattle.tda_spine.proofs.Lookups.{parent_tells}

module _ (sp : Spine) (t : IsTree sp (nation_of sp)) where
  -- each unit in fit order stands above the last level
  pub parents_inner : Each (IsInner sp) (parents_of sp)
  parents_inner = order.parents_each sp t (IsInner sp) (λ p here above. record { here = here; above = above })

  -- and each unit above the last level stands there
  pub each_inner : (P : ℕ → Type 0) → Each P (parents_of sp) → (u : ℕ) → IsInner sp u → P u
  each_inner P all u inner = order.each_inner sp t P all u inner.here inner.above

  pub parents_exact : (u : ℕ) → Contains (parents_of sp) u ↔ IsInner sp u
  parents_exact u = (
    λ found. let is = order.parents_are sp t u found in record { here = is.0; above = is.1 },
    λ inner. order.parents_have sp t u inner.here inner.above,
  )

  pub parents_distinct : AllPairs (λ u v. u ≢ v) (parents_of sp)
  parents_distinct = order.once_pairs (parents_of sp) (order.parents_once sp t)

  pub nation_leads : slice_get (parents_of sp) 0 ≡ Some (nation_of sp)
  nation_leads = let first = order.nation_first sp t in ap (λ us. slice_get us 0) first.1

  pub parents_follow : FollowParents sp (parents_of sp)
  parents_follow k p low named =
      let inner = All-get_or (IsInner sp) (parents_of sp) k 0 low (All-from_recursion (IsInner sp) (parents_of sp) parents_inner) in
      let found = order.parent_before sp t k low p (parent_tells sp (get_or (parents_of sp) k 0) (nation_of sp) p t inner.here named) in
      let less = found.1 in
      subst (Contains (take k (parents_of sp))) (get_or-take k (parents_of sp) found.0 0 less ∙ found.2) (Contains-get_or (take k (parents_of sp)) found.0 0 (omega (arith, length-take k (parents_of sp), less, low)))
