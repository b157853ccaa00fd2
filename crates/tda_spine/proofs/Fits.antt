-- The fits in their order, judged one by one.
use Rattle.std.proofs.Common.{◌≡◌, ℕ, ◌+◌, ◌<◌, ◌≤◌, Bool, true, false, cond, List, length, get_or, map, Some, None, sym, ap, subst, ◌∙◌}
use Rattle.std.specs.List.{All, find}
use Rattle.std.specs.Option.{option_map}
use Rattle.std.proofs.lemmas.List.Elements.{All-from_recursion}
use Rattle.tda_model.specs.Schema.{Schema}
use Rattle.tda_model.specs.Sizes.{fit_size}
use Rattle.tda_model.specs.Spine.{Spine, IsTree, nation_of, parents_of}
use Rattle.tda_spine.specs.Judged.{is_too_large, first_large_fit}
use Rattle.tda_spine.specs.Sound.{IsInner}
use Rattle.tda_spine.proofs.Firsts.{FailsBefore, fails_here, passes_here, none_pass, find-map}
use Rattle.tda_spine.proofs.FitOrder.{parents_inner}

-- each unit of the list stands above the last level
pub inner_at : (sp : Spine) → IsTree sp (nation_of sp) → (ps : List ℕ) → ps ≡ parents_of sp → (k : ℕ) → k < length ps → IsInner sp (get_or ps k 0)
inner_at sp t ps e k below = subst (All (IsInner sp)) (sym e) (All-from_recursion (IsInner sp) (parents_of sp) (parents_inner sp t)) k 0 below

-- the fit of a unit's children is too large
abbrev pub is_large_split : Schema → Spine → ℕ → Bool
is_large_split s sp p = is_too_large (fit_size s sp (Some p))

module _ (s : Schema) (sp : Spine) (ps : List ℕ) (e : ps ≡ parents_of sp) (k : ℕ) (before : FailsBefore (is_large_split s sp) (parents_of sp) k) where
  pub small_here : k < length ps → is_large_split s sp (get_or ps k 0) ≡ false → FailsBefore (is_large_split s sp) (parents_of sp) (k + 1)
  small_here =
      let P : List ℕ → Type 0 = λ xs. k < length xs → is_large_split s sp (get_or xs k 0) ≡ false → FailsBefore (is_large_split s sp) (parents_of sp) (k + 1) in
      subst P (sym e) (fails_here (is_large_split s sp) (parents_of sp) k before 0)

  module _ (root : is_too_large (fit_size s sp None) ≡ false) where
    after_root : option_map Some (find (is_large_split s sp) (parents_of sp)) ≡ first_large_fit s sp
    after_root =
        sym (find-map Some (λ fit. is_too_large (fit_size s sp fit)) (parents_of sp))
        ∙ ap (λ b. cond b (Some None) (find (λ fit. is_too_large (fit_size s sp fit)) (map Some (parents_of sp)))) (sym root)

    pub large_here : k < length ps → is_large_split s sp (get_or ps k 0) ≡ true → Some (Some (get_or ps k 0)) ≡ first_large_fit s sp
    large_here =
        let P : List ℕ → Type 0 = λ xs. k < length xs → is_large_split s sp (get_or xs k 0) ≡ true → Some (Some (get_or xs k 0)) ≡ first_large_fit s sp in
        subst P (sym e) (λ below large. ap (option_map Some) (passes_here (is_large_split s sp) (parents_of sp) k before 0 below large) ∙ after_root)

    pub none_large : length ps ≤ k → None ≡ first_large_fit s sp
    none_large =
        let P : List ℕ → Type 0 = λ xs. length xs ≤ k → None ≡ first_large_fit s sp in
        subst P (sym e) (λ all. ap (option_map Some) (none_pass (is_large_split s sp) (parents_of sp) k before all) ∙ after_root)
