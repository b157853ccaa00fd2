-- Where the splits begin, as they are noted while the fits are read.
use Rattle.std.proofs.Common.{◌≡◌, ℕ, zero, suc, ◌+◌, ◌<◌, ◌≤◌, cond, false, List, [], ◌∷◌, length, get_or, set, drop, map, All, Option, Some, None, refl, sym, ap, ◌∙◌, subst, inl, inr, arith, length-append}
use Rattle.std.specs.List.{AllByRecursion, flat_map}
use Rattle.std.proofs.lemmas.Bool.{cases_eq}
use Rattle.std.proofs.lemmas.List.{get_or-map, get_or_default, get_or-set_same, get_or-set_other, length-map}
use Rattle.tda_model.specs.Schema.{Schema}
use Rattle.tda_model.specs.Spine.{Spine, nation_of, parents_of, IsTree}
use Rattle.tda_spine.specs.Judged.{fits_of}
use Rattle.tda_prices.specs.Items.{items_of, price_count}
use Rattle.tda_prices.specs.Kept.{BeginsThere}
use Rattle.tda_prices.specs.Priced.{same_fit, prices_before}
use Rattle.tda_prices.specs.PricesText.{fit_field, item_fields, fit_places, places_of}
use Rattle.tda_model.proofs.FitOrder.{EachOnce, parents_once}
use Rattle.tda_out.proofs.Once.{once_at}
use Rattle.tda_prices.proofs.PricedBack.{AreApart, fits_apart, own_fit}

abbrev Each : {X : Type 0} → (X → Type 0) → List X → Type 0
Each P xs = AllByRecursion P xs

-- the splits at the first units begin where they should
abbrev pub BeginTo : Schema → Spine → List ℕ → List ℕ → ℕ → Type 0
BeginTo s sp starts units k = (i : ℕ) → i < k → get_or starts (get_or units i 0) 0 ≡ prices_before s sp (Some (get_or units i 0)) (fits_of sp)

each_at : {X : Type 0} (P : X → Type 0) (xs : List X) (d : X) → Each P xs → (k : ℕ) → k < length xs → P (get_or xs k d)
each_at P [] d h k l = absurd (omega arith)
each_at P (x ∷ xs) d h zero l = h.0
each_at P (x ∷ xs) d h (suc k) l = each_at P xs d h.1 k (omega arith)

module _ (s : Schema) (sp : Spine) where
  size_of : (fit : Option ℕ) → length (fit_places s sp fit) ≡ price_count s sp fit
  size_of fit = length-map (items_of s sp fit) (λ item. fit_field sp fit ∷ item_fields sp item)

  -- what stands before a fit, and what stands from it on, is all
  sum_is : (fs : List (Option ℕ)) → AreApart same_fit fs → (n : ℕ) → n < length fs
      → prices_before s sp (get_or fs n None) fs + length (flat_map (fit_places s sp) (drop n fs)) ≡ length (flat_map (fit_places s sp) fs)
  sum_is [] apart n l = absurd (omega arith)
  sum_is (f ∷ fs) apart zero l =
      let own : cond (same_fit f f) 0 (price_count s sp f + prices_before s sp f fs) ≡ 0 = ap (λ b. cond b 0 (price_count s sp f + prices_before s sp f fs)) (own_fit f) in
      omega (arith, own)
  sum_is (f ∷ fs) apart (suc n) l =
      let g : Option ℕ = get_or fs n None in
      let other : cond (same_fit f g) 0 (price_count s sp f + prices_before s sp g fs) ≡ price_count s sp f + prices_before s sp g fs =
      ap (λ b. cond b 0 (price_count s sp f + prices_before s sp g fs)) (each_at (λ y. same_fit f y ≡ false) fs None apart.0 n (omega arith)) in
      omega (arith, other, sum_is fs apart.1 n (omega arith), length-append (fit_places s sp f) (flat_map (fit_places s sp) fs), size_of f)

  drop_map : (k : ℕ) (ps : List ℕ) → drop (suc k) (None ∷ map Some ps) ≡ map Some (drop k ps)
  drop_map zero ps = refl
  drop_map (suc k) [] = refl
  drop_map (suc k) (p ∷ ps) = drop_map k ps

  module _ (t : IsTree sp (nation_of sp)) (units : List ℕ) (are : units ≡ parents_of sp) where
    -- so as many prices were read as stand before the split that is read next
    pub begins_here : (k : ℕ) → k < length units → (read : ℕ) → read + length (flat_map (fit_places s sp) (map Some (drop k units))) ≡ length (places_of s sp)
        → read ≡ prices_before s sp (Some (get_or units k 0)) (fits_of sp)
    begins_here k below read size =
        let here : k < length (parents_of sp) = rw are at below in
        let low : suc k < length (fits_of sp) = omega (arith, here, length-map (parents_of sp) (λ (q : ℕ). Some q)) in
        let sum = sum_is (fits_of sp) (fits_apart s sp t) (suc k) low in
        let fit : get_or (fits_of sp) (suc k) None ≡ Some (get_or units k 0) = get_or-map Some (parents_of sp) k 0 None here ∙ ap (λ ps. Some (get_or ps k 0)) (sym are) in
        let left : drop (suc k) (fits_of sp) ≡ map Some (drop k units) = drop_map k (parents_of sp) ∙ ap (λ ps. map Some (drop k ps)) (sym are) in
        let first : prices_before s sp (Some (get_or units k 0)) (fits_of sp) + length (flat_map (fit_places s sp) (drop (suc k) (fits_of sp))) ≡ length (places_of s sp) =
        subst (λ f. prices_before s sp f (fits_of sp) + length (flat_map (fit_places s sp) (drop (suc k) (fits_of sp))) ≡ length (places_of s sp)) fit sum in
        let both : prices_before s sp (Some (get_or units k 0)) (fits_of sp) + length (flat_map (fit_places s sp) (map Some (drop k units))) ≡ length (places_of s sp) =
        subst (λ ds. prices_before s sp (Some (get_or units k 0)) (fits_of sp) + length (flat_map (fit_places s sp) ds) ≡ length (places_of s sp)) left first in
        omega (arith, both, size)

    pub one_more : (starts : List ℕ) (k read : ℕ) → k < length units → get_or units k 0 < length starts → BeginTo s sp starts units k
        → read ≡ prices_before s sp (Some (get_or units k 0)) (fits_of sp) → BeginTo s sp (set starts (get_or units k 0) read) units (k + 1)
    one_more starts k read below here h is i less = elim (cases_eq i k) [
      | inl e ↦
          let same : get_or units i 0 ≡ get_or units k 0 = ap (λ n. get_or units n 0) e in
          ap (λ u. get_or (set starts (get_or units k 0) read) u 0) same ∙ get_or-set_same starts (get_or units k 0) read 0 here ∙ is
          ∙ ap (λ u. prices_before s sp (Some u) (fits_of sp)) (sym same)
      | inr ne ↦
          let once : EachOnce units = rw are (parents_once sp t) in
          get_or-set_other starts (get_or units k 0) (get_or units i 0) read 0 (once_at units once i k (omega arith) below)
          ∙ h i (omega arith)
    ]

    pub all_begin : (starts : List ℕ) (k : ℕ) → length units ≤ k → BeginTo s sp starts units k → All (BeginsThere s sp starts) (parents_of sp)
    all_begin starts k past h =
        subst (All (BeginsThere s sp starts)) are (λ i d below. subst (BeginsThere s sp starts) (get_or_default units i 0 d below) (h i (omega arith)))
