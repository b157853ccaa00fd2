-- Where the prices of a fit stand among those of all fits.
use Rattle.std.proofs.Common.{◌≡◌, ℕ, zero, suc, ◌+◌, ◌<◌, ◌≤◌, cond, false, List, [], ◌∷◌, length, get_or, Option, Some, None, ℤ, pos, refl, sym, ap, ◌∙◌, subst, arith, length-append}
use Rattle.std.specs.Prelude.{IfNone, IfSome, slice_index}
use Rattle.std.specs.List.{AllByRecursion, between, flat_map}
use Rattle.std.proofs.lemmas.List.{get_or-map, length-map, ext_get_or}
use Rattle.std.proofs.lemmas.List.Edits.{get_or-between, length-between}
use Rattle.std.proofs.lemmas.List.Elements.{recursion_from_All}
use Rattle.tda_model.specs.Schema.{Schema}
use Rattle.tda_model.specs.Spine.{Spine, nation_of, parents_of, IsTree}
use Rattle.tda_spine.specs.Judged.{fits_of}
use Rattle.tda_spine.specs.Sound.{IsInner}
use Rattle.tda_spine.proofs.FitOrder.{each_inner}
use Rattle.tda_prices.specs.Items.{OfKind, items_of, price_count, prices_of}
use Rattle.tda_prices.specs.Kept.{PriceList, ArePricesOf, BeginsThere}
use Rattle.tda_prices.specs.Priced.{same_item, same_fit, prices_before, price_in}
use Rattle.tda_prices.specs.PricesText.{fit_field, item_fields, fit_places, places_of}
use Rattle.tda_prices.proofs.PricedBack.{AreApart, before_at, fits_apart, items_apart, own_fit, own_item}

abbrev Each : {X : Type 0} → (X → Type 0) → List X → Type 0
Each P xs = AllByRecursion P xs

-- where a number stands in a list
pub record Stands (x : ℕ) (xs : List ℕ) : Type 0 where
  pub index : ℕ
  pub below : index < length xs
  pub is : get_or xs index 0 ≡ x

later : (x y : ℕ) (ys : List ℕ) → Stands x ys → Stands x (y ∷ ys)
later x y ys h = record { index = suc h.index; below = omega (arith, h.below); is = h.is }

all_later : (y : ℕ) (ys zs : List ℕ) → Each (λ x. Stands x ys) zs → Each (λ x. Stands x (y ∷ ys)) zs
all_later y ys [] h = tt
all_later y ys (z ∷ zs) h = (later z y ys h.0, all_later y ys zs h.1)

pub all_stand : (xs : List ℕ) → Each (λ x. Stands x xs) xs
all_stand [] = tt
all_stand (x ∷ xs) = (record { index = 0; below = omega arith; is = refl }, all_later x xs xs (all_stand xs))

module _ (s : Schema) (sp : Spine) (t : IsTree sp (nation_of sp)) where
  -- a fit, by its number
  pub record IsFit (fit : Option ℕ) : Type 0 where
    pub index : ℕ
    pub below : index < length (fits_of sp)
    pub is : get_or (fits_of sp) index None ≡ fit

  pub fit_is : (fit : Option ℕ) → IfSome fit (IsInner sp) → IsFit fit
  fit_is None h = record { index = 0; below = omega arith; is = refl }
  fit_is (Some p) h =
      let at = each_inner sp t (λ p. Stands p (parents_of sp)) (all_stand (parents_of sp)) p h in
      record {
        index = suc at.index;
        below = omega (arith, at.below, length-map (parents_of sp) (λ (q : ℕ). Some q));
        is = get_or-map Some (parents_of sp) at.index 0 None at.below ∙ ap Some at.is;
      }

  abbrev pub begins : Option ℕ → ℕ
  begins fit = prices_before s sp fit (fits_of sp)

  each_get : (P : Option ℕ → Type 0) (xs : List (Option ℕ)) (d : Option ℕ) → Each P xs → (k : ℕ) → k < length xs → P (get_or xs k d)
  each_get P [] d h k l = absurd (omega arith)
  each_get P (x ∷ xs) d h zero l = h.0
  each_get P (x ∷ xs) d h (suc k) l = each_get P xs d h.1 k (omega arith)

  room_in : (fs : List (Option ℕ)) → AreApart same_fit fs → (n : ℕ) → n < length fs
      → prices_before s sp (get_or fs n None) fs + price_count s sp (get_or fs n None) ≤ length (flat_map (fit_places s sp) fs)
  room_in [] apart n l = absurd (omega arith)
  room_in (f ∷ fs) apart zero l =
      let own : cond (same_fit f f) 0 (price_count s sp f + prices_before s sp f fs) ≡ 0 = ap (λ b. cond b 0 (price_count s sp f + prices_before s sp f fs)) (own_fit f) in
      omega (arith, own, length-append (fit_places s sp f) (flat_map (fit_places s sp) fs), length-map (items_of s sp f) (λ item. fit_field sp f ∷ item_fields sp item))
  room_in (f ∷ fs) apart (suc n) l =
      let g : Option ℕ = get_or fs n None in
      let other : cond (same_fit f g) 0 (price_count s sp f + prices_before s sp g fs) ≡ price_count s sp f + prices_before s sp g fs =
      ap (λ b. cond b 0 (price_count s sp f + prices_before s sp g fs)) (each_get (λ y. same_fit f y ≡ false) fs None apart.0 n (omega arith)) in
      omega (arith, other, room_in fs apart.1 n (omega arith), length-append (fit_places s sp f) (flat_map (fit_places s sp) fs), length-map (items_of s sp f) (λ item. fit_field sp f ∷ item_fields sp item))

  module _ (fit : Option ℕ) (is : IfSome fit (IsInner sp)) where
    pub room : begins fit + price_count s sp fit ≤ length (places_of s sp)
    room =
        let at = fit_is fit is in
        subst (λ f. begins f + price_count s sp f ≤ length (places_of s sp)) at.is (room_in (fits_of sp) (fits_apart s sp t) at.index at.below)

    module _ (numbers : List ℤ) where
      pub price_at : (k : ℕ) → k < price_count s sp fit → get_or (prices_of s sp (price_in s sp numbers) fit) k (pos 0) ≡ get_or numbers (begins fit + k) (pos 0)
      price_at k below =
          get_or-map (price_in s sp numbers fit) (items_of s sp fit) k (OfKind 0) (pos 0) below
          ∙ ap (λ m. get_or numbers (begins fit + m) (pos 0)) (before_at same_item own_item (items_of s sp fit) (items_apart s sp t fit) k (OfKind 0) below)

      -- the prices of a fit stand side by side
      pub part_is : length numbers ≡ length (places_of s sp) → between (begins fit) (begins fit + price_count s sp fit) numbers ≡ prices_of s sp (price_in s sp numbers) fit
      part_is size =
          let count = price_count s sp fit in
          let long = length-between numbers (begins fit) (begins fit + count) (omega (arith, room, size)) in
          ext_get_or (pos 0) (between (begins fit) (begins fit + count) numbers) (prices_of s sp (price_in s sp numbers) fit)
          (omega (arith, long, room, size, length-map (items_of s sp fit) (price_in s sp numbers fit)))
          (λ k below.
          let low : k < count = omega (arith, below, long, room, size) in
          get_or-between numbers (begins fit) (begins fit + count) k (pos 0) (omega (arith, low)) ∙ sym (price_at k low))

  -- where the prices of a fit begin, as it is kept
  pub start_is : (p : PriceList) → ArePricesOf s sp p → (fit : Option ℕ) → IfSome fit (IsInner sp) → (start : ℕ) → IfNone fit (start ≡ 0) → IfSome fit (λ u. start ≡ slice_index p.starts u) → start ≡ begins fit
  start_is p are None is start none some = none
  start_is p are (Some u) is start none some = some ∙ each_inner sp t (BeginsThere s sp p.starts) (recursion_from_All (BeginsThere s sp p.starts) (parents_of sp) are.splits) u is
