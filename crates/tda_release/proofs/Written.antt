-- What was kept of all fits is the files of a release, with prices that certify it.
use Rattle.std.proofs.Common.{◌≡◌, ℕ, ℤ, zero, suc, ◌^◌, ◌<◌, List, [], ◌∷◌, ◌++◌, length, get_or, map, All, Option, Some, None, refl, sym, ap, ◌∙◌, subst, arith}
use Rattle.std.specs.List.{flat_map, sum_by}
use Rattle.std.proofs.lemmas.List.{length-map}
use Rattle.std.proofs.lemmas.List.Elements.{All-from_get_or, recursion_from_All}
use Rattle.tda_io.specs.Texts.{row_text}
use Rattle.tda_model.specs.Spine.{nation_of, parents_of, IsTree}
use Rattle.tda_model.specs.Tables.{Tables}
use Rattle.tda_model.specs.TablesText.{tables_header, tables_text}
use Rattle.tda_model.specs.Release.{Inputs}
use Rattle.tda_model.proofs.Sums.{Each}
use Rattle.tda_spine.specs.Judged.{fits_of}
use Rattle.tda_out.specs.Written.{units_text, rows_in}
use Rattle.tda_out.proofs.WrittenRows.{make_up_file}
use Rattle.tda_loss.specs.declared.Curve.TheVariants.{Square}
use Rattle.tda_prices.specs.Items.{price_count, items_of, Pricing, prices_of}
use Rattle.tda_prices.specs.Priced.{same_fit, before, price_in}
use Rattle.tda_prices.specs.PricesText.{header, all_prices, fit_text}
use Rattle.tda_prices.proofs.PricedBack.{before_at, own_fit, fits_apart, priced_back}
use Rattle.tda_prices.proofs.MadeUp.{made_up}
use Rattle.tda_descent.specs.declared.fit.Fit.{Fit}
use Rattle.tda_descent.specs.Fits.{units_of, fit_groups, IsFitOf, IsCertifiedAt}
use Rattle.tda_release.specs.Certified.{IsCertifiedRelease, pricing_text, total_deviation}
use Rattle.tda_release.specs.Texts.{most_sum, AreHeaders, AreTextsOf}
use Rattle.tda_release.specs.declared.release.Texts.{Texts}
use Rattle.tda_release.proofs.PriceCounts.{price_nodes}
use Rattle.tda_release.proofs.Kept.{fit_rows, fit_price_rows, HasFits}

pub same_flat : {X Y : Type 0} (f g : X → List Y) (xs : List X) → Each (λ x. f x ≡ g x) xs → flat_map f xs ≡ flat_map g xs
same_flat f g [] h = refl
same_flat f g (x ∷ xs) h = ap (λ t. t ++ flat_map f xs) h.0 ∙ ap (λ t. g x ++ t) (same_flat f g xs h.1)

flat_mapped : {X Y Z : Type 0} (f : Y → List Z) (g : X → Y) (xs : List X) → flat_map f (map g xs) ≡ flat_map (λ x. f (g x)) xs
flat_mapped f g [] = refl
flat_mapped f g (x ∷ xs) = ap (λ t. f (g x) ++ t) (flat_mapped f g xs)

-- all fits in order, of these tables
module _ (i : Inputs) (tree : IsTree i.spine (nation_of i.spine)) (x : Tables) (fits : List Fit)
    (order : map (λ fit. fit.parent) fits ≡ fits_of i.spine) (each : All (IsFitOf Square i x) fits) where
  handed : Each (IsFitOf Square i x) fits
  handed = recursion_from_All (IsFitOf Square i x) fits each

  -- ---- the tables

  abbrev rows_at : Option ℕ → List ℕ
  rows_at fit = rows_in i.schema i.spine x (units_of i.spine fit)

  rows_of_fit : (fit : Fit) → IsFitOf Square i x fit → fit_rows i.schema i.spine fit ≡ rows_at fit.parent
  rows_of_fit fit is =
      ap (λ us. units_text i.schema i.spine us fit.counts.items) is.units ∙ ap (units_text i.schema i.spine (units_of i.spine fit.parent)) is.counts

  each_rows : (fs : List Fit) → Each (IsFitOf Square i x) fs → Each (λ fit. fit_rows i.schema i.spine fit ≡ rows_at fit.parent) fs
  each_rows [] h = tt
  each_rows (f ∷ fs) h = (rows_of_fit f h.0, each_rows fs h.1)

  pub tables_written : tables_header ++ flat_map (fit_rows i.schema i.spine) fits ≡ tables_text i.schema i.spine x
  tables_written =
      ap (λ t. tables_header ++ t)
      (same_flat (fit_rows i.schema i.spine) (λ fit. rows_at fit.parent) fits (each_rows fits handed)
      ∙ sym (flat_mapped rows_at (λ fit. fit.parent) fits)
      ∙ ap (flat_map rows_at) order
      ∙ ap (λ t. rows_at None ++ t) (flat_mapped rows_at Some (parents_of i.spine)))
      ∙ sym (make_up_file i.schema i.spine x)

  -- ---- the prices

  abbrev lists : List (List ℤ)
  lists = map (λ fit. fit.prices.items) fits

  abbrev pub fit_prices : Option ℕ → List ℤ
  fit_prices f = get_or lists (before same_fit f (fits_of i.spine)) []

  abbrev pub pricing : Pricing
  pricing = price_in i.schema i.spine (all_prices i.spine fit_prices)

  long : length fits ≡ length (fits_of i.spine)
  long = sym (length-map fits (λ fit. fit.parent)) ∙ ap length order

  prices_at : (n : ℕ) → n < length (fits_of i.spine) → fit_prices (get_or (fits_of i.spine) n None) ≡ get_or lists n []
  prices_at n l = ap (λ k. get_or lists k []) (before_at same_fit own_fit (fits_of i.spine) (fits_apart i.schema i.spine tree) n None l)

  by_fit : (P : Option ℕ → List ℤ → Type 0) → Each (λ fit. P fit.parent fit.prices.items) fits → (n : ℕ) → n < length (fits_of i.spine) → P (get_or (fits_of i.spine) n None) (fit_prices (get_or (fits_of i.spine) n None))
  by_fit P all n l =
      let here = at fits all n (omega (arith, long)) in
      subst (P (get_or (fits_of i.spine) n None)) (sym (prices_at n l)) (subst (λ fs. P (get_or fs n None) (get_or lists n [])) order here)
    where
      at : (fs : List Fit) → Each (λ fit. P fit.parent fit.prices.items) fs → (n : ℕ) → n < length fs → P (get_or (map (λ fit. fit.parent) fs) n None) (get_or (map (λ fit. fit.prices.items) fs) n [])
      at [] h n l = absurd (omega arith)
      at (f ∷ fs) h zero l = h.0
      at (f ∷ fs) h (suc n) l = at fs h.1 n (omega arith)

  -- what holds of each fit and its own prices holds of them among the prices of all
  each_fit : (P : Option ℕ → List ℤ → Type 0) → Each (λ fit. P fit.parent fit.prices.items) fits → All (λ f. P f (fit_prices f)) (fits_of i.spine)
  each_fit P all = All-from_get_or (λ f. P f (fit_prices f)) (fits_of i.spine) None (by_fit P all)

  abbrev IsLong : Option ℕ → List ℤ → Type 0
  IsLong f ps = length ps ≡ price_count i.schema i.spine f

  each_long : (fs : List Fit) → Each (IsFitOf Square i x) fs → Each (λ fit. IsLong fit.parent fit.prices.items) fs
  each_long [] h = tt
  each_long (f ∷ fs) h = (let nodes = price_nodes i.schema i.spine tree f.parent in let all = h.0.prices in omega arith, each_long fs h.1)

  all_long : Each (λ f. IsLong f (fit_prices f)) (fits_of i.spine)
  all_long = recursion_from_All (λ f. IsLong f (fit_prices f)) (fits_of i.spine) (each_fit IsLong (each_long fits handed))

  own_prices : (n : ℕ) → n < length (fits_of i.spine) → prices_of i.schema i.spine pricing (get_or (fits_of i.spine) n None) ≡ fit_prices (get_or (fits_of i.spine) n None)
  own_prices n l = priced_back i.schema i.spine tree fit_prices all_long n l

  -- and the prices that a file of all of them gives are these
  pub read_pricing : price_in i.schema i.spine (all_prices i.spine (prices_of i.schema i.spine pricing)) ≡ pricing
  read_pricing =
      ap (price_in i.schema i.spine)
      (same_flat (prices_of i.schema i.spine pricing) fit_prices (fits_of i.spine)
      (recursion_from_All _ (fits_of i.spine) (All-from_get_or (λ f. prices_of i.schema i.spine pricing f ≡ fit_prices f) (fits_of i.spine) None own_prices)))

  -- so of those that a pricing gives
  pub each_priced : (P : Option ℕ → List ℤ → Type 0) → Each (λ fit. P fit.parent fit.prices.items) fits → All (λ f. P f (prices_of i.schema i.spine pricing f)) (fits_of i.spine)
  each_priced P all =
      All-from_get_or (λ f. P f (prices_of i.schema i.spine pricing f)) (fits_of i.spine) None
      (λ n l. subst (P (get_or (fits_of i.spine) n None)) (sym (own_prices n l)) (by_fit P all n l))

  abbrev Certifies : Option ℕ → List ℤ → Type 0
  Certifies f ps = IsCertifiedAt Square i (fit_groups i f) x f ps

  each_certified : (fs : List Fit) → Each (IsFitOf Square i x) fs → Each (λ fit. Certifies fit.parent fit.prices.items) fs
  each_certified [] h = tt
  each_certified (f ∷ fs) h = (h.0.certified, each_certified fs h.1)

  pub all_certified : All (λ f. IsCertifiedAt Square i (fit_groups i f) x f (prices_of i.schema i.spine pricing f)) (fits_of i.spine)
  all_certified = each_priced Certifies (each_certified fits handed)

  -- the rows of prices, fit by fit
  abbrev price_rows : Option ℕ → List ℕ
  price_rows f = fit_text i.schema i.spine f (prices_of i.schema i.spine pricing f)

  -- the fits' own rows
  each_own : (fs : List Fit) (os : List (Option ℕ)) → map (λ fit. fit.parent) fs ≡ os → ((n : ℕ) → n < length fs → prices_of i.schema i.spine pricing (get_or os n None) ≡ get_or (map (λ fit. fit.prices.items) fs) n [])
      → flat_map (fit_price_rows i.schema i.spine) fs ≡ flat_map price_rows os
  each_own [] [] is own = refl
  each_own [] (o ∷ os) is own = cc is
  each_own (f ∷ fs) [] is own = cc is
  each_own (f ∷ fs) (o ∷ os) is own =
      let first : f.parent ≡ o = ap (λ l. get_or l 0 None) is in
      let later : map (λ fit. fit.parent) fs ≡ os = ap drop_first is in
      ap (λ t. t ++ flat_map (fit_price_rows i.schema i.spine) fs) (ap (λ p. fit_text i.schema i.spine p f.prices.items) first ∙ ap (fit_text i.schema i.spine o) (sym (own 0 (omega arith))))
      ∙ ap (λ t. price_rows o ++ t) (each_own fs os later (λ n l. own (suc n) (omega arith)))
    where
      drop_first : List (Option ℕ) → List (Option ℕ)
      drop_first [] = []
      drop_first (o ∷ os) = os

  pub prices_written : row_text header ++ flat_map (fit_price_rows i.schema i.spine) fits ≡ pricing_text i pricing
  prices_written =
      ap (λ t. row_text header ++ t) (each_own fits (fits_of i.spine) order (λ n l. own_prices n (omega (arith, long)) ∙ prices_at n (omega (arith, long))))
      ∙ sym (made_up i.schema i.spine (prices_of i.schema i.spine pricing) (λ f. length-map (items_of i.schema i.spine f) (pricing f)))

  -- ---- all together

  most_alone : (n : ℕ) → n < 2 ^ 128 → most_sum 0 n ≡ n
  most_alone n l = omega arith

  pub deviation_written : sum_by (λ fit. fit.deviation) fits ≡ total_deviation i x → total_deviation i x < 2 ^ 128 → (old new : Texts) → AreHeaders old → HasFits i.schema i.spine old fits new → new.deviation ≡ total_deviation i x
  deviation_written total small old new headers has = has.deviation headers.deviation ∙ ap (most_sum 0) total ∙ most_alone (total_deviation i x) small

  pub texts_written : IsCertifiedRelease i x pricing → sum_by (λ fit. fit.deviation) fits ≡ total_deviation i x → total_deviation i x < 2 ^ 128 → (old new : Texts) → AreHeaders old → HasFits i.schema i.spine old fits new → AreTextsOf i new
  texts_written certified total small old new headers has = record {
    tables = x;
    price = pricing;
    certified = certified;
    tables_are = has.tables ∙ ap (λ t. t ++ flat_map (fit_rows i.schema i.spine) fits) headers.tables ∙ tables_written;
    prices_are = has.prices ∙ ap (λ t. t ++ flat_map (fit_price_rows i.schema i.spine) fits) headers.prices ∙ prices_written;
    deviation = deviation_written total small old new headers has;
  }
