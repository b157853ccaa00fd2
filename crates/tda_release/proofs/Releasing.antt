-- The fits that a descent hands on are a release, with prices that certify it.
use Rattle.std.proofs.Common.{◌≡◌, ◌≢◌, ℕ, suc, ◌+◌, ◌*◌, ◌<◌, ◌≤◌, ◌^◌, Option, Some, None, List, [], ◌∷◌, ◌++◌, length, map, take, refl, sym, ap, ◌∙◌, subst, arith, take_all}
use Rattle.std.specs.List.{flat_map, sum_by}
use Rattle.std.proofs.lemmas.List.{length-map}
use Rattle.std.proofs.lemmas.List.FromFn.{length-range_with_len}
use Rattle.std.proofs.lemmas.List.Elements.{All-from_recursion, recursion_from_All}
use Rattle.std.proofs.lemmas.List.Sums.{sum_by-cons, sum_by-le}
use Rattle.tda_model.specs.Cells.{cell_count}
use Rattle.tda_model.specs.Groups.{kind_count}
use Rattle.tda_model.specs.Spine.{Spine, IsTree, nation_of, children_of, parents_of, unit_numbers}
use Rattle.tda_model.specs.Tables.{Tables}
use Rattle.tda_model.specs.Release.{Inputs, CanBe, IsRelease, deviation_at}
use Rattle.tda_model.proofs.Sums.{Each, sum_le}
use Rattle.tda_model.proofs.FitOrder.{parents_each, inner_has}
use Rattle.tda_model.proofs.Releases.{splits_from_order}
use Rattle.tda_spine.specs.Judged.{IsWithinLimits, fits_of}
use Rattle.tda_spine.specs.Sound.{IsSound}
use Rattle.tda_out.specs.Counts.{count_at}
use Rattle.tda_prices.specs.PricesText as prices
use Rattle.tda_prices.specs.TablesRead as tables
use Rattle.tda_loss.specs.declared.Curve.TheVariants.{Square}
use Rattle.tda_fitnet.specs.Fits.{curve_of}
use Rattle.tda_descent.specs.declared.fit.Fit.{Fit}
use Rattle.tda_descent.specs.Fits.{units_of, IsFitOf, IsLeastAt, AreFirstFits}
use Rattle.tda_descent.proofs.Totals.{units_once}
use Rattle.tda_audit.specs.Answers.{IsVerdict, YesTells}
use Rattle.tda_audit.specs.Certified.{Certifies, level_groups}
use Rattle.tda_audit.specs.declared.verdict.Verdict.TheVariants.{Yes}
use Rattle.tda_release.specs.Certified.{IsCertifiedRelease, total_deviation}
use Rattle.tda_release.specs.Texts.{AreHeaders, AreReadBack, AreTextsOf, IsReadBack}
use Rattle.tda_release.specs.declared.release.Texts.{Texts}
use Rattle.tda_release.proofs.Squares.{curve_is_square}
use Rattle.tda_release.proofs.Kept.{HasFits, fit_price_rows, fit_rows}
use Rattle.tda_release.proofs.ReadBack.{HaveTrees, group_cells, levels_nested, prices_back, read_counts, read_prices, read_same, tables_back}
use Rattle.tda_release.proofs.SameTables.{same_certified}
use Rattle.tda_release.proofs.SameDeviation.{same_deviation}
use Rattle.tda_release.proofs.Written.{pricing, all_certified, deviation_written, prices_written, read_pricing, tables_written, texts_written}
use Rattle.tda_release.proofs.Certifying.{certifies}

-- ---- there are no more fits than units

abbrev ones : List ℕ → ℕ
ones xs = sum_by (λ x. 1) xs

ones_are : (xs : List ℕ) → ones xs ≡ length xs
ones_are [] = refl
ones_are (x ∷ xs) = sum_by-cons (λ y. 1) x xs ∙ ap (λ n. 1 + n) (ones_are xs) ∙ one_more (length xs)
  where
    one_more : (n : ℕ) → 1 + n ≡ suc n
    one_more n = omega arith

some_one : (xs : List ℕ) → xs ≢ [] → 1 ≤ ones xs
some_one [] some = absurd (some refl)
some_one (x ∷ xs) some = let e = ones_are (x ∷ xs) in omega arith

module _ (sp : Spine) (tree : IsTree sp (nation_of sp)) where
  few_parents : length (parents_of sp) + 1 ≤ length (unit_numbers sp)
  few_parents =
      let all = units_once sp tree (λ u. 1) in
      let each = sum_le (λ p. 1) (λ p. ones (children_of sp p)) (parents_of sp) (parents_each sp tree (λ p. 1 ≤ ones (children_of sp p)) (λ p here above. some_one (children_of sp p) (inner_has sp tree p here above))) in
      let parents = ones_are (parents_of sp) in
      let units = ones_are (unit_numbers sp) in
      omega arith

-- ---- all fits

module _ (i : Inputs) (sound : IsSound i.spine) (fits : List Fit) (first : AreFirstFits Square i fits) (all : length fits ≡ length (fits_of i.spine)) where
  abbrev x : Tables
  x = first.tables.0

  order : map (λ fit. fit.parent) fits ≡ fits_of i.spine
  order = first.order ∙ ap (λ n. take n (fits_of i.spine)) all ∙ take_all (length (fits_of i.spine)) (fits_of i.spine) (omega arith)

  each : Each (IsFitOf Square i x) fits
  each = recursion_from_All (IsFitOf Square i x) fits first.tables.1

  -- ---- they are least

  each_least : (fs : List Fit) → Each (IsFitOf Square i x) fs → Each (IsLeastAt Square i x) (map (λ fit. fit.parent) fs)
  each_least [] h = tt
  each_least (f ∷ fs) h = (h.0.least, each_least fs h.1)

  leasts : Each (IsLeastAt Square i x) (fits_of i.spine)
  leasts = subst (Each (IsLeastAt Square i x)) order (each_least fits each)

  each_split : (ps : List ℕ) → Each (IsLeastAt Square i x) (map Some ps) → Each (λ p. IsLeastAt Square i x (Some p)) ps
  each_split [] h = tt
  each_split (p ∷ ps) h = (h.0, each_split ps h.1)

  released : IsRelease (curve_of Square) i x
  released = record {
    root = leasts.0;
    splits = splits_from_order (CanBe i) (deviation_at (curve_of Square) i) i.schema i.spine sound.tree x
        (All-from_recursion (λ p. IsLeastAt Square i x (Some p)) (parents_of i.spine) (each_split (parents_of i.spine) leasts.1));
  }

  -- ---- their deviation

  abbrev own : ℕ → ℕ
  own u = deviation_at (curve_of Square) i u (x u)

  abbrev of_fit : Option ℕ → ℕ
  of_fit f = sum_by own (units_of i.spine f)

  deviations : (fs : List Fit) → Each (IsFitOf Square i x) fs → sum_by (λ fit. fit.deviation) fs ≡ sum_by of_fit (map (λ fit. fit.parent) fs)
  deviations [] h = refl
  deviations (f ∷ fs) h =
      let here = sum_by-cons (λ fit. fit.deviation) f fs in
      let there = sum_by-cons of_fit f.parent (map (λ fit. fit.parent) fs) in
      let one : f.deviation ≡ of_fit f.parent = h.0.deviation in
      let rest = deviations fs h.1 in
      omega arith

  splits_add : (ps : List ℕ) → sum_by of_fit (map Some ps) ≡ sum_by (λ p. sum_by own (children_of i.spine p)) ps
  splits_add [] = refl
  splits_add (p ∷ ps) =
      let here = sum_by-cons of_fit (Some p) (map Some ps) in
      let there = sum_by-cons (λ q. sum_by own (children_of i.spine q)) p ps in
      let rest = splits_add ps in
      omega arith

  alone : (u : ℕ) → sum_by own (u ∷ []) ≡ own u
  alone u = let one = sum_by-cons own u [] in omega arith

  total_own : sum_by (λ fit. fit.deviation) fits ≡ sum_by own (unit_numbers i.spine)
  total_own =
      let fits_add = deviations fits each ∙ ap (sum_by of_fit) order in
      let root = sum_by-cons of_fit None (map Some (parents_of i.spine)) in
      let nation = alone (nation_of i.spine) in
      let splits = splits_add (parents_of i.spine) in
      let units = units_once i.spine sound.tree own in
      omega arith

  each_small : (fs : List Fit) → Each (IsFitOf Square i x) fs → Each (λ fit. fit.deviation ≤ 2 ^ 110) fs
  each_small [] h = tt
  each_small (f ∷ fs) h = (let small = h.0.small in omega arith, each_small fs h.1)

  within : (n d : ℕ) → n ≤ 2 ^ 17 → d ≤ n * 2 ^ 110 → d < 2 ^ 128
  within n d few le = omega arith

  small : sum_by (λ fit. fit.deviation) fits < 2 ^ 128
  small =
      let le = sum_by-le (λ fit. fit.deviation) (2 ^ 110) fits (All-from_recursion (λ fit. fit.deviation ≤ 2 ^ 110) fits (each_small fits each)) in
      let few = few_parents i.spine sound.tree in
      let units = length-range_with_len 0 (length i.spine.units) in
      let long = length-map (parents_of i.spine) Some in
      within (length fits) _ (omega (arith, all, long, few, sound.few)) le

  total : sum_by (λ fit. fit.deviation) fits ≡ total_deviation i x
  total = total_own ∙ ap (λ curve. sum_by (λ u. deviation_at curve i u (x u)) (unit_numbers i.spine)) curve_is_square

  pub texts_released : YesTells Square i → (old new : Texts) → AreHeaders old → HasFits i.schema i.spine old fits new → AreTextsOf i new
  texts_released tells old new headers has =
      let prices = pricing i sound.tree x fits order first.tables.1 in
      let certified : IsCertifiedRelease i x prices = record {
        release = subst (λ curve. IsRelease curve i x) curve_is_square released;
        certified = certifies i sound.tree x prices released (all_certified i sound.tree x fits order first.tables.1) tells;
      } in
      texts_written i sound.tree x fits order first.tables.1 certified total (subst (λ n. n < 2 ^ 128) total small) old new headers has

  -- ---- they are read back

  pub texts_back : YesTells Square i → IsWithinLimits i.schema i.spine → cell_count i.schema ≤ 4096 → kind_count i.schema ≤ 128 → HaveTrees i.schema
      → (old new : Texts) → AreHeaders old → HasFits i.schema i.spine old fits new → AreReadBack i new
  texts_back tells within cells kinds trees old new headers has =
      let price = pricing i sound.tree x fits order first.tables.1 in
      let certified : Certifies Square i (level_groups i.schema) x price = certifies i sound.tree x price released (all_certified i sound.tree x fits order first.tables.1) tells in
      let few = tells.few x price ((tells.certified x price).1 certified) in
      let counts = read_counts i sound cells x few in
      let numbers = read_prices i sound.tree x fits order first.tables.1 in
      let again = same_certified Square i (level_groups i.schema) x (count_at counts) price sound.tree (read_same i sound cells x few) (group_cells i sound.tree within.depth trees) certified in
      record {
        counts = counts;
        numbers = numbers;
        tables_back = subst (λ t. IsReadBack (tables.read i.schema i.spine) t counts)
            (sym (has.tables ∙ ap (λ t. t ++ flat_map (fit_rows i.schema i.spine) fits) headers.tables ∙ tables_written i sound.tree x fits order first.tables.1))
            (tables_back i sound cells x few within);
        prices_back = subst (λ t. IsReadBack (prices.read i.schema i.spine) t numbers)
            (sym (has.prices ∙ ap (λ t. t ++ flat_map (fit_price_rows i.schema i.spine) fits) headers.prices ∙ prices_written i sound.tree x fits order first.tables.1))
            (prices_back i sound.tree x fits order first.tables.1 sound cells kinds (levels_nested i.schema trees) within);
        certified = subst (Certifies Square i (level_groups i.schema) (count_at counts)) (sym (read_pricing i sound.tree x fits order first.tables.1)) again;
        deviation = sym (same_deviation i x (count_at counts) (read_same i sound cells x few)) ∙ sym (deviation_written i sound.tree x fits order first.tables.1 total (subst (λ n. n < 2 ^ 128) total small) old new headers has);
        yes = subst (λ p. IsVerdict Square i (count_at counts) p Yes) (sym (read_pricing i sound.tree x fits order first.tables.1)) ((tells.certified (count_at counts) price).1 again);
      }
