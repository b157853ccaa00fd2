-- All fits of the same tables are a release.
use Rattle.std.proofs.Common.{◌≡◌, ℕ, ◌+◌, List, [], ◌∷◌, map, length, Option, Some, None, refl, sym, ap, ◌∙◌, subst, arith}
use Rattle.std.specs.List.{sum_by}
use Rattle.std.proofs.lemmas.List.{take_all}
use Rattle.std.proofs.lemmas.List.Sums.{sum_by-cons}
use Rattle.std.proofs.lemmas.List.Elements.{All-from_recursion, recursion_from_All}
use Rattle.tda_model.specs.Least.{LeastSplit}
use Rattle.tda_model.specs.Release.{Inputs, CanBe, deviation_at}
use Rattle.tda_model.specs.Spine.{nation_of, children_of, parents_of, unit_numbers, IsTree}
use Rattle.tda_model.specs.Tables.{Tables}
use Rattle.tda_model.proofs.Releases.{splits_from_order}
use Rattle.tda_model.proofs.Sums.{Each, each_weaker, sum_same}
use Rattle.tda_spine.specs.Judged.{fits_of}
use Rattle.tda_loss.specs.declared.Curve.{Curve}
use Rattle.tda_fitnet.specs.Fits.{curve_of}
use Rattle.tda_descent.specs.declared.fit.Fit.{Fit}
use Rattle.tda_descent.specs.Fits.{units_of, IsLeastAt, IsFitOf, AreFirstFits}
use Rattle.tda_descent.specs.Released.{IsReleased}
use Rattle.tda_descent.proofs.Totals.{units_once}

each_of_map : {A B : Type 0} (P : B → Type 0) (f : A → B) (xs : List A) → Each (λ a. P (f a)) xs → Each P (map f xs)
each_of_map P f [] h = tt
each_of_map P f (x ∷ xs) h = (h.0, each_of_map P f xs h.1)

each_from_map : {A B : Type 0} (P : B → Type 0) (f : A → B) (xs : List A) → Each P (map f xs) → Each (λ a. P (f a)) xs
each_from_map P f [] h = tt
each_from_map P f (x ∷ xs) h = (h.0, each_from_map P f xs h.1)

sum_of_map : {A B : Type 0} (g : B → ℕ) (f : A → B) (xs : List A) → sum_by g (map f xs) ≡ sum_by (λ a. g (f a)) xs
sum_of_map g f [] = refl
sum_of_map g f (x ∷ xs) = omega (arith, sum_by-cons g (f x) (map f xs), sum_by-cons (λ a. g (f a)) x xs, sum_of_map g f xs)

module _ (c : Curve) (i : Inputs) (tree : IsTree i.spine (nation_of i.spine)) (fits : List Fit) (first : AreFirstFits c i fits) (all : length fits ≡ length (fits_of i.spine)) where
  abbrev x : Tables
  x = first.tables.0

  abbrev parent_of_fit : Fit → Option ℕ
  parent_of_fit fit = fit.parent

  abbrev dev : ℕ → ℕ
  dev u = deviation_at (curve_of c) i u (x u)

  parents_are : map parent_of_fit fits ≡ fits_of i.spine
  parents_are = first.order ∙ take_all (length fits) (fits_of i.spine) (omega (arith, all))

  each : Each (IsFitOf c i x) fits
  each = recursion_from_All (IsFitOf c i x) fits first.tables.1

  least : Each (IsLeastAt c i x) (fits_of i.spine)
  least = subst (Each (IsLeastAt c i x)) parents_are (each_of_map (IsLeastAt c i x) parent_of_fit fits (each_weaker (IsFitOf c i x) (λ fit. IsLeastAt c i x fit.parent) fits (λ fit h. h.least) each))

  total : sum_by (λ fit. fit.deviation) fits ≡ sum_by dev (unit_numbers i.spine)
  total =
      let parts : Option ℕ → ℕ = λ o. sum_by dev (units_of i.spine o) in
      let ps = parents_of i.spine in
      sum_same (λ fit. fit.deviation) (λ fit. parts fit.parent) fits (each_weaker (IsFitOf c i x) (λ fit. fit.deviation ≡ parts fit.parent) fits (λ fit h. h.deviation) each)
      ∙ sym (sum_of_map parts parent_of_fit fits) ∙ ap (sum_by parts) parents_are
      ∙ sum_by-cons parts None (map Some ps) ∙ ap (λ n. parts None + n) (sum_of_map parts Some ps)
      ∙ ap (λ n. n + sum_by (λ p. parts (Some p)) ps) (alone (dev (nation_of i.spine))) ∙ sym (units_once i.spine tree dev)
    where
      alone : (n : ℕ) → 0 + n ≡ n
      alone n = omega arith

  -- tables that are a release, of which each fit has its units'
  pub released : IsReleased c i fits
  released = record {
    x = x;
    release = record {
      root = least.0;
      splits = splits_from_order (CanBe i) (deviation_at (curve_of c) i) i.schema i.spine tree x
          (All-from_recursion (λ p. LeastSplit (CanBe i) (deviation_at (curve_of c) i) i.schema (children_of i.spine p) (x p) x) (parents_of i.spine)
          (each_from_map (IsLeastAt c i x) Some (parents_of i.spine) least.1));
    };
    each = first.tables.1;
    deviation = total;
  }
