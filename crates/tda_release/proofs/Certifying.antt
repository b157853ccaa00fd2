-- Prices that certify each fit certify the whole: an audit answers Yes.
use Rattle.std.proofs.Common.{ℕ, ◌+◌, ◌<◌, All, List, [], ◌∷◌, map, Option, Some, None}
use Rattle.std.proofs.lemmas.List.Elements.{recursion_from_All}
use Rattle.tda_model.specs.Spine.{IsUnit, IsTree, level_of, nation_of, parents_of}
use Rattle.tda_model.specs.Tables.{Tables}
use Rattle.tda_model.specs.Release.{Inputs, IsRelease}
use Rattle.tda_model.proofs.Sums.{Each}
use Rattle.tda_model.proofs.FitOrder.{each_inner, inner_has}
use Rattle.tda_spine.specs.Judged.{fits_of}
use Rattle.tda_loss.specs.declared.Curve.TheVariants.{Square}
use Rattle.tda_fitnet.specs.Fits.{curve_of}
use Rattle.tda_prices.specs.Items.{Pricing, prices_of}
use Rattle.tda_descent.specs.Fits.{fit_groups, IsCertifiedAt}
use Rattle.tda_descent.proofs.SameGroups.{by_tree}
use Rattle.tda_audit.specs.Answers.{YesTells}
use Rattle.tda_audit.specs.Certified.{level_groups, Certifies}
use Rattle.tda_audit.specs.Fitted.{AreFitted}

module _ (i : Inputs) (tree : IsTree i.spine (nation_of i.spine)) (x : Tables) (price : Pricing) where
  abbrev At : Option ℕ → Type 0
  At f = IsCertifiedAt Square i (fit_groups i f) x f (prices_of i.schema i.spine price f)

  each_some : (ps : List ℕ) → Each At (map Some ps) → Each (λ p. At (Some p)) ps
  each_some [] h = tt
  each_some (p ∷ ps) h = (h.0, each_some ps h.1)

  module _ (release : IsRelease (curve_of Square) i x) (all : All At (fits_of i.spine)) where
    each : Each At (fits_of i.spine)
    each = recursion_from_All At (fits_of i.spine) all

    at : (p : ℕ) → IsUnit i.spine p → level_of i.spine p + 1 < i.spine.depth → At (Some p)
    at p here below = each_inner i.spine tree (λ p. At (Some p)) (each_some (parents_of i.spine) each.1) p here below

    are_fitted : AreFitted Square i x price
    are_fitted = record {
      nation = release.root.can_be;
      families = λ p here below. (release.splits p here (inner_has i.spine tree p here below)).is_family;
      root = by_tree Square i x None (prices_of i.schema i.spine price None) each.0;
      splits = λ p here below. by_tree Square i x (Some p) (prices_of i.schema i.spine price (Some p)) (at p here below);
    }

    pub certifies : YesTells Square i → Certifies Square i (level_groups i.schema) x price
    certifies tells = (tells.certified x price).0 (tells.fitted x price are_fitted)
