-- Each fit is within the limits, and so is the largest.
use Rattle.std.proofs.Common.{ℕ, ◌≤◌, ◌<◌, ◌+◌, All, Option, Some, None, List, [], ◌∷◌, map, subst}
use Rattle.std.proofs.lemmas.List.Elements.{All-contains, All-from_recursion}
use Rattle.tda_model.specs.Schema.{Schema}
use Rattle.tda_model.specs.Spine.{Spine, IsTree, IsUnit, level_of, nation_of, parents_of}
use Rattle.tda_model.specs.Sizes.{fit_size, nodes_limit, arcs_limit}
use Rattle.tda_model.proofs.Sums.{Each}
use Rattle.tda_model.proofs.FitOrder.{parents_each}
use Rattle.tda_spine.specs.Judged.{IsWithinLimits, fits_of}
use Rattle.tda_spine.specs.Largest.{IsLargest}

module _ (s : Schema) (sp : Spine) (tree : IsTree sp (nation_of sp)) where
  -- what holds of the nation's fit and of that of each unit above the last level
  each_fit : (P : Option ℕ → Type 0) → P None → ((p : ℕ) → IsUnit sp p → level_of sp p + 1 < sp.depth → P (Some p)) → All P (fits_of sp)
  each_fit P root split = All-from_recursion P (fits_of sp) (root, splits (parents_of sp) (parents_each sp tree (λ p. P (Some p)) split))
    where
      splits : (ps : List ℕ) → Each (λ p. P (Some p)) ps → Each P (map Some ps)
      splits [] h = tt
      splits (p ∷ ps) h = (h.0, splits ps h.1)

  module _ (limits : IsWithinLimits s sp) where
    pub largest_nodes : (n : ℕ) → IsLargest (λ fit. (fit_size s sp fit).nodes) (fits_of sp) n → n ≤ nodes_limit
    largest_nodes n is =
        let each : All (λ fit. (fit_size s sp fit).nodes ≤ nodes_limit) (fits_of sp) = each_fit (λ fit. (fit_size s sp fit).nodes ≤ nodes_limit) limits.root_nodes limits.nodes in
        subst (λ m. m ≤ nodes_limit) is.some.2 (All-contains (λ fit. (fit_size s sp fit).nodes ≤ nodes_limit) (fits_of sp) is.some.0 each is.some.1)

    pub largest_arcs : (n : ℕ) → IsLargest (λ fit. (fit_size s sp fit).arcs) (fits_of sp) n → n ≤ arcs_limit
    largest_arcs n is =
        let each : All (λ fit. (fit_size s sp fit).arcs ≤ arcs_limit) (fits_of sp) = each_fit (λ fit. (fit_size s sp fit).arcs ≤ arcs_limit) limits.root_arcs limits.arcs in
        subst (λ m. m ≤ arcs_limit) is.some.2 (All-contains (λ fit. (fit_size s sp fit).arcs ≤ arcs_limit) (fits_of sp) is.some.0 each is.some.1)
