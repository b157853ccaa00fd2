-- A certificate over the groups of a level is one over those of any tree of the level.
use Rattle.std.proofs.Common.{ℕ, ℤ, List, Option, sym, subst}
use Rattle.tda_model.specs.Release.{Inputs}
use Rattle.tda_model.specs.Tables.{Tables}
use Rattle.tda_schema.specs.Stated.{level_at}
use Rattle.tda_loss.specs.declared.Curve.{Curve}
use Rattle.tda_groups.specs.Tree.{Tree, IsTreeOf}
use Rattle.tda_descent.specs.Fits.{level_below, fit_groups, IsCertifiedAt}

pub by_tree : (c : Curve) (i : Inputs) (x : Tables) (fit : Option ℕ) (prices : List ℤ) → IsCertifiedAt c i (fit_groups i fit) x fit prices
    → (t : Tree) → IsTreeOf i.schema (level_at i.schema (level_below i.spine fit)) t → IsCertifiedAt c i t.groups x fit prices
by_tree c i x fit prices h t is = subst (λ groups. IsCertifiedAt c i groups x fit prices) (sym is.listed) h
