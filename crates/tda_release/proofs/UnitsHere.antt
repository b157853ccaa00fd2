-- The units of a fit are units.
use Rattle.std.proofs.Common.{◌≡◌, ℕ, zero, suc, ◌<◌, All, List, [], ◌∷◌, get_or, Option, Some, None, sym, subst, arith}
use Rattle.std.proofs.lemmas.List.Elements.{All-from_get_or}
use Rattle.tda_model.specs.Spine.{Spine, IsUnit, IsTree, nation_of}
use Rattle.tda_invar.proofs.UnitLists.{children_within}
use Rattle.tda_descent.specs.Fits.{units_of}

one : (P : ℕ → Type 0) (x : ℕ) → P x → All P (x ∷ [])
one P x h = All-from_get_or P (x ∷ []) 0 at
  where
    at : (n : ℕ) → n < 1 → P (get_or (x ∷ []) n 0)
    at zero l = h
    at (suc n) l = absurd (omega arith)

pub units_here : (sp : Spine) → IsTree sp (nation_of sp) → (parent : Option ℕ) (units : List ℕ) → units ≡ units_of sp parent → All (IsUnit sp) units
units_here sp tree None units is = subst (All (IsUnit sp)) (sym is) (one (IsUnit sp) (nation_of sp) tree.root)
units_here sp tree (Some p) units is = subst (All (IsUnit sp)) (sym is) (children_within sp p)
