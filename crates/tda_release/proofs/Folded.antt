-- What steps keep, over all of them.
use Rattle.std.proofs.Common.{List, [], ◌∷◌, ◌++◌, subst, sym}
use Rattle.std.proofs.lemmas.List.{append_assoc, append-nil}
use Rattle.std.specs.List.{FoldsTo}

module _ {K X : Type 0} (R : K → X → K → Type 0) (I : List X → K → Type 0) (step : (seen : List X) (k : K) (x : X) (next : K) → I seen k → R k x next → I (seen ++ x ∷ []) next) where
  folded_on : (seen xs : List X) (k last : K) → I seen k → FoldsTo R k xs last → I (seen ++ xs) last
  folded_on seen [] k last start folds = subst (I (seen ++ [])) folds (subst (λ ys. I ys k) (sym (append-nil seen)) start)
  folded_on seen (x ∷ xs) k last start folds =
      subst (λ ys. I ys last) (append_assoc seen (x ∷ []) xs) (folded_on (seen ++ x ∷ []) xs folds.0 last (step seen k x folds.0 start folds.1) folds.2)

  pub folded : (xs : List X) (k last : K) → I [] k → FoldsTo R k xs last → I xs last
  folded xs k last start folds = folded_on [] xs k last start folds
