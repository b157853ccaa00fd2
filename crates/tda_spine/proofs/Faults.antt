-- Rows without a fault.
use Rattle.std.proofs.Common.{◌≡◌, ℕ, zero, suc, ◌<◌, Bool, true, false, cond, List, [], ◌∷◌, ◌++◌, length, get_or, take, Option, Some, None, refl, sym, ap, ◌∙◌, append_assoc, arith}
use Rattle.std.proofs.lemmas.List.{append-nil}
use Rattle.tda_io.specs.Csv.{Row, first_fault, or_else}
use Rattle.tda_model.specs.Schema.{Schema}
use Rattle.tda_spine.specs.Rows.{is_bad_code, is_repeated, has_unknown_parent, has_wrong_level}
use Rattle.tda_spine.specs.Judged.{row_fault, row_number}
use Rattle.tda_spine.specs.declared.fault.SpineFault.TheVariants.{BadCode, Repeated, UnknownParent, WrongLevel}

first_none : {F : Type 0} (o p : Option F) → or_else o p ≡ None → o ≡ None
first_none None p e = refl
first_none (Some x) p e = cc

second_none : {F : Type 0} (o p : Option F) → or_else o p ≡ None → p ≡ None
second_none None p e = e
second_none (Some x) p e = cc

none-from : {F : Type 0} (judge : List Row → Row → Option F) (earlier rows : List Row) → first_fault judge earlier rows ≡ None
    → (k : ℕ) → k < length rows → judge (earlier ++ take k rows) (get_or rows k []) ≡ None
none-from judge earlier [] none k below = absurd (omega arith)
none-from judge earlier (row ∷ rows) none zero below =
    ap (λ es. judge es row) (append-nil earlier) ∙ first_none (judge earlier row) (first_fault judge (earlier ++ row ∷ []) rows) none
none-from judge earlier (row ∷ rows) none (suc k) below =
    let rest = second_none (judge earlier row) (first_fault judge (earlier ++ row ∷ []) rows) none in
    ap (λ es. judge es (get_or rows k [])) (sym (append_assoc earlier (row ∷ []) (take k rows)))
    ∙ none-from judge (earlier ++ row ∷ []) rows rest k (omega arith)

-- none of the four things is wrong with the row
pub record IsFine (s : Schema) (rows earlier : List Row) (row : Row) : Type 0 where
  pub code : is_bad_code row ≡ false
  pub new : is_repeated earlier row ≡ false
  pub parent : has_unknown_parent rows row ≡ false
  pub level : has_wrong_level s rows row ≡ false

fine : (s : Schema) (rows earlier : List Row) (row : Row) → row_fault s rows earlier row ≡ None → IsFine s rows earlier row
fine s rows earlier row none =
    let all = four (row_number earlier) (is_bad_code row) (is_repeated earlier row) (has_unknown_parent rows row) (has_wrong_level s rows row) none in
    record { code = all.0; new = all.1; parent = all.2; level = all.3 }
  where
    four : (n : ℕ) (a b c d : Bool)
        → cond a (Some (BadCode n)) (cond b (Some (Repeated n)) (cond c (Some (UnknownParent n)) (cond d (Some (WrongLevel n)) None))) ≡ None
        → (a ≡ false) × (b ≡ false) × (c ≡ false) × (d ≡ false)
    four n false false false false e = (refl, refl, refl, refl)
    four n true b c d e = cc
    four n false true c d e = cc
    four n false false true d e = cc
    four n false false false true e = cc

pub each_fine : (s : Schema) (rows : List Row) → first_fault (row_fault s rows) [] rows ≡ None
    → (k : ℕ) → k < length rows → IsFine s rows (take k rows) (get_or rows k [])
each_fine s rows none k below =
    fine s rows (take k rows) (get_or rows k []) (none-from (row_fault s rows) [] rows none k below)
