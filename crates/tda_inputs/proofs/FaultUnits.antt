-- The states that faults of totals name are units.
use Rattle.std.proofs.Common.{◌≡◌, ◌≢◌, ℕ, ◌+◌, Bool, true, false, not, cond, List, [], ◌∷◌, ◌++◌, length, find, Option, Some, None, option_map, is_none, Result, Ok, Err, refl, ap, subst, arith}
use Rattle.tda_io.specs.Due.{◌>>◌, none_of, fault_if}
use Rattle.tda_io.specs.Csv as csv
use Rattle.tda_io.specs.Csv.{Row, first_fault, or_else, has_header, after_header}
use Rattle.tda_io.specs.Rows.{rows_of, bad_width}
use Rattle.tda_model.specs.Schema.{Schema}
use Rattle.tda_model.specs.Spine.{Spine, IsUnit, is_at, units_at, unit_numbers}
use Rattle.tda_model.specs.Tables.{Published}
use Rattle.tda_model.proofs.Sums.{Each, each_filter, each_range}
use Rattle.tda_invar.specs.Totals.{has_unknown_state, is_repeated, count_in, row_fault, first_missing, has_too_many, file_fault, format, header, read}
use Rattle.tda_invar.specs.Known.{is_short, short_of, join_due}
use Rattle.tda_invar.specs.declared.tot_fault.TotFault.{TotFault}
use Rattle.tda_invar.specs.declared.tot_fault.TotFault.TheVariants as tot
use Rattle.tda_invar.specs.declared.join_fault.JoinFault.{JoinFault}
use Rattle.tda_invar.specs.declared.join_fault.JoinFault.TheVariants as join
use Rattle.tda_refusal.specs.Refusal.{NamesKnown}
use Rattle.tda_refusal.specs.declared.text.Named.TheVariants.{Totals, Join}

-- what is found is one of those among which it is sought
found_is : (P : ℕ → Type 0) (p : ℕ → Bool) (xs : List ℕ) (u : ℕ) → Each P xs → find p xs ≡ Some u → P u
found_is P p [] u h e = cc e
found_is P p (x ∷ xs) u h e = by (p x) e (found_is P p xs u h.1)
  where
    by : (b : Bool) → cond b (Some x) (find p xs) ≡ Some u → (find p xs ≡ Some u → P u) → P u
    by true is later = let same : x ≡ u = cc is in subst P same h.0
    by false is later = later is

states_here : (sp : Spine) → Each (IsUnit sp) (units_at sp 1)
states_here sp = each_filter (IsUnit sp) (is_at sp 1) (unit_numbers sp) (each_range _ 0 (length sp.units) (λ u low high is. omega arith))

module _ (sp : Spine) (u : ℕ) where
  -- no row is to blame for a state without a row
  row_blames : (earlier : List Row) (row : Row) → row_fault sp earlier row ≡ Some (tot.Missing u) → ⊥
  row_blames earlier row = by (has_unknown_state sp row) (is_repeated earlier row) (is_none (count_in row))
    where
      by : (a b c : Bool) → cond a (Some (tot.UnknownState (length earlier + 2))) (cond b (Some (tot.Repeated (length earlier + 2))) (cond c (Some (tot.BadCount (length earlier + 2))) None)) ≡ Some (tot.Missing u) → ⊥
      by true b c e = cc
      by false true c e = cc
      by false false true e = cc
      by false false false e = cc

  rows_blame : (earlier rows : List Row) → first_fault (row_fault sp) earlier rows ≡ Some (tot.Missing u) → ⊥
  rows_blame earlier [] e = cc
  rows_blame earlier (row ∷ rows) e = by (row_fault sp earlier row) (row_blames earlier row) (rows_blame (earlier ++ row ∷ []) rows) e
    where
      by : (o : Option TotFault) → (o ≡ Some (tot.Missing u) → ⊥) → (first_fault (row_fault sp) (earlier ++ row ∷ []) rows ≡ Some (tot.Missing u) → ⊥)
          → or_else o (first_fault (row_fault sp) (earlier ++ row ∷ []) rows) ≡ Some (tot.Missing u) → ⊥
      by (Some f) never later is = never is
      by None never later is = later is

  file_blames : (rows : List Row) → file_fault sp rows ≡ Some (tot.Missing u) → IsUnit sp u
  file_blames rows e = by (first_missing sp rows) (λ v is. found_is (IsUnit sp) _ (units_at sp 1) v (states_here sp) is) (has_too_many rows) e
    where
      by : (o : Option ℕ) → ((v : ℕ) → o ≡ Some v → IsUnit sp v) → (many : Bool) → or_else (option_map tot.Missing o) (cond many (Some tot.TooManyPersons) None) ≡ Some (tot.Missing u) → IsUnit sp u
      by (Some v) here many is = let same : v ≡ u = cc is in subst (IsUnit sp) same (here v refl)
      by None here true is = cc is
      by None here false is = cc is

  judged_blames : (rows : List Row) → csv.judged (format sp) rows ≡ Err (tot.Missing u) → IsUnit sp u
  judged_blames rows e = by _ (has_header header rows) (first_fault (row_fault sp) [] (after_header rows)) (rows_blame [] (after_header rows)) (file_fault sp (after_header rows)) (file_blames (after_header rows)) e
    where
      by : {T : Type 0} (x : T) (titled : Bool) (row : Option TotFault) → (row ≡ Some (tot.Missing u) → ⊥) → (whole : Option TotFault) → (whole ≡ Some (tot.Missing u) → IsUnit sp u)
          → (let r : Result T TotFault = fault_if (not titled) (tot.BadHeader 1) >> none_of row >> none_of whole >> Ok x in r ≡ Err (tot.Missing u)) → IsUnit sp u
      by x false row never whole here is = cc is
      by x true (Some f) never whole here is = let same : f ≡ tot.Missing u = cc is in absurd (never (ap Some same))
      by x true None never (Some f) here is = let same : f ≡ tot.Missing u = cc is in here (ap Some same)
      by x true None never None here is = cc is

  missing_here : (text : List ℕ) → read sp text ≡ Err (tot.Missing u) → IsUnit sp u
  missing_here text e = by (bad_width (rows_of text)) e
    where
      by : (o : Option ℕ) → (none_of (option_map tot.BadRow o) >> csv.judged (format sp) (rows_of text)) ≡ Err (tot.Missing u) → IsUnit sp u
      by (Some n) is = cc is
      by None is = judged_blames (rows_of text) is

pub totals_name : (s : Schema) (sp : Spine) (text : List ℕ) (f : TotFault) → (f ≢ tot.NoMemory → read sp text ≡ Err f) → NamesKnown s sp (Totals f)
totals_name s sp text (tot.Missing u) due = missing_here sp u text (due (λ e. cc e))
totals_name s sp text (tot.BadRow n) due = tt
totals_name s sp text (tot.BadHeader n) due = tt
totals_name s sp text (tot.UnknownState n) due = tt
totals_name s sp text (tot.Repeated n) due = tt
totals_name s sp text (tot.BadCount n) due = tt
totals_name s sp text tot.TooManyPersons due = tt
totals_name s sp text tot.NoMemory due = tt

short_here : (s : Schema) (sp : Spine) (p : Published) (u total need : ℕ) → join_due s sp p ≡ Err (join.Short u total need) → IsUnit sp u
short_here s sp p u total need e = by (find (is_short s sp p) (units_at sp 1)) (λ v is. found_is (IsUnit sp) _ (units_at sp 1) v (states_here sp) is) e
  where
    by : (o : Option ℕ) → ((v : ℕ) → o ≡ Some v → IsUnit sp v) → none_of (option_map (short_of s sp p) o) ≡ Err (join.Short u total need) → IsUnit sp u
    by (Some v) here is = let same : v ≡ u = cc is in subst (IsUnit sp) same (here v refl)
    by None here is = cc is

pub join_names : (s : Schema) (sp : Spine) (p : Published) (f : JoinFault) → (f ≢ join.NoMemory → join_due s sp p ≡ Err f) → NamesKnown s sp (Join f)
join_names s sp p (join.Short u total need) due = short_here s sp p u total need (due (λ e. cc e))
join_names s sp p join.NoMemory due = tt
