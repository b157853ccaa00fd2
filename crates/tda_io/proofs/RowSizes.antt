-- How many bytes the rows of a text take: one for each byte of a field and one for the end of each field, but for the last.
use Rattle.std.proofs.Common.{◌≡◌, ◌+◌, ◌≤◌, ◌⊎◌, ℕ, zero, suc, List, [], ◌∷◌, length, Option, Some, None, false, refl, arith, inl, inr}
use Rattle.std.proofs.lemmas.Bool.{cases_Bool}
use Rattle.std.proofs.lemmas.List.{length-append}
use Rattle.std.proofs.lemmas.List.Sums.{sum_by-cons}
use Rattle.std.proofs.lemmas.Option.{same_Some}
use Rattle.csv.specs.Machine.{Read, next_record, step, is_end, ends_at_end, fields_after, field_after}
use Rattle.csv.specs.Reading.{default_config, records_from, records_next, strip_bom}
use Rattle.csv.specs.declared.parser.Action.{Action}
use Rattle.csv.specs.declared.parser.Action.TheVariants as act
use Rattle.csv.specs.declared.parser.Config.{Config}
use Rattle.csv.specs.declared.parser.State.{State}
use Rattle.csv.specs.declared.parser.State.TheVariants as st
use Rattle.tda_io.specs.Csv.{Row}
use Rattle.tda_io.specs.Rows.{rows_of}
use Rattle.tda_io.specs.Table.{row_cost, rows_cost}
use Rattle.tda_io.proofs.AllRows.{row_size-more, strip_bom-shorter, takes}

-- a byte adds at most one byte to the fields, or one field
grows : (a : Action) (c : ℕ) (fields : Row) (field : List ℕ)
    → row_cost (fields_after a fields field) + length (field_after a c field) ≤ row_cost fields + length field + 1
grows act.EndField c fields field = omega (arith, row_size-more fields field, length-append fields (field ∷ []))
grows act.Skip c fields field = omega arith
grows act.Copy c fields field = omega (arith, length-append field (c ∷ []))
grows act.EndRecord c fields field = omega (arith, row_size-more fields field, length-append fields (field ∷ []))

-- the bytes that a row takes of a text: at the end of the text no byte ends it
abbrev Costs : ℕ → List ℕ → Read → Type 0
Costs size xs r = (row_cost r.0 + length r.2 ≤ size + length xs) ⊎ ((r.2 ≡ []) × (row_cost r.0 ≤ size + length xs + 1))

costs : (cfg : Config) (s : State) (fields : Row) (field xs : List ℕ) (r : Read) → next_record cfg s fields field xs ≡ Some r → Costs (row_cost fields + length field) xs r
unfolding next_record
costs cfg s fields field [] r e = elim (cases_Bool (ends_at_end s)) [
  | inl is ↦
      let same = same_Some _ _ (rw is at e) in
      rw (← same) (inr (refl, omega (arith, row_size-more fields field, length-append fields (field ∷ []))))
  | inr other ↦ cc (rw other at e)
]
costs cfg s fields field (c ∷ rest) r e =
    let more = grows (step cfg s c).1 c fields field in
    elim (cases_Bool (is_end (step cfg s c).1)) [
      | inl is ↦
          let same = same_Some _ _ (rw is at e) in
          rw (← same) (inl (omega (arith, more)))
      | inr other ↦ elim (costs cfg (step cfg s c).0 _ _ rest r (rw other at e)) [
        | inl later ↦ inl (omega (arith, later, more))
        | inr last ↦ inr (last.0, omega (arith, last.1, more))
      ]
    ]

-- no row begins at the end
none_after : (n : ℕ) (s : State) → ends_at_end s ≡ false → records_from default_config n s [] ≡ []
unfolding records_from next_record
none_after zero s start = refl
none_after (suc n) s start = rw start refl

first_and_rest : (row : Row) (rows : List Row) (most : ℕ) → row_cost row + rows_cost rows ≤ most → rows_cost (row ∷ rows) ≤ most
first_and_rest row rows most h = rw (sum_by-cons row_cost row rows) h

from_fit : (n : ℕ) (s : State) (xs : List ℕ) → ends_at_end s ≡ false → rows_cost (records_from default_config n s xs) ≤ length xs + 1
unfolding records_from
from_fit zero s xs start = omega arith
from_fit (suc n) s xs start = by (from_fit n) (next_record default_config s [] [] xs) refl
  where
    by : ((t : State) (ys : List ℕ) → ends_at_end t ≡ false → rows_cost (records_from default_config n t ys) ≤ length ys + 1)
        → (o : Option Read) → next_record default_config s [] [] xs ≡ o → rows_cost (records_next (records_from default_config n) o) ≤ length xs + 1
    by later None e = omega arith
    by later (Some p) e =
        let took = takes default_config s [] [] xs p e in
        elim (costs default_config s [] [] xs p e) [
          | inl within ↦ first_and_rest p.0 (records_from default_config n p.1 p.2) _ (omega (arith, within, later p.1 p.2 took.between))
          | inr last ↦ rw (last.0, none_after n p.1 took.between) (omega (arith, last.1))
        ]

-- all rows of a text
pub rows_fit : (text : List ℕ) → rows_cost (rows_of text) ≤ length text + 1
rows_fit text = omega (arith, from_fit (length (strip_bom text) + 1) st.StartRecord (strip_bom text) refl, strip_bom-shorter text)
