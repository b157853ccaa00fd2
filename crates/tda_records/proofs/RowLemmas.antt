-- What a row names: its block and its cell.
use Rattle.std.proofs.Common.{◌≡◌, ◌≢◌, ℕ, ◌+◌, ◌-◌, ◌<◌, true, false, List, [], ◌∷◌, length, get_or, Some, None, is_none, refl, sym, ap, ◌∙◌, inl, inr, arith, eq-eqb}
use Rattle.std.proofs.lemmas.Bool.{cases_lt, eqb-true}
use Rattle.std.proofs.lemmas.Option.{same_Some, slice_get-get_or}
use Rattle.std.proofs.lemmas.List.Quantifiers.{position-Some}
use Rattle.std.specs.Prelude.{slice_get}
use Rattle.std.specs.Cmp.Lexicographic.{bytes_decides}
use Rattle.std.specs.Str.{bytes_eq}
use Rattle.tda_io.specs.Csv.{Row}
use Rattle.tda_io.specs.Texts.{name_test}
use Rattle.tda_model.specs.Schema.{Schema}
use Rattle.tda_model.specs.Cells.{cell_count, is_possible, value_at}
use Rattle.tda_model.specs.Spine.{Spine, IsUnit, code_of, level_of, is_at}
use Rattle.tda_schema.specs.Readers.{values_of}
use Rattle.tda_spine.specs.Counts.{is_named}
use Rattle.tda_spine.specs.Sound.{IsSound}
use Rattle.tda_records.specs.Cells.{HasCell}
use Rattle.tda_records.specs.Records.{block_in, cell_in, value_in, has_values_in, has_unknown_value, row_fault, record_of}
use Rattle.tda_records.specs.declared.fault.RecFault.TheVariants.{UnknownBlock, UnknownValue, ImpossibleCell}
use Rattle.tda_records.proofs.CellNumbers.{same_cell}
use Rattle.tda_records.proofs.Ranges.{none_kept, one_kept, all_pass, each_passes, none_passes, one_passes}

-- ---- blocks
-- a code is that of one unit
same_unit : (sp : Spine) → IsSound sp → (u v : ℕ) → IsUnit sp u → IsUnit sp v → code_of sp u ≡ code_of sp v → u ≡ v
same_unit sp sound u v in_u in_v same = elim (cases_lt u v) [
  | inl lt ↦ absurd (sound.distinct u v lt in_v same)
  | inr ge ↦ elim (cases_lt v u) [
    | inl gt ↦ absurd (sound.distinct v u gt in_u (sym same))
    | inr le ↦ omega arith
  ]
]

module _ (sp : Spine) (row : Row) where
  abbrev code : List ℕ
  code = get_or row 0 []

  is_code : (u : ℕ) → bytes_eq code (code_of sp u) ≡ true → code ≡ code_of sp u
  is_code u same = (bytes_decides code (code_of sp u)).0 same

  -- no unit has the code
  pub no_block : ((u : ℕ) → IsUnit sp u → code_of sp u ≡ code → ⊥) → block_in sp row ≡ None
  no_block absent =
      none_kept (λ u. bytes_eq code (code_of sp u)) (is_at sp (sp.depth - 1)) (length sp.units) (λ u here at same.
      absurd (absent u here (sym (is_code u same))))

  module _ (sound : IsSound sp) (u : ℕ) (here : IsUnit sp u) (named : code_of sp u ≡ code) where
    -- the unit of the code is of another level
    pub other_level : level_of sp u + 1 ≢ sp.depth → block_in sp row ≡ None
    other_level other =
        none_kept (λ v. bytes_eq code (code_of sp v)) (is_at sp (sp.depth - 1)) (length sp.units) (λ v in_v at same.
        let one : v ≡ u = same_unit sp sound v u in_v here (sym (is_code v same) ∙ sym named) in
        let level : level_of sp v ≡ sp.depth - 1 = eqb-true (level_of sp v) (sp.depth - 1) at in
        let deep = sound.tree.deep in
        let level_u : level_of sp u ≡ level_of sp v = ap (level_of sp) (sym one) in
        absurd (other (omega (arith, level, deep, level_u))))

    pub block_is : level_of sp u + 1 ≡ sp.depth → block_in sp row ≡ Some u
    block_is last =
        let level : level_of sp u ≡ sp.depth - 1 = omega (arith, last) in
        one_kept (λ v. bytes_eq code (code_of sp v)) (is_at sp (sp.depth - 1)) (length sp.units) u here
        (eq-eqb (level_of sp u) (sp.depth - 1) level)
        ((bytes_decides code (code_of sp u)).1 (sym named))
        (λ v in_v same. same_unit sp sound v u in_v here (sym (is_code v same) ∙ sym named))

-- ---- cells
module _ (s : Schema) (row : Row) where
  pub unknown_value : (a : ℕ) → a < length s.attributes → value_in s row a ≡ None → has_unknown_value s row ≡ true
  unknown_value a below none = one_passes (λ b. is_none (value_in s row b)) (length s.attributes) a below (rw none refl)

  module _ (cell : ℕ) (has : HasCell s row cell) where
    pub known_values : has_unknown_value s row ≡ false
    known_values = none_passes (λ a. is_none (value_in s row a)) (length s.attributes) (λ a below. rw (has.values a below) refl)

    has_its : has_values_in s row cell ≡ true
    has_its =
        all_pass (λ a. is_named (value_at s cell a) (value_in s row a)) (length s.attributes) (λ a below.
        rw (has.values a below) (eq-eqb (value_at s cell a) (value_at s cell a) refl))

    -- no other cell has these values
    alone : (other : ℕ) → other < cell_count s → has_values_in s row other ≡ true → other ≡ cell
    alone other in_range all =
        same_cell s.attributes other cell in_range has.in_range (λ a below.
        let named = each_passes (λ b. is_named (value_at s other b) (value_in s row b)) (length s.attributes) all a below in
        eqb-true (value_at s other a) (value_at s cell a) (rw (has.values a below) at named))

    pub cell_is : is_possible s cell ≡ true → cell_in s row ≡ Some cell
    cell_is possible =
        one_kept (has_values_in s row) (is_possible s) (cell_count s) cell has.in_range possible has_its alone

    pub no_cell : is_possible s cell ≡ false → cell_in s row ≡ None
    no_cell impossible =
        none_kept (has_values_in s row) (is_possible s) (cell_count s) (λ j in_range possible all.
        let one : j ≡ cell = alone j in_range all in
        cc (ap (is_possible s) one))

-- ---- rows
module _ (s : Schema) (sp : Spine) (number : ℕ) (row : Row) where
  pub fault_block : block_in sp row ≡ None → row_fault s sp number row ≡ Some (UnknownBlock number)
  fault_block none = rw none refl

  module _ (u : ℕ) (block : block_in sp row ≡ Some u) where
    pub fault_value : has_unknown_value s row ≡ true → row_fault s sp number row ≡ Some (UnknownValue number)
    fault_value unknown = rw (block, unknown) refl

    module _ (cell : ℕ) (has : HasCell s row cell) where
      pub fault_cell : is_possible s cell ≡ false → row_fault s sp number row ≡ Some (ImpossibleCell number)
      fault_cell impossible = rw (block, known_values s row cell has, no_cell s row cell has impossible) refl

      module _ (possible : is_possible s cell ≡ true) where
        pub no_fault : row_fault s sp number row ≡ None
        no_fault = rw (block, known_values s row cell has, cell_is s row cell has possible) refl

        pub record_is : record { block = u; cell = cell } ≡ record_of s sp row
        record_is = rw (block, cell_is s row cell has possible) refl

-- ---- bytes
is_filled : (most : ℕ) (name : List ℕ) → name_test most name ≡ true → 0 < length name
is_filled most [] is = cc is
is_filled most (b ∷ bs) is = omega arith

-- a value has at least one byte
pub filled : (s : Schema) (row : Row) (v : ℕ) (name : List ℕ) → value_in s row 0 ≡ Some v → slice_get (values_of s 0) v ≡ Some name → name_test 32 name ≡ true → 0 < length (get_or row 1 [])
filled s row v name named there is =
    let at = position-Some (λ x. bytes_eq x (get_or row 1 [])) (values_of s 0) v [] named in
    let field : get_or (values_of s 0) v [] ≡ get_or row 1 [] = (bytes_decides (get_or (values_of s 0) v []) (get_or row 1 [])).0 at.1 in
    let value : get_or (values_of s 0) v [] ≡ name = same_Some _ _ (sym (slice_get-get_or (values_of s 0) v [] at.0) ∙ there) in
    let some = is_filled 32 name is in
    rw (← field, value) some
