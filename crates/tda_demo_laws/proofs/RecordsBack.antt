-- Records of a schema and a spine, written row by row, are accepted, and are given back.
use Rattle.std.proofs.Common.{◌≡◌, ℕ, suc, ◌+◌, ◌<◌, ◌≤◌, true, ◌&&◌, List, [], ◌∷◌, ◌++◌, length, get_or, map, Some, None, Ok, codes, refl, sym, ap, ◌∙◌, arith, position}
use Rattle.std.specs.List.{flat_map, AllByRecursion}
use Rattle.std.specs.Str.{bytes_eq}
use Rattle.std.specs.Cmp.Lexicographic.{bytes_decides}
use Rattle.std.proofs.lemmas.List.{length-map}
use Rattle.std.proofs.lemmas.List.FromFn.{length-map-range_with_len, get_or-map-range_with_len}
use Rattle.csv.specs.Reading.{strip_bom}
use Rattle.tda_io.specs.Csv.{Row, first_fault, judged, or_else, same_row}
use Rattle.tda_io.specs.Texts.{name_test, row_text}
use Rattle.tda_io.proofs.PlainNames.{plain_name}
use Rattle.tda_model.specs.Schema.{Schema, Attribute}
use Rattle.tda_model.specs.Cells.{cell_count, is_possible, value_at}
use Rattle.tda_model.specs.Spine.{Spine, code_of}
use Rattle.tda_model.proofs.Sums.{each_range}
use Rattle.tda_schema.specs.Readers.{values_of}
use Rattle.tda_schema.proofs.WholeLemmas.{cell_of_possible}
use Rattle.tda_spine.specs.Judged.{row_number}
use Rattle.tda_spine.specs.Sound.{IsSound}
use Rattle.tda_records.specs.Records.{attribute_numbers, header, format, read, block_in, row_fault, record_of, IsRecordOf}
use Rattle.tda_records.specs.Cells.{HasCell}
use Rattle.tda_records.specs.declared.records.Record.{Record}
use Rattle.tda_records.proofs.RowLemmas.{block_is, no_fault, record_is}
use Rattle.tda_demo.specs.Names.{value_name}
use Rattle.tda_demo_laws.specs.RecordsText.{record_row, record_rows, records_text}
use Rattle.tda_demo_laws.proofs.OpenRows.{text_judged, IsOpenRow, IsPlainField}

-- a schema whose attributes have names, and whose values have names of their own
pub record HasValues (s : Schema) : Type 0 where
  pub some : 1 ≤ length s.attributes
  pub names : AllByRecursion (λ a. name_test 32 a.name ≡ true) s.attributes
  pub values : (cell a : ℕ) → cell < cell_count s → a < length s.attributes → position (λ v. bytes_eq v (value_name s a (value_at s cell a))) (values_of s a) ≡ Some (value_at s cell a)
  pub texts : (cell a : ℕ) → cell < cell_count s → a < length s.attributes → name_test 32 (value_name s a (value_at s cell a)) ≡ true

same_row_itself : (row : Row) → same_row row row ≡ true
same_row_itself [] = refl
same_row_itself (x ∷ xs) = ap (λ b. b && same_row xs xs) ((bytes_decides x x).1 refl) ∙ same_row_itself xs

plain_of_name : (most : ℕ) (name : List ℕ) → name_test most name ≡ true → IsPlainField name
plain_of_name most name h = let p = plain_name most name h in p.plain

unmarked : (names : Row) (rest : List ℕ) → strip_bom (row_text (codes "block" ∷ names) ++ rest) ≡ row_text (codes "block" ∷ names) ++ rest
unfolding strip_bom
unmarked [] rest = refl
unmarked (x ∷ xs) rest = refl

module _ (s : Schema) (sp : Spine) (sound : IsSound sp) (named : HasValues s) where
  possible_below : (cell : ℕ) → is_possible s cell ≡ true → cell < cell_count s
  possible_below cell is = cell_of_possible s cell is

  has_cell : (r : Record) → IsRecordOf s sp r → HasCell s (record_row s sp r) r.cell
  has_cell r is = record {
    in_range = possible_below r.cell is.possible;
    values = λ a below.
        let field = get_or-map-range_with_len (λ b. value_name s b (value_at s r.cell b)) 0 (length s.attributes) a a [] below (omega arith) in
        let after : a + 1 ≡ suc a = omega arith in
        ap (λ text. position (λ v. bytes_eq v text) (values_of s a)) (ap (λ n. get_or (record_row s sp r) n []) after ∙ field)
        ∙ named.values r.cell a (possible_below r.cell is.possible) below;
  }

  block_back : (r : Record) → IsRecordOf s sp r → block_in sp (record_row s sp r) ≡ Some r.block
  block_back r is =
      let last = is.block.last in
      let deep = sound.tree.deep in
      block_is sp (record_row s sp r) sound r.block is.block.here refl (omega arith)

  fine : (records : List Record) (earlier : List Row) → AllByRecursion (IsRecordOf s sp) records
      → first_fault (λ e row. row_fault s sp (row_number e) row) earlier (record_rows s sp records) ≡ None
  fine [] earlier h = refl
  fine (r ∷ rs) earlier h =
      let row = record_row s sp r in
      ap (λ o. or_else o (first_fault (λ e x. row_fault s sp (row_number e) x) (earlier ++ row ∷ []) (record_rows s sp rs)))
      (no_fault s sp (row_number earlier) row r.block (block_back r h.0) r.cell (has_cell r h.0) h.0.possible)
      ∙ fine rs (earlier ++ row ∷ []) h.1

  value_is : (records : List Record) → AllByRecursion (IsRecordOf s sp) records → map (record_of s sp) (record_rows s sp records) ≡ records
  value_is [] h = refl
  value_is (r ∷ rs) h =
      ap (λ x. x ∷ map (record_of s sp) (record_rows s sp rs)) (sym (record_is s sp 0 (record_row s sp r) r.block (block_back r h.0) r.cell (has_cell r h.0) h.0.possible))
      ∙ ap (λ xs. r ∷ xs) (value_is rs h.1)

  pub records_judged : (records : List Record) → AllByRecursion (IsRecordOf s sp) records → judged (format s sp) (header s ∷ record_rows s sp records) ≡ Ok records
  records_judged records h = rw (same_row_itself (header s), fine records [] h) (ap Ok (value_is records h))

  -- ---- the text
  wide : (r : Record) → length (record_row s sp r) ≡ length s.attributes + 1
  wide r = let l = length-map-range_with_len (λ a. value_name s a (value_at s r.cell a)) 0 (length s.attributes) in omega (arith, l)

  each_map : {X Y : Type 0} (P : Y → Type 0) (f : X → Y) (xs : List X) → AllByRecursion (λ x. P (f x)) xs → AllByRecursion P (map f xs)
  each_map P f [] h = tt
  each_map P f (x ∷ xs) h = (h.0, each_map P f xs h.1)

  open_rows : (records : List Record) → AllByRecursion (IsRecordOf s sp) records → AllByRecursion IsOpenRow (record_rows s sp records)
  open_rows [] h = tt
  open_rows (r ∷ rs) h =
      let is = h.0 in
      let w = wide r in
      let some = named.some in (
        record {
          wide = omega arith;
          fields = (
            plain_of_name 16 (code_of sp r.block) (sound.coded r.block is.block.here),
            each_map IsPlainField (λ a. value_name s a (value_at s r.cell a)) (attribute_numbers s) (each_range _ 0 (length s.attributes) (λ a lo hi.
                plain_of_name 32 (value_name s a (value_at s r.cell a)) (named.texts r.cell a (possible_below r.cell is.possible) (omega (arith, hi))))),
          );
        },
        open_rows rs h.1,
      )

  header_wide : length (header s) ≡ length s.attributes + 1
  header_wide = let l = length-map s.attributes (λ a. a.name) in omega (arith, l)

  open_header : IsOpenRow (header s)
  open_header =
      let some = named.some in
      let l = header_wide in
      record { wide = omega arith; fields = (refl, plain_names s.attributes named.names) }
    where
      plain_names : (xs : List Attribute) → AllByRecursion (λ a. name_test 32 a.name ≡ true) xs → AllByRecursion IsPlainField (map (λ a. a.name) xs)
      plain_names [] h = tt
      plain_names (x ∷ xs) h = (plain_of_name 32 x.name h.0, plain_names xs h.1)

  widths : (records : List Record) → AllByRecursion (λ row. length row ≡ length (header s)) (record_rows s sp records)
  widths [] = tt
  widths (r ∷ rs) = (wide r ∙ sym header_wide, widths rs)

  no_mark : (rest : List ℕ) → strip_bom (row_text (header s) ++ rest) ≡ row_text (header s) ++ rest
  no_mark rest = unmarked (map (λ a. a.name) s.attributes) rest

  pub records_back : (records : List Record) → AllByRecursion (IsRecordOf s sp) records → read s sp (records_text s sp records) ≡ Ok records
  records_back records h =
      text_judged (format s sp) (header s) (record_rows s sp records) (open_header, open_rows records h) (widths records) (no_mark (flat_map row_text (record_rows s sp records)))
      ∙ records_judged records h
