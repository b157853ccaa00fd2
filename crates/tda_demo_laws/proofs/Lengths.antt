-- The demo's files are short, and it has few records.
use Rattle.std.proofs.Common.{◌≡◌, ℕ, zero, suc, ◌+◌, ◌-◌, ◌*◌, ◌≤◌, ◌^◌, Bool, true, false, ◌&&◌, List, [], ◌∷◌, length, refl, arith, length-append}
use Rattle.std.specs.Fmt.{decimal}
use Rattle.std.specs.List.{flat_map, range_with_len, AllByRecursion}
use Rattle.std.proofs.lemmas.Bool.{leb-true}
use Rattle.std.proofs.lemmas.Fmt.{length-decimal-le}
use Rattle.std.proofs.lemmas.Nat.{mod_below}
use Rattle.std.proofs.lemmas.List.{length-map}
use Rattle.std.proofs.lemmas.List.Elements.{All-from_recursion}
use Rattle.std.proofs.lemmas.List.FromFn.{length-map-range_with_len}
use Rattle.tda_io.specs.Csv.{Row}
use Rattle.tda_io.specs.Texts.{name_test, row_text}
use Rattle.tda_model.specs.Cells.{value_at}
use Rattle.tda_model.specs.Spine.{Spine, code_of, is_at}
use Rattle.tda_schema.proofs.WholeLemmas.{cell_of_possible}
use Rattle.tda_spine.specs.Sound.{IsSound}
use Rattle.tda_spine.proofs.Numbers.{length-kept-le}
use Rattle.tda_records.specs.Records.{header, IsRecordOf, AreRecordsOf}
use Rattle.tda_records.specs.declared.records.Record.{Record}
use Rattle.tda_demo.specs.Schema.{schema}
use Rattle.tda_demo.specs.Names.{value_name}
use Rattle.tda_demo_laws.specs.RecordsText.{record_row, record_rows, records_text}
use Rattle.tda_demo_laws.specs.FacilitiesText as fac
use Rattle.tda_demo_laws.specs.FacilitiesText.{Entry, entry_row, entry_rows, entries_text}
use Rattle.tda_demo.specs.Facilities.{has_dormitory, has_prison, kinds_where, block_count, block_unit}
use Rattle.tda_demo_laws.specs.DemoEntries.{block_facilities, facilities}
use Rattle.tda_demo.specs.Persons.{drawn, residents, further, first_word, drawn_persons, block_persons}
use Rattle.tda_demo_laws.specs.DemoRecords.{block_records, records}
use Rattle.tda_demo_laws.proofs.FacilitiesBack.{IsEntry}
use Rattle.tda_demo_laws.proofs.DemoRecords.{are_records, has_values}
use Rattle.tda_demo_laws.proofs.DemoFacilities.{are_entries, kind_names}

both : (a b : Bool) → (a && b) ≡ true → (a ≡ true) × (b ≡ true)
both true true h = (refl, refl)
both true false h = cc
both false b h = cc

pub name_length : (most : ℕ) (name : List ℕ) → name_test most name ≡ true → length name ≤ most
name_length most name h = leb-true (length name) most (both _ _ (both _ _ h).0).1

pub rows_short : (most : ℕ) (rows : List Row) → AllByRecursion (λ row. length (row_text row) ≤ most) rows → length (flat_map row_text rows) ≤ length rows * most
rows_short most [] h = omega arith
rows_short most (row ∷ rows) h = next (length (row_text row)) (length (flat_map row_text rows)) (length rows) (length (flat_map row_text (row ∷ rows))) h.0 (rows_short most rows h.1) (length-append (row_text row) (flat_map row_text rows))
  where
    next : (a b n c : ℕ) → a ≤ most → b ≤ n * most → c ≡ a + b → c ≤ suc n * most
    next a b n c small le is = omega arith

pub three_length : (a b c : List ℕ) → length (row_text (a ∷ b ∷ c ∷ [])) ≡ length a + length b + length c + 3
three_length a b c = simp length-append (omega arith)

four_length : (a b c d : List ℕ) → length (row_text (a ∷ b ∷ c ∷ d ∷ [])) ≡ length a + length b + length c + length d + 4
four_length a b c d = simp length-append (omega arith)

flat_short : {X : Type 0} (f : ℕ → List X) (most : ℕ) → ((i : ℕ) → length (f i) ≤ most) → (a n : ℕ) → length (flat_map f (range_with_len a n)) ≤ n * most
flat_short f most few a zero = omega arith
flat_short f most few a (suc n) = next (length (f a)) (length (flat_map f (range_with_len (a + 1) n))) (length (flat_map f (range_with_len a (suc n)))) (few a) (flat_short f most few (a + 1) n) (length-append (f a) (flat_map f (range_with_len (a + 1) n)))
  where
    next : (x y z : ℕ) → x ≤ most → y ≤ n * most → z ≡ x + y → z ≤ suc n * most
    next x y z small le is = omega arith

module _ (sp : Spine) (sound : IsSound sp) (few_units : length sp.units ≤ 1569) where
  few_blocks : block_count sp ≤ 1569
  few_blocks = let l = length-kept-le (is_at sp (sp.depth - 1)) (length sp.units) in omega (arith, l)

  module _ (words : ℕ → ℕ) where
    few_persons : (i : ℕ) → length (block_records sp words i) ≤ 17
    few_persons i =
        let made = length-map (block_persons words i) (λ c. let r : Record = record { block = block_unit sp i; cell = c } in r) in
        let parts = length-append (residents (has_dormitory i) (has_prison i)) (drawn_persons words i) in
        let drawn_ones = length-map-range_with_len (λ place. drawn (has_dormitory i) (has_prison i) (words place)) (first_word words i + 1) (further words (first_word words i)) in
        let own = two (has_dormitory i) (has_prison i) in
        let most = mod_below (words (first_word words i)) 16 (omega arith) in
        omega arith
      where
        two : (d p : Bool) → length (residents d p) ≤ 2
        two true true = omega arith
        two true false = omega arith
        two false true = omega arith
        two false false = omega arith

    pub few_records : length (records sp words) ≤ 26673
    few_records = let l = flat_short (block_records sp words) 17 few_persons 0 (block_count sp) in omega (arith, l, few_blocks)

    -- what the count of the records asks for
    pub are_few_records : AreRecordsOf schema sp (records sp words)
    are_few_records = record { each = All-from_recursion (IsRecordOf schema sp) (records sp words) (are_records sp words); few = omega (arith, few_records) }

    row_short : (r : Record) → IsRecordOf schema sp r → length (row_text (record_row schema sp r)) ≤ 116
    row_short r h =
        let low = cell_of_possible schema r.cell h.possible in
        let code = name_length 16 (code_of sp r.block) (sound.coded r.block h.block.here) in
        let a = name_length 32 (value_name schema 0 (value_at schema r.cell 0)) (has_values.texts r.cell 0 low (omega arith)) in
        let b = name_length 32 (value_name schema 1 (value_at schema r.cell 1)) (has_values.texts r.cell 1 low (omega arith)) in
        let c = name_length 32 (value_name schema 2 (value_at schema r.cell 2)) (has_values.texts r.cell 2 low (omega arith)) in
        let all = four_length (code_of sp r.block) (value_name schema 0 (value_at schema r.cell 0)) (value_name schema 1 (value_at schema r.cell 1)) (value_name schema 2 (value_at schema r.cell 2)) in
        omega (arith, all, code, a, b, c)

    rows_are_short : (rs : List Record) → AllByRecursion (IsRecordOf schema sp) rs → AllByRecursion (λ row. length (row_text row) ≤ 116) (record_rows schema sp rs)
    rows_are_short [] h = tt
    rows_are_short (r ∷ rs) h = (row_short r h.0, rows_are_short rs h.1)

    pub records_short : length (records_text schema sp (records sp words)) ≤ 2 ^ 28
    records_short =
        let body = rows_short 116 (record_rows schema sp (records sp words)) (rows_are_short (records sp words) (are_records sp words)) in
        let count = length-map (records sp words) (record_row schema sp) in
        let first : length (row_text (header schema)) ≡ 19 = refl in
        let all = length-append (row_text (header schema)) (flat_map row_text (record_rows schema sp (records sp words))) in
        omega (arith, body, count, few_records, first, all)

  few_entries : length (facilities sp) ≤ 3138
  few_entries =
      let l = flat_short (block_facilities sp) 2 (λ i.
      let made = length-map (kinds_where (has_dormitory i) (has_prison i)) (λ kind. let e : Entry = record { unit = block_unit sp i; kind = kind; count = 1 } in e) in
      let own = two (has_dormitory i) (has_prison i) in omega arith) 0 (block_count sp) in
      omega (arith, l, few_blocks)
    where
      two : (d p : Bool) → length (kinds_where d p) ≤ 2
      two true true = omega arith
      two true false = omega arith
      two false true = omega arith
      two false false = omega arith

  entry_short : (e : Entry) → IsEntry schema sp e → length (row_text (entry_row schema sp e)) ≤ 71
  entry_short e h =
      let few = h.few in
      let code = name_length 16 (code_of sp e.unit) (sound.coded e.unit h.block.here) in
      let kind = name_length 32 (value_name schema 0 e.kind) (kind_names.texts e.kind h.kind) in
      let digits = length-decimal-le 7 e.count (omega arith) (omega arith) (omega arith) in
      let all = three_length (code_of sp e.unit) (value_name schema 0 e.kind) (decimal e.count) in
      omega (arith, all, code, kind, digits)

  entries_are_short : (es : List Entry) → AllByRecursion (IsEntry schema sp) es → AllByRecursion (λ row. length (row_text row) ≤ 71) (entry_rows schema sp es)
  entries_are_short [] h = tt
  entries_are_short (e ∷ es) h = (entry_short e h.0, entries_are_short es h.1)

  pub facilities_short : length (entries_text schema sp (facilities sp)) ≤ 2 ^ 28
  facilities_short =
      let body = rows_short 71 (entry_rows schema sp (facilities sp)) (entries_are_short (facilities sp) (are_entries sp)) in
      let count = length-map (facilities sp) (entry_row schema sp) in
      let first : length (row_text fac.header) ≡ 17 = refl in
      let all = length-append (row_text fac.header) (flat_map row_text (entry_rows schema sp (facilities sp))) in
      omega (arith, body, count, few_entries, first, all)
