-- Facilities of a schema and a spine, written row by row, are accepted, and each unit has those that were written for it.
use Rattle.std.proofs.Common.{◌≡◌, ◌≢◌, ℕ, ◌-◌, ◌<◌, ◌≤◌, ◌^◌, Bool, true, false, ◌&&◌, ◌||◌, ◌==◌, cond, List, [], ◌∷◌, ◌++◌, length, Some, None, option_map, unwrap_or, find, Ok, pos, refl, sym, ap, ◌∙◌, arith, inl, inr, eq-eqb, ne_eqb}
use Rattle.std.specs.Fmt.{decimal}
use Rattle.std.specs.List.{flat_map, AllByRecursion, list_any}
use Rattle.std.specs.Str.{bytes_eq}
use Rattle.std.specs.Cmp.Lexicographic.{bytes_decides}
use Rattle.std.proofs.lemmas.Bool.{cases_Bool, cases_eq, lt-ltb, le-leb}
use Rattle.std.proofs.lemmas.List.Folds.{list_any-append}
use Rattle.std.proofs.lemmas.Option.{same_Some}
use Rattle.csv.specs.Reading.{strip_bom}
use Rattle.tda_io.specs.Csv.{Row, first_fault, or_else}
use Rattle.tda_io.specs.Texts.{name_test, row_text}
use Rattle.tda_io.proofs.Numbers.{int_of-decimal}
use Rattle.tda_io.proofs.PlainNames.{plain_name}
use Rattle.tda_io.proofs.PlainRows.{plain_decimal}
use Rattle.tda_model.specs.Schema.{Schema}
use Rattle.tda_model.specs.Groups.{kind_count}
use Rattle.tda_model.specs.Spine.{Spine, IsUnit, code_of}
use Rattle.tda_spine.specs.Counts.{is_named}
use Rattle.tda_spine.specs.Sound.{IsSound}
use Rattle.tda_records.specs.Records.{IsBlock}
use Rattle.tda_invar.specs.Fields.{count_named, IsNamed}
use Rattle.tda_invar.specs.KindTable.{NumberTable, number_at}
use Rattle.tda_invar.specs.Facilities.{facilities_limit, block_in, kind_in, kind_named, facilities_in, facilities_for, is_repeated, names_both, row_fault, format, facilities_of, read}
use Rattle.tda_invar.proofs.UnitLemmas.{own_code, other_code}
use Rattle.tda_invar.proofs.FacilityRows.{no_fault, judged_ok}
use Rattle.tda_invar.proofs.TableLemmas.{number_in}
use Rattle.tda_demo.specs.Names.{value_name}
use Rattle.tda_demo_laws.specs.FacilitiesText.{Entry, entry_row, entry_rows, header, entries_text, is_of, count_of}
use Rattle.tda_demo_laws.proofs.OpenRows.{text_judged, IsOpenRow, IsPlainField}

-- kinds that have names of their own
pub record HasKindNames (s : Schema) : Type 0 where
  pub named : (k : ℕ) → k < kind_count s → kind_named s (value_name s 0 k) ≡ Some k
  pub texts : (k : ℕ) → k < kind_count s → name_test 32 (value_name s 0 k) ≡ true

-- facilities of a kind of quarters other than households in a block
pub record IsEntry (s : Schema) (sp : Spine) (e : Entry) : Type 0 where
  pub block : IsBlock sp e.unit
  pub some : 1 ≤ e.kind
  pub kind : e.kind < kind_count s
  pub few : e.count ≤ facilities_limit

abbrev pub IsOther : Entry → Entry → Type 0
IsOther e f = e.unit ≡ f.unit → e.kind ≡ f.kind → ⊥

-- no block and kind stand twice
abbrev pub AreOnce : List Entry → Type 0
AreOnce [] = Unit {0}
AreOnce (e ∷ es) = AllByRecursion (λ f. IsOther e f) es × AreOnce es

plain_of_name : (most : ℕ) (name : List ℕ) → name_test most name ≡ true → IsPlainField name
plain_of_name most name h = let p = plain_name most name h in p.plain

count_back : (n : ℕ) → n ≤ facilities_limit → count_named facilities_limit (decimal n) ≡ Some n
count_back n h = let spells = int_of-decimal (pos n) (lt-ltb n (2 ^ 127) (omega arith)) in rw (spells, le-leb n facilities_limit h) refl

and_false : (b : Bool) → (b && false) ≡ false
and_false true = refl
and_false false = refl

module _ (s : Schema) (sp : Spine) (sound : IsSound sp) (names : HasKindNames s) where
  abbrev row : Entry → Row
  row e = entry_row s sp e

  is_at_block : (e : Entry) → IsEntry s sp e → IsNamed sp (sp.depth - 1) (block_in (row e)) e.unit
  is_at_block e h = record { here = h.block.here; at = h.block.last; named = refl }

  kind_apart : (e f : Entry) → IsEntry s sp e → IsEntry s sp f → e.kind ≢ f.kind → bytes_eq (kind_in (row e)) (kind_in (row f)) ≡ false
  kind_apart e f he hf ne = elim (cases_Bool (bytes_eq (kind_in (row e)) (kind_in (row f)))) [
    | inl same ↦ absurd (ne (same_Some e.kind f.kind (sym (names.named e.kind he.kind) ∙ ap (kind_named s) ((bytes_decides _ _).0 same) ∙ names.named f.kind hf.kind)))
    | inr differ ↦ differ
  ]

  rows_apart : (e f : Entry) → IsEntry s sp e → IsEntry s sp f → IsOther f e → (bytes_eq (block_in (row e)) (block_in (row f)) && bytes_eq (kind_in (row e)) (kind_in (row f))) ≡ false
  rows_apart e f he hf other = elim (cases_eq e.unit f.unit) [
    | inl u ↦
        let kinds = kind_apart e f he hf (λ k. other (sym u) (sym k)) in
        ap (λ b. bytes_eq (block_in (row e)) (block_in (row f)) && b) kinds ∙ and_false (bytes_eq (block_in (row e)) (block_in (row f)))
    | inr ne ↦
        let codes_differ = other_code sp sound e.unit f.unit (code_of sp f.unit) he.block.here hf.block.here refl ne in
        ap (λ b. b && bytes_eq (kind_in (row e)) (kind_in (row f))) codes_differ
  ]

  -- no earlier row has the block and kind of one of these
  abbrev AreNew : List Row → List Entry → Type 0
  AreNew earlier es = AllByRecursion (λ e. is_repeated earlier (row e) ≡ false) es

  new_more : (f : Entry) (earlier : List Row) (es : List Entry) → IsEntry s sp f → AllByRecursion (IsEntry s sp) es → AllByRecursion (λ e. IsOther f e) es
      → AreNew earlier es → AreNew (earlier ++ row f ∷ []) es
  new_more f earlier [] hf hs others new = tt
  new_more f earlier (e ∷ es) hf hs others new =
      let test : Row → Bool = λ x. bytes_eq (block_in (row e)) (block_in x) && bytes_eq (kind_in (row e)) (kind_in x) in (
        list_any-append test earlier (row f ∷ [])
            ∙ ap (λ b. b || list_any test (row f ∷ [])) new.0
            ∙ ap (λ b. b || false) (rows_apart e f hs.0 hf others.0),
        new_more f earlier es hf hs.1 others.1 new.1,
      )

  fine : (es : List Entry) (earlier : List Row) → AllByRecursion (IsEntry s sp) es → AreOnce es → AreNew earlier es → first_fault (row_fault s sp) earlier (entry_rows s sp es) ≡ None
  fine [] earlier hs once new = refl
  fine (e ∷ es) earlier hs once new =
      let h = hs.0 in
      let some = h.some in
      ap (λ o. or_else o (first_fault (row_fault s sp) (earlier ++ row e ∷ []) (entry_rows s sp es)))
      (no_fault s sp (row e) earlier e.unit (is_at_block e h) e.kind (names.named e.kind h.kind) (λ z. omega arith) e.count (count_back e.count h.few) new.0)
      ∙ fine es (earlier ++ row e ∷ []) hs.1 once.1 (new_more e earlier es h hs.1 once.0 new.1)

  -- ---- the value
  module _ (u k : ℕ) (here : IsUnit sp u) where
    names_is : (e : Entry) → IsEntry s sp e → names_both s sp u k (row e) ≡ is_of u k e
    names_is e h =
        ap (λ o. bytes_eq (code_of sp u) (code_of sp e.unit) && is_named k o) (names.named e.kind h.kind)
        ∙ ap (λ b. b && (k == e.kind)) (unit_is e h)
      where
        unit_is : (f : Entry) → IsEntry s sp f → bytes_eq (code_of sp u) (code_of sp f.unit) ≡ (u == f.unit)
        unit_is f hf = elim (cases_eq u f.unit) [
          | inl e ↦ own_code sp u (code_of sp f.unit) (ap (code_of sp) e) ∙ sym (eq-eqb u f.unit e)
          | inr ne ↦ other_code sp sound u f.unit (code_of sp f.unit) here hf.block.here refl ne ∙ sym (ne_eqb u f.unit ne)
        ]

    found_is : (es : List Entry) → AllByRecursion (IsEntry s sp) es → facilities_for s sp (entry_rows s sp es) u k ≡ count_of es u k
    found_is [] h = refl
    found_is (e ∷ es) h =
        ap (λ b. unwrap_or (option_map facilities_in (cond b (Some (row e)) (find (names_both s sp u k) (entry_rows s sp es)))) 0) (names_is e h.0)
        ∙ by (is_of u k e) (found_is es h.1)
      where
        by : (b : Bool) → facilities_for s sp (entry_rows s sp es) u k ≡ count_of es u k
            → unwrap_or (option_map facilities_in (cond b (Some (row e)) (find (names_both s sp u k) (entry_rows s sp es)))) 0 ≡ unwrap_or (option_map (λ f. f.count) (cond b (Some e) (find (is_of u k) es))) 0
        by true rest = let few = h.0.few in ap (λ o. unwrap_or o 0) (count_back e.count few)
        by false rest = rest

  -- the table of the facilities
  abbrev pub table : List Entry → NumberTable
  table es = facilities_of s sp (entry_rows s sp es)

  pub number_is : (es : List Entry) → AllByRecursion (IsEntry s sp) es → (u k : ℕ) → IsUnit sp u → k < kind_count s → number_at (table es) u k ≡ count_of es u k
  number_is es h u k here below = number_in (length sp.units) (kind_count s) (facilities_for s sp (entry_rows s sp es)) u k here below ∙ found_is u k here es h

  -- ---- the text
  open_rows : (es : List Entry) → AllByRecursion (IsEntry s sp) es → AllByRecursion IsOpenRow (entry_rows s sp es)
  open_rows [] h = tt
  open_rows (e ∷ es) h =
      let is = h.0 in
      let few = is.few in
      let digits = plain_decimal e.count (omega arith) in (
        record {
          wide = omega arith;
          fields = (plain_of_name 16 (code_of sp e.unit) (sound.coded e.unit is.block.here), (plain_of_name 32 (value_name s 0 e.kind) (names.texts e.kind is.kind), (digits.plain, tt)));
        },
        open_rows es h.1,
      )

  widths : (es : List Entry) → AllByRecursion (λ x. length x ≡ 3) (entry_rows s sp es)
  widths [] = tt
  widths (e ∷ es) = (refl, widths es)

  open_header : IsOpenRow header
  open_header = record { wide = omega arith; fields = (refl, (refl, (refl, tt))) }

  no_mark : (rest : List ℕ) → strip_bom (row_text header ++ rest) ≡ row_text header ++ rest
  unfolding strip_bom
  no_mark rest = refl

  all_new : (es : List Entry) → AreNew [] es
  all_new [] = tt
  all_new (e ∷ es) = (refl, all_new es)

  pub facilities_back : (es : List Entry) → AllByRecursion (IsEntry s sp) es → AreOnce es → read s sp (entries_text s sp es) ≡ Ok (table es)
  facilities_back es h once =
      text_judged (format s sp) header (entry_rows s sp es) (open_header, open_rows es h) (widths es) (no_mark (flat_map row_text (entry_rows s sp es)))
      ∙ judged_ok s sp (header ∷ entry_rows s sp es) refl (fine es [] h once (all_new es))
