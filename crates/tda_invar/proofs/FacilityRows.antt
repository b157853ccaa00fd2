-- What the entries of places say of the rows of a file of facilities.
use Rattle.std.proofs.Common.{◌≡◌, ◌≢◌, ℕ, ◌+◌, ◌-◌, ◌*◌, ◌/◌, ◌%◌, ◌<◌, ◌≤◌, Bool, true, false, ◌&&◌, not, List, [], ◌∷◌, map, length, get_or, take, Option, Some, None, is_some, is_none, unwrap_or, option_map, position, refl, sym, ap, subst, ◌∙◌, inl, inr, arith, All, sum_by, Ok, Err, eqb, ◌==◌, cond, ne_eqb, eq-eqb}
use Rattle.std.proofs.lemmas.Bool.{cases_Bool, cases_eq, eqb-true}
use Rattle.std.proofs.lemmas.Nat.{div-mul-add, mod-mul-add, div-add-mod', div_below, mul-add-lt}
use Rattle.std.proofs.lemmas.List.{get_or-map, length-map}
use Rattle.std.proofs.lemmas.List.Elements.{All-from_get_or}
use Rattle.std.proofs.lemmas.List.Quantifiers.{position-Some}
use Rattle.std.proofs.lemmas.Option.{same_Some}
use Rattle.std.specs.Cmp.Lexicographic.{bytes_decides}
use Rattle.std.specs.List.{list_any, range_with_len}
use Rattle.std.specs.Str.{bytes_eq}
use Rattle.tda_io.specs.Csv.{Row, first_fault, has_header, after_header, judged}
use Rattle.tda_model.specs.Schema.{Schema}
use Rattle.tda_model.specs.Groups.{kind_count}
use Rattle.tda_model.specs.Spine.{Spine, IsUnit, code_of}
use Rattle.tda_schema.specs.Readers.{values_of}
use Rattle.tda_spine.specs.Counts.{is_named}
use Rattle.tda_spine.specs.Sound.{IsSound}
use Rattle.tda_spine.specs.Judged.{row_number}
use Rattle.tda_invar.specs.Fields.{field_in, IsNamed}
use Rattle.tda_invar.specs.Entries.{Says, Gathered}
use Rattle.tda_invar.specs.KindTable.{NumberTable}
use Rattle.tda_invar.specs.Facilities.{facilities_limit, block_in, kind_in, kind_named, count_in, facilities_in, facilities_for, is_repeated, names_both, names_place, row_fault, format, facilities_of}
use Rattle.tda_invar.specs.declared.fac_fault.FacFault.TheVariants.{UnknownKind, Household, BadCount, Repeated}
use Rattle.tda_invar.proofs.UnitLemmas.{is_unit_yes, own_code, other_code}
use Rattle.tda_invar.proofs.EntryLemmas.{entry_at, entered, numbers_are}
use Rattle.tda_invar.proofs.TotalRows.{count_small, counted_small}

-- the kind that a name has is that of another name exactly where the two are the same
named_as : (vs : List (List ℕ)) (a b : List ℕ) (k : ℕ) → position (λ v. bytes_eq v a) vs ≡ Some k → is_named k (position (λ v. bytes_eq v b) vs) ≡ bytes_eq a b
named_as vs a b k e = by (position (λ v. bytes_eq v b) vs) refl
  where
    at : (text : List ℕ) (i : ℕ) → position (λ v. bytes_eq v text) vs ≡ Some i → get_or vs i [] ≡ text
    at text i h = (bytes_decides (get_or vs i []) text).0 (position-Some (λ v. bytes_eq v text) vs i [] h).1

    some : (i : ℕ) → position (λ v. bytes_eq v b) vs ≡ Some i → (t : Bool) → bytes_eq a b ≡ t → (k == i) ≡ t
    some i h true same =
        let is : a ≡ b = (bytes_decides a b).0 same in
        let one : k ≡ i = same_Some k i (sym e ∙ ap (λ text. position (λ v. bytes_eq v text) vs) is ∙ h) in
        eq-eqb k i one
    some i h false other = ne_eqb k i (λ one.
        let is : a ≡ b = sym (at a k e) ∙ ap (λ j. get_or vs j []) one ∙ at b i h in
        let same = (bytes_decides a b).1 is in cc)

    none : position (λ v. bytes_eq v b) vs ≡ None → (t : Bool) → bytes_eq a b ≡ t → false ≡ t
    none h true same =
        let is : a ≡ b = (bytes_decides a b).0 same in
        let there = sym e ∙ ap (λ text. position (λ v. bytes_eq v text) vs) is ∙ h in cc
    none h false other = refl

    by : (o : Option ℕ) → position (λ v. bytes_eq v b) vs ≡ o → is_named k o ≡ bytes_eq a b
    by (Some i) h = some i h (bytes_eq a b) refl
    by None h = none h (bytes_eq a b) refl

number_small : (row : Row) → facilities_in row ≤ facilities_limit
number_small row = by (count_in row) refl
  where
    by : (o : Option ℕ) → count_in row ≡ o → unwrap_or o 0 ≤ facilities_limit
    by (Some n) e = count_small facilities_limit (field_in row 2) n e
    by None e = omega arith

any-same : (p q : Row → Bool) (rows : List Row) → ((row : Row) → p row ≡ q row) → list_any p rows ≡ list_any q rows
any-same p q [] h = refl
any-same p q (row ∷ rows) h = let here = h row in let rest = any-same p q rows h in rw (here, rest) refl

and_false : (a b : Bool) → b ≡ false → (a && b) ≡ false
and_false true b e = e
and_false false b e = refl

module _ (s : Schema) (sp : Spine) where
  abbrev places : ℕ
  places = length sp.units * kind_count s

  -- a row of a block and a kind
  module _ (row : Row) (u k level : ℕ) (h : IsNamed sp level (block_in row) u) (named : kind_named s (kind_in row) ≡ Some k) (in_range : k < kind_count s) where
    abbrev pub place : ℕ
    place = u * kind_count s + k

    place_unit : place / kind_count s ≡ u
    place_unit = div-mul-add u (kind_count s) k in_range

    place_kind : place % kind_count s ≡ k
    place_kind = mod-mul-add u (kind_count s) k in_range

    -- the rows that name the place are those of its block and its kind
    same_place : (e : Row) → names_place s sp place e ≡ (bytes_eq (block_in row) (block_in e) && bytes_eq (kind_in row) (kind_in e))
    same_place e =
        ap (λ v. names_both s sp v (place % kind_count s) e) place_unit
        ∙ ap (λ v. names_both s sp u v e) place_kind
        ∙ ap (λ code. bytes_eq code (block_in e) && is_named k (kind_named s (kind_in e))) h.named
        ∙ ap (λ t. bytes_eq (block_in row) (block_in e) && t) (named_as (values_of s 0) (kind_in row) (kind_in e) k named)

    pub repeated_is : (earlier : List Row) → list_any (names_place s sp place) earlier ≡ is_repeated earlier row
    repeated_is earlier = any-same (names_place s sp place) (λ e. bytes_eq (block_in row) (block_in e) && bytes_eq (kind_in row) (kind_in e)) earlier same_place

    pub within : place < places
    within = let here = h.here in omega (arith, mul-add-lt u (kind_count s) k (length sp.units) h.here in_range)

    pub is_repeated_by : (earlier : List Row) (entries : List (Option ℕ)) → Gathered places (names_place s sp) facilities_in earlier entries
        → is_some (entry_at entries place) ≡ is_repeated earlier row
    is_repeated_by earlier entries g = entered places (names_place s sp) facilities_in earlier entries place g within ∙ repeated_is earlier

    -- the row names its own place alone
    own : IsSound sp → (p : ℕ) → p < places → names_place s sp p row ≡ (p == place)
    own sound p l = elim (cases_eq p place) [
      | inl e ↦ ap (λ v. names_place s sp v row) e ∙ same_place row
          ∙ both_same ∙ sym (eq-eqb p place e)
      | inr ne ↦ not_named ne ∙ sym (ne_eqb p place ne)
    ]
      where
        both_same : (bytes_eq (block_in row) (block_in row) && bytes_eq (kind_in row) (kind_in row)) ≡ true
        both_same =
            let block = (bytes_decides (block_in row) (block_in row)).1 refl in
            let kind = (bytes_decides (kind_in row) (kind_in row)).1 refl in rw (block, kind) refl

        back : p / kind_count s * kind_count s + p % kind_count s ≡ p
        back = div-add-mod' p (kind_count s)

        unit_in : p / kind_count s < length sp.units
        unit_in = div_below p (kind_count s) (length sp.units) (omega arith) l

        other_kind : (m : ℕ) → m ≢ k → is_named m (kind_named s (kind_in row)) ≡ false
        other_kind m ne = rw named (ne_eqb m k ne)

        not_named : p ≢ place → names_place s sp p row ≡ false
        not_named ne = elim (cases_eq (p / kind_count s) u) [
          | inl unit ↦ elim (cases_eq (p % kind_count s) k) [
            | inl kind ↦ absurd (ne (sym back ∙ ap (λ v. v * kind_count s + p % kind_count s) unit ∙ ap (λ v. u * kind_count s + v) kind))
            | inr other ↦ and_false (bytes_eq (code_of sp (p / kind_count s)) (block_in row)) _ (other_kind (p % kind_count s) other)
          ]
          | inr other ↦ ap (λ t. t && is_named (p % kind_count s) (kind_named s (kind_in row))) (other_code sp sound (p / kind_count s) u (block_in row) unit_in h.here h.named other)
        ]

    pub says : IsSound sp → (earlier : List Row) (count : ℕ) → is_repeated earlier row ≡ false → count_in row ≡ Some count
        → Says places (names_place s sp) facilities_in earlier row place count
    says sound earlier count first counts = record {
      within = within;
      own = own sound;
      first = repeated_is earlier ∙ first;
      counts = ap (λ o. unwrap_or o 0) counts;
    }

  -- ---- the fault of a row of a block
  module _ (row : Row) (earlier : List Row) (u : ℕ) (h : IsNamed sp (sp.depth - 1) (block_in row) u) where
    pub fault_kind : kind_named s (kind_in row) ≡ None → row_fault s sp earlier row ≡ Some (UnknownKind (row_number earlier))
    fault_kind none = rw (is_unit_yes sp (sp.depth - 1) (block_in row) u h, none) refl

    pub fault_household : kind_named s (kind_in row) ≡ Some 0 → row_fault s sp earlier row ≡ Some (Household (row_number earlier))
    fault_household first = rw (is_unit_yes sp (sp.depth - 1) (block_in row) u h, first) refl

    module _ (k : ℕ) (named : kind_named s (kind_in row) ≡ Some k) (other : k ≢ 0) where
      not_first : (0 == k) ≡ false
      not_first = ne_eqb 0 k (λ e. other (sym e))

      pub fault_count : count_in row ≡ None → row_fault s sp earlier row ≡ Some (BadCount (row_number earlier))
      fault_count none = rw (is_unit_yes sp (sp.depth - 1) (block_in row) u h, named, not_first, none) refl

      pub fault_again : (count : ℕ) → count_in row ≡ Some count → is_repeated earlier row ≡ true → row_fault s sp earlier row ≡ Some (Repeated (row_number earlier))
      fault_again count counts again = rw (is_unit_yes sp (sp.depth - 1) (block_in row) u h, named, not_first, counts, again) refl

      pub no_fault : (count : ℕ) → count_in row ≡ Some count → is_repeated earlier row ≡ false → row_fault s sp earlier row ≡ None
      no_fault count counts first = rw (is_unit_yes sp (sp.depth - 1) (block_in row) u h, named, not_first, counts, first) refl

  -- ---- the whole file
  module _ (rows : List Row) (entries : List (Option ℕ)) (g : Gathered places (names_place s sp) facilities_in rows entries) where
    pub numbers_of_rows : map (λ e. unwrap_or e 0) entries ≡ (facilities_of s sp rows).numbers
    numbers_of_rows = numbers_are places (names_place s sp) facilities_in rows entries g

    pub numbers_small : All (λ n. n ≤ facilities_limit) (map (λ e. unwrap_or e 0) entries)
    numbers_small =
        All-from_get_or (λ n. n ≤ facilities_limit) (map (λ e. unwrap_or e 0) entries) 0 (λ p l.
        let len = length-map entries (λ e. unwrap_or e 0) in
        let size = g.size in
        let is = get_or-map (λ e. unwrap_or e 0) entries p None 0 (omega arith) ∙ ap (λ e. unwrap_or e 0) (g.entry p (omega arith)) in
        let small = counted_small facilities_limit (names_place s sp p) facilities_in number_small rows in
        let P : ℕ → Type 0 = λ n. n ≤ facilities_limit in subst P (sym is) small)

  pub judged_ok : (rows : List Row) → has_header (format s sp).header rows ≡ true → first_fault (row_fault s sp) [] (after_header rows) ≡ None
      → judged (format s sp) rows ≡ Ok (facilities_of s sp (after_header rows))
  judged_ok rows header fine = rw (header, fine) refl
