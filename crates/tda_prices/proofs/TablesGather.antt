-- The counts of the rows of a file of tables that were read so far.
use Rattle.std.proofs.Common.{◌≡◌, ℕ, suc, ◌+◌, ◌*◌, ◌-◌, ◌<◌, ◌≤◌, ◌&&◌, ◌==◌, ◌^◌, cond, Bool, true, false, List, [], ◌∷◌, ◌++◌, length, get_or, Option, Some, None, Ok, Err, pos, negsuc, ℤ, nat_le, refl, sym, ap, ◌∙◌, subst, inl, inr, arith}
use Rattle.std.specs.Option.{option_or}
use Rattle.std.specs.Prelude.{find, position, unwrap_or}
use Rattle.std.specs.Str.{bytes_eq}
use Rattle.std.proofs.lemmas.Bool.{cases_eq, cases_lt, eqb-true, false_from_ne_true, le-leb, leb-false, lt-ltb}
use Rattle.std.proofs.lemmas.List.{get_or-append_right, get_or_append_left, length_push}
use Rattle.std.proofs.lemmas.Nat.{same_from_place}
use Rattle.std.proofs.lemmas.List.Folds.{find-append}
use Rattle.std.proofs.lemmas.Option.{same_Some}
use Rattle.std.proofs.lemmas.Slice.Eq.{bytes_eq-Decides}
use Rattle.tda_io.specs.Csv.{Row, first_fault}
use Rattle.tda_io.specs.RowReading.{RowsRead, TakesRow, bad_rest, rest_due}
use Rattle.tda_io.specs.Texts.{int_of}
use Rattle.tda_io.proofs.RestDue.{Passed, all_passed, leads_on, leads_to, none_passed, passes, rest_bad, rest_fault, rest_fine}
use Rattle.tda_model.specs.Schema.{Schema}
use Rattle.tda_model.specs.Cells.{cell_count}
use Rattle.tda_model.specs.Spine.{Spine, code_of, IsUnit}
use Rattle.tda_model.specs.TablesText.{units_in_order}
use Rattle.tda_spine.specs.Sound.{IsSound}
use Rattle.tda_out.specs.Counts.{Counts, count_at, counts_of, with_count, AreCountsOf}
use Rattle.tda_out.proofs.RowLemmas.{counts_are, count_of, counts_by, counts_changed, grid_of, changed_here, kept_unit, kept_cell}
use Rattle.tda_prices.specs.TablesRead as tables
use Rattle.tda_prices.specs.TablesRead.{number_within, whole_within, count_in, spot_by, spot_in, last_spot, comes_late, fault_after, row_fault, names, format}
use Rattle.tda_prices.specs.declared.fault.TabFault.{TabFault}
use Rattle.tda_prices.specs.declared.fault.TabFault.TheVariants.{BadRow, WrongPlace}
use Rattle.tda_prices.proofs.Starts.{Stands, all_stand}
use Rattle.tda_out.proofs.Once.{each_unit}
use Rattle.tda_prices.proofs.TablesFine.{last_append, unit_at}

parts : (a b : Bool) → (a && b) ≡ true → (a ≡ true) × (b ≡ true)
parts true b e = (refl, e)
parts false b e = absurd cc

-- a number that is within is so within another limit that it keeps
pub within_too : (most other j : ℕ) (text : List ℕ) → number_within 0 most text ≡ Some j → j ≤ other → number_within 0 other text ≡ Some j
within_too most other j text e le = by (int_of text) e
  where
    whole : (z : ℤ) → whole_within 0 most z ≡ Some j → whole_within 0 other z ≡ Some j
    whole (pos n) h =
        let low : nat_le 0 n ≡ true = le-leb 0 n (omega arith) in
        let first : cond (nat_le n most) (Some n) None ≡ Some j = ap (λ b. cond (b && nat_le n most) (Some n) None) (sym low) ∙ h in
        let same = is (nat_le n most) n first in
        ap (λ b. cond (b && nat_le n other) (Some n) None) low ∙ ap (λ b. cond b (Some n) None) (le-leb n other (omega arith)) ∙ ap Some same
      where
        is : (b : Bool) (n : ℕ) → cond b (Some n) None ≡ Some j → n ≡ j
        is true n h = same_Some n j h
        is false n h = absurd cc
    whole (negsuc n) h = absurd cc

    by : (o : Option ℤ) → elim o as (λ _. Option ℕ) [ Some z ↦ whole_within 0 most z | None ↦ None ] ≡ Some j → elim o as (λ _. Option ℕ) [ Some z ↦ whole_within 0 other z | None ↦ None ] ≡ Some j
    by None h = absurd cc
    by (Some z) h = whole z h

named_number : (o : Option ℕ) (j : ℕ) → (unwrap_or o (j + 1) == j) ≡ true → o ≡ Some j
named_number (Some n) j e = ap Some (eqb-true n j e)
named_number None j e = absurd (let same = eqb-true (j + 1) j e in omega arith)

find_none : {X : Type 0} (p : X → Bool) (xs : List X) → ((k : ℕ) (d : X) → k < length xs → p (get_or xs k d) ≡ false) → find p xs ≡ None
find_none p [] h = refl
find_none p (x ∷ xs) h = ap (λ b. cond b (Some x) (find p xs)) (h 0 x (omega arith)) ∙ find_none p xs (λ k d l. h (suc k) d (omega arith))

or_none : {X : Type 0} (o : Option X) → option_or o None ≡ o
or_none None = refl
or_none (Some x) = refl

-- what comes after the last row comes after each row before
abbrev pub AreBefore : Schema → Spine → Option ℕ → List Row → Type 0
AreBefore s sp last rows = (k : ℕ) (d : Row) → k < length rows → (spot later : ℕ) → spot_in s sp (get_or rows k d) ≡ Some spot → comes_late last (Some later) ≡ false → spot < later

module _ (s : Schema) (sp : Spine) (sound : IsSound sp) (few : cell_count s < 2 ^ 64) where
  pub stands : (u : ℕ) → IsUnit sp u → Stands u (units_in_order sp)
  stands u here = each_unit sp sound.tree (λ u. Stands u (units_in_order sp)) (all_stand (units_in_order sp)) u here

  -- where a row that names a unit and a cell stands
  module _ (u j : ℕ) (here : IsUnit sp u) (in_row : j < cell_count s) (row : Row) (is : names sp u j row ≡ true) where
    abbrev rank : ℕ
    rank = (stands u here).index

    pub spot_is : spot_in s sp row ≡ Some ((stands u here).index * cell_count s + j)
    spot_is =
        let both = parts (bytes_eq (get_or row 0 []) (code_of sp u)) (unwrap_or (number_within 0 (j + 1) (get_or row 1 [])) (j + 1) == j) is in
        let code : get_or row 0 [] ≡ code_of sp u = (bytes_eq-Decides (get_or row 0 []) (code_of sp u)).0 both.0 in
        let number : number_within 0 (cell_count s) (get_or row 1 []) ≡ Some j =
        within_too (j + 1) (cell_count s) j (get_or row 1 []) (named_number (number_within 0 (j + 1) (get_or row 1 [])) j both.1) (omega arith) in
        let at = unit_at s sp sound few (stands u here).index (stands u here).below in
        let place : position (λ v. bytes_eq (get_or row 0 []) (code_of sp v)) (units_in_order sp) ≡ Some (stands u here).index =
        ap (λ text. position (λ v. bytes_eq text (code_of sp v)) (units_in_order sp)) (code ∙ ap (code_of sp) (sym (stands u here).is)) ∙ at in
        ap (λ o. spot_by s o (number_within 0 (cell_count s) (get_or row 1 []))) place
        ∙ ap (spot_by s (Some (stands u here).index)) number
        ∙ ap (λ b. cond b (Some ((stands u here).index * cell_count s + j)) None) (lt-ltb j (cell_count s) in_row)

  -- one more row, that names a unit and a cell
  module _ (earlier : List Row) (last : Option ℕ) (before : AreBefore s sp last earlier) (row : Row) (u j n spot : ℕ)
      (here : IsUnit sp u) (in_row : j < cell_count s) (is : names sp u j row ≡ true) (says : count_in row ≡ Some n)
      (at : spot_in s sp row ≡ Some spot) (after : comes_late last (Some spot) ≡ false) where
    spot_same : spot ≡ (stands u here).index * cell_count s + j
    spot_same = same_Some spot ((stands u here).index * cell_count s + j) (sym at ∙ spot_is u j here in_row row is)

    -- no row before names them
    first : find (names sp u j) earlier ≡ None
    first = find_none (names sp u j) earlier (λ k d below. false_from_ne_true (names sp u j (get_or earlier k d)) (λ e.
        let less : spot < spot = before k d below spot spot (spot_is u j here in_row (get_or earlier k d) e ∙ ap Some (sym spot_same)) after in
        omega (arith, less)))

    -- and it names no others
    other : (v i : ℕ) → IsUnit sp v → i < cell_count s → ((v ≡ u) × (i ≡ j) → ⊥) → names sp v i row ≡ false
    other v i here_v in_row_v apart = false_from_ne_true (names sp v i row) (λ e.
        let place : (stands v here_v).index * cell_count s + i ≡ (stands u here).index * cell_count s + j =
        same_Some _ _ (sym (spot_is v i here_v in_row_v row e) ∙ spot_is u j here in_row row is) in
        let same = same_from_place (stands v here_v).index i (stands u here).index j (cell_count s) in_row_v in_row place in
        apart (sym (stands v here_v).is ∙ ap (λ k. get_or (units_in_order sp) k 0) same.0 ∙ (stands u here).is, same.1))

    abbrev rows : List Row
    rows = earlier ++ row ∷ []

    abbrev by_row : Option Row → ℕ
    by_row o = elim o as (λ _. ℕ) [ Some r ↦ unwrap_or (count_in r) 0 | None ↦ 0 ]

    own_count : tables.count_of sp rows u j ≡ n
    own_count =
        ap by_row (find-append (names sp u j) earlier (row ∷ []) ∙ ap (λ o. option_or o (find (names sp u j) (row ∷ []))) first ∙ ap (λ b. cond b (Some row) None) is)
        ∙ ap (λ o. unwrap_or o 0) says

    other_count : (v i : ℕ) → IsUnit sp v → i < cell_count s → ((v ≡ u) × (i ≡ j) → ⊥) → tables.count_of sp rows v i ≡ tables.count_of sp earlier v i
    other_count v i here_v in_row_v apart =
        ap by_row (find-append (names sp v i) earlier (row ∷ []) ∙ ap (λ b. option_or (find (names sp v i) earlier) (cond b (Some row) None)) (other v i here_v in_row_v apart) ∙ or_none (find (names sp v i) earlier))

    pub counts_more : (counts : Counts) → counts ≡ counts_of s sp (tables.count_of sp earlier) → with_count counts u j n ≡ counts_of s sp (tables.count_of sp rows)
    counts_more counts h =
        let x = tables.count_of sp earlier in
        let are : AreCountsOf s sp counts = subst (AreCountsOf s sp) (sym h) (counts_are s sp x) in
        let g = grid_of s sp counts are in
        let old : (v i : ℕ) → IsUnit sp v → i < cell_count s → count_at counts v i ≡ x v i = λ v i lv li. ap (λ c. count_at c v i) h ∙ count_of s sp x v i lv li in
        counts_by s sp (with_count counts u j n) (tables.count_of sp rows) (counts_changed s sp counts u j n are) (λ v i lv li. elim (cases_eq v u) [
          | inl e ↦ elim (cases_eq i j) [
            | inl f ↦
                ap (λ w. count_at (with_count counts u j n) w i) e ∙ ap (count_at (with_count counts u j n) u) f
                ∙ changed_here (length sp.units) (cell_count s) counts g u j n here in_row ∙ sym own_count
                ∙ ap (λ w. tables.count_of sp rows w j) (sym e) ∙ ap (tables.count_of sp rows v) (sym f)
            | inr ne ↦
                ap (λ w. count_at (with_count counts u j n) w i) e
                ∙ kept_cell (length sp.units) (cell_count s) counts g u j n i here ne
                ∙ ap (λ w. count_at counts w i) (sym e) ∙ old v i lv li ∙ sym (other_count v i lv li (λ both. ne both.1))
          ]
          | inr ne ↦
              kept_unit (length sp.units) (cell_count s) counts g u j n v i ne ∙ old v i lv li ∙ sym (other_count v i lv li (λ both. ne both.0))
        ])

    pub before_more : AreBefore s sp (Some spot) rows
    before_more k d below place later is_place late = elim (cases_lt k (length earlier)) [
      | inl less ↦
          let old : spot_in s sp (get_or earlier k d) ≡ Some place = ap (spot_in s sp) (sym (get_or_append_left earlier (row ∷ []) d k less)) ∙ is_place in
          let low : place < spot = before k d less place spot old after in
          let high : spot < later = leb-false later spot late in
          omega (arith, low, high)
      | inr most ↦
          let end : k ≡ length earlier = omega (arith, below, length_push earlier row) in
          let zero_left : k - length earlier ≡ 0 = omega arith in
          let new : get_or rows k d ≡ row = get_or-append_right earlier (row ∷ []) (length earlier) k d refl (omega arith) ∙ ap (λ m. get_or (row ∷ []) m d) zero_left in
          let same : place ≡ spot = same_Some place spot (sym is_place ∙ ap (spot_in s sp) new ∙ at) in
          let high : spot < later = leb-false later spot late in
          omega (arith, same, high)
    ]

-- the rows that were read since the header have no fault, and these are their counts
pub record Gathers (s : Schema) (sp : Spine) (start now : RowsRead) (counts : Counts) (last : Option ℕ) : Type 0 where
  pub earlier : List Row
  pub passed : Passed start now earlier
  pub leads : first_fault (row_fault s sp) earlier now.rest ≡ first_fault (row_fault s sp) [] start.rest
  pub counted : counts ≡ counts_of s sp (tables.count_of sp earlier)
  pub last_is : last ≡ last_spot s sp earlier
  pub before : AreBefore s sp last earlier

module _ (s : Schema) (sp : Spine) (start : RowsRead) where
  pub starts : (counts : Counts) → counts ≡ counts_of s sp (λ u j. 0) → Gathers s sp start start counts None
  starts counts zeros = record {
    earlier = [];
    passed = none_passed start;
    leads = refl;
    counted = zeros;
    last_is = refl;
    before = λ k d below. absurd (omega (arith, below));
  }

  module _ (now new : RowsRead) (counts : Counts) (last : Option ℕ) (first : start.number ≡ 1) (g : Gathers s sp start now counts last) (takes : TakesRow now new) where
    judged : (o : Option TabFault) → fault_after s sp new.number last new.row ≡ o → row_fault s sp g.earlier new.row ≡ o
    judged o is =
        let number : length g.earlier + 2 ≡ new.number = omega (arith, takes.number, g.passed.number, first) in
        ap (λ n. fault_after s sp n (last_spot s sp g.earlier) new.row) number ∙ ap (λ l. fault_after s sp new.number l new.row) (sym g.last_is) ∙ is

    pub wide : new.width ≡ start.width
    wide = takes.same (omega (arith, g.passed.number, first)) ∙ g.passed.width

    not_late : (late : Bool) (fault other : Option TabFault) → (fault ≡ None → ⊥) → cond late fault other ≡ None → late ≡ false
    not_late true fault other some e = absurd (some e)
    not_late false fault other some e = refl

    -- a row without a fault
    pub goes_on : IsSound sp → cell_count s < 2 ^ 64 → (u j n spot : ℕ) → IsUnit sp u → j < cell_count s → names sp u j new.row ≡ true → count_in new.row ≡ Some n
        → spot_in s sp new.row ≡ Some spot → fault_after s sp new.number last new.row ≡ None → Gathers s sp start new (with_count counts u j n) (Some spot)
    goes_on sound few u j n spot here in_row is says at fine =
        let late : comes_late last (spot_in s sp new.row) ≡ false = not_late (comes_late last (spot_in s sp new.row)) (Some (WrongPlace new.number)) _ (λ e. absurd cc) fine in
        let after : comes_late last (Some spot) ≡ false = ap (comes_late last) (sym at) ∙ late in
        record {
          earlier = g.earlier ++ new.row ∷ [];
          passed = passes start now new g.earlier (omega (arith, first)) g.passed takes;
          leads = leads_on (row_fault s sp) g.earlier new.row new.rest now.rest _ g.leads takes.rest (judged None fine);
          counted = counts_more s sp sound few g.earlier last g.before new.row u j n spot here in_row is says at after counts g.counted;
          last_is = sym (last_append s sp sound few g.earlier new.row ∙ at);
          before = before_more s sp sound few g.earlier last g.before new.row u j n spot here in_row is says at after;
        }

    -- a row with a fault, and no later row of another width
    pub stops : (f : TabFault) → fault_after s sp new.number last new.row ≡ Some f → bad_rest new ≡ None → rest_due (format s sp) start ≡ Err f
    stops f fault even =
        rest_fault (format s sp) start f (sym g.passed.bad ∙ sym takes.bad ∙ even)
        (sym (leads_to (row_fault s sp) g.earlier new.row new.rest now.rest _ g.leads takes.rest f (judged (Some f) fault)))

    pub later_bad : (n : ℕ) → bad_rest new ≡ Some n → rest_due (format s sp) start ≡ Err (BadRow n)
    later_bad n bad = rest_bad (format s sp) start n (sym g.passed.bad ∙ sym takes.bad ∙ bad)

  module _ (now : RowsRead) (counts : Counts) (last : Option ℕ) (g : Gathers s sp start now counts last) where
    pub bad_row : (n : ℕ) → bad_rest now ≡ Some n → rest_due (format s sp) start ≡ Err (BadRow n)
    bad_row n bad = rest_bad (format s sp) start n (sym g.passed.bad ∙ bad)

    -- no row is left
    pub ended : now.rest ≡ [] → bad_rest now ≡ None → rest_due (format s sp) start ≡ Ok counts
    ended none even =
        let all : start.rest ≡ g.earlier = all_passed start now g.earlier g.passed none in
        let fine : first_fault (row_fault s sp) [] start.rest ≡ None = sym g.leads ∙ rw none refl in
        rest_fine (format s sp) start (sym g.passed.bad ∙ even) fine refl
        ∙ ap (λ rows. Ok (counts_of s sp (tables.count_of sp rows))) all ∙ ap Ok (sym g.counted)

    pub are_counts : AreCountsOf s sp counts
    are_counts = subst (AreCountsOf s sp) (sym g.counted) (counts_are s sp (tables.count_of sp g.earlier))
