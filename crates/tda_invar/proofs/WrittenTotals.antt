-- The file of totals that is written is read back.
use Rattle.std.proofs.Common.{◌≡◌, ◌≢◌, ℕ, zero, suc, ◌+◌, ◌<◌, ◌≤◌, ◌^◌, Bool, true, false, not, ◌||◌, ◌==◌, cond, List, [], ◌∷◌, ◌++◌, length, get_or, map, sum, sum_by, find, Option, Some, None, option_map, unwrap_or, Ok, pos, nat_le, nat_lt, refl, sym, ap, subst, ◌∙◌, inl, inr, arith, All}
use Rattle.std.proofs.lemmas.Bool.{cases_eq, lt-ltb, le-leb, le-ltb}
use Rattle.std.proofs.lemmas.List.{length-map, get_or-map}
use Rattle.std.proofs.lemmas.Grind.{same_number_lists}
use Rattle.std.proofs.lemmas.List.Elements.{All-from_get_or, recursion_from_All, All-from_recursion}
use Rattle.std.proofs.lemmas.List.Folds.{flat_map-map, list_any-append, list_any_at}
use Rattle.std.proofs.lemmas.List.Sums.{sum-map, sum_by-cons}
use Rattle.std.specs.Fmt.{decimal}
use Rattle.std.specs.List.{list_any, flat_map}
use Rattle.std.specs.Str.{bytes_eq}
use Rattle.csv.specs.Reading.{default_config, records, strip_bom}
use Rattle.tda_io.specs.Csv.{Row, first_fault, or_else, judged}
use Rattle.tda_io.specs.Rows.{rows_of, other_width, bad_width}
use Rattle.tda_io.specs.Texts.{int_of, IsPlain}
use Rattle.tda_io.proofs.Numbers.{int_of-decimal}
use Rattle.tda_model.specs.Bounds.{persons_limit}
use Rattle.tda_model.specs.Spine.{Spine, IsUnit, code_of, units_at}
use Rattle.tda_model.specs.TablesText.{row_text}
use Rattle.tda_model.proofs.Sums.{Each, sum_same, each_any, Ascends, range_ascends, filter_ascends}
use Rattle.tda_spine.specs.Sound.{IsSound}
use Rattle.tda_spine.proofs.Firsts.{find-map}
use Rattle.tda_invar.specs.Fields.{count_named}
use Rattle.tda_invar.specs.Entries.{counted}
use Rattle.tda_invar.specs.Totals.{header, state_in, count_in, persons_of, names, row_fault, first_missing, has_too_many, persons_for, totals_of, format, read, AreTotalsOf, total_of, total_row, totals_text}
use Rattle.tda_invar.proofs.UnitLemmas.{own_code, other_code}
use Rattle.tda_invar.proofs.StatePlaces.{IsState, states_are, total_at, totals_listed}
use Rattle.tda_invar.proofs.TotalRows.{no_fault, judged_ok}
use Rattle.tda_invar.proofs.Existence.{total_small}
use Rattle.tda_io.proofs.PlainNames.{plain_name}
use Rattle.tda_io.proofs.PlainRows.{IsPlainRow, rows_back, plain_decimal}

find_none : {X : Type 0} (p : X → Bool) (xs : List X) → Each (λ x. p x ≡ false) xs → find p xs ≡ None
find_none p [] h = refl
find_none p (x ∷ xs) h = rw h.0 (find_none p xs h.1)

-- a number up to the limit is counted as itself
pub count_back : (n : ℕ) → n ≤ persons_limit → count_named persons_limit (decimal n) ≡ Some n
count_back n h = let spells = int_of-decimal (pos n) (lt-ltb n (2 ^ 127) (omega arith)) in rw (spells, le-leb n persons_limit h) refl

module _ (sp : Spine) (sound : IsSound sp) (totals : List ℕ) (are : AreTotalsOf sp totals) where
  abbrev row : ℕ → Row
  row u = total_row sp totals u

  small : (u : ℕ) → total_of sp totals u ≤ persons_limit
  small u = total_small sp totals are.few u

  states : Each (IsState sp) (units_at sp 1)
  states = recursion_from_All (IsState sp) (units_at sp 1) (states_are sp)

  -- ---- the rows of the text

  plain_row : (u : ℕ) → IsState sp u → IsPlainRow (row u)
  plain_row u h =
      let limit = small u in
      record {
        some = omega arith;
        fields = (plain_name 16 (code_of sp u) (sound.coded u h.here), (plain_decimal (total_of sp totals u) (omega arith), tt));
      }

  plain_rows : (us : List ℕ) → Each (IsState sp) us → Each IsPlainRow (map row us)
  plain_rows [] h = tt
  plain_rows (u ∷ us) h = (plain_row u h.0, plain_rows us h.1)

  plain_header : IsPlainRow header
  plain_header = record { some = omega arith; fields = (record { filled = omega arith; plain = refl }, (record { filled = omega arith; plain = refl }, tt)) }

  text_is : totals_text sp totals ≡ flat_map row_text (header ∷ map row (units_at sp 1))
  text_is = ap (λ rest. row_text header ++ rest) (sym (flat_map-map row_text row (units_at sp 1)))

  no_mark : (rest : List ℕ) → strip_bom (row_text header ++ rest) ≡ row_text header ++ rest
  unfolding strip_bom
  no_mark rest = refl

  rows_are : rows_of (totals_text sp totals) ≡ header ∷ map row (units_at sp 1)
  rows_are =
      ap (records default_config) (no_mark _ ∙ text_is)
      ∙ rows_back (header ∷ map row (units_at sp 1)) (plain_header, plain_rows (units_at sp 1) states)

  one_width : (us : List ℕ) (n : ℕ) → other_width 2 n (map row us) ≡ None
  one_width [] n = refl
  one_width (u ∷ us) n = one_width us (n + 1)

  -- ---- no row has a fault

  row_fine : (u : ℕ) (earlier : List Row) → IsState sp u → list_any (λ e. bytes_eq (code_of sp u) (state_in e)) earlier ≡ false → row_fault sp earlier (row u) ≡ None
  row_fine u earlier h first =
      no_fault sp earlier (row u) u (record { here = h.here; at = h.at; named = refl }) (total_of sp totals u) first (count_back (total_of sp totals u) (small u))

  fresh_more : (u : ℕ) (us : List ℕ) (earlier : List Row) → IsState sp u → Each (IsState sp) us → Each (λ v. u < v) us
      → Each (λ v. list_any (λ e. bytes_eq (code_of sp v) (state_in e)) earlier ≡ false) us
      → Each (λ v. list_any (λ e. bytes_eq (code_of sp v) (state_in e)) (earlier ++ row u ∷ []) ≡ false) us
  fresh_more u [] earlier h hs up fresh = tt
  fresh_more u (v ∷ vs) earlier h hs up fresh =
      let less = up.0 in
      let state = hs.0 in
      let other = other_code sp sound v u (code_of sp u) state.here h.here refl (λ e. omega arith) in (
        list_any-append (λ e. bytes_eq (code_of sp v) (state_in e)) earlier (row u ∷ []) ∙ rw (fresh.0, other) refl,
        fresh_more u vs earlier h hs.1 up.1 fresh.1,
      )

  rows_fine : (us : List ℕ) (earlier : List Row) → Each (IsState sp) us → Ascends us
      → Each (λ v. list_any (λ e. bytes_eq (code_of sp v) (state_in e)) earlier ≡ false) us
      → first_fault (row_fault sp) earlier (map row us) ≡ None
  rows_fine [] earlier hs up fresh = refl
  rows_fine (u ∷ us) earlier hs up fresh =
      ap (λ o. or_else o (first_fault (row_fault sp) (earlier ++ row u ∷ []) (map row us))) (row_fine u earlier hs.0 fresh.0)
      ∙ rows_fine us (earlier ++ row u ∷ []) hs.1 up.1 (fresh_more u us earlier hs.0 hs.1 up.0 fresh.1)

  -- ---- the value

  -- a state's row is the first that names it
  find_own : (u : ℕ) → IsState sp u → (us : List ℕ) → Each (IsState sp) us → (k : ℕ) → k < length us → get_or us k 0 ≡ u
      → find (λ v. bytes_eq (code_of sp u) (code_of sp v)) us ≡ Some u
  find_own u h [] hs k l at = absurd (omega arith)
  find_own u h (v ∷ vs) hs k l at = elim (cases_eq u v) [
    | inl e ↦
        let same : bytes_eq (code_of sp u) (code_of sp v) ≡ true = own_code sp u (code_of sp v) (ap (code_of sp) e) in
        rw same (ap Some (sym e))
    | inr ne ↦
        let state = hs.0 in
        let other : bytes_eq (code_of sp u) (code_of sp v) ≡ false = other_code sp sound u v (code_of sp v) h.here state.here refl ne in
        rw other (later (λ i below is. find_own u h vs hs.1 i below is) k l at ne)
  ]
    where
      later : ((i : ℕ) → i < length vs → get_or vs i 0 ≡ u → find (λ w. bytes_eq (code_of sp u) (code_of sp w)) vs ≡ Some u)
          → (i : ℕ) → i < length (v ∷ vs) → get_or (v ∷ vs) i 0 ≡ u → u ≢ v → find (λ w. bytes_eq (code_of sp u) (code_of sp w)) vs ≡ Some u
      later rest zero below is ne = absurd (ne (sym is))
      later rest (suc i) below is ne = rest i (omega arith) is

  persons_are : (u : ℕ) → persons_of (row u) ≡ total_of sp totals u
  persons_are u = ap (λ o. unwrap_or o 0) (count_back (total_of sp totals u) (small u))

  found_row : (k d : ℕ) → k < length (units_at sp 1) → find (names sp (get_or (units_at sp 1) k d)) (map row (units_at sp 1)) ≡ Some (row (get_or (units_at sp 1) k d))
  found_row k d l =
      let u = get_or (units_at sp 1) k d in
      find-map row (names sp u) (units_at sp 1)
      ∙ ap (option_map row) (find_own u (states_are sp k d l) (units_at sp 1) states k l (get_any (units_at sp 1) k l 0 d))
    where
      get_any : (xs : List ℕ) (i : ℕ) → i < length xs → (a b : ℕ) → get_or xs i a ≡ get_or xs i b
      get_any [] i below a b = absurd (omega arith)
      get_any (x ∷ xs) zero below a b = refl
      get_any (x ∷ xs) (suc i) below a b = get_any xs i (omega arith) a b

  person_back : (k d : ℕ) → k < length (units_at sp 1) → persons_for sp (map row (units_at sp 1)) (get_or (units_at sp 1) k d) ≡ total_of sp totals (get_or (units_at sp 1) k d)
  person_back k d l = ap (λ o. unwrap_or (option_map persons_of o) 0) (found_row k d l) ∙ persons_are (get_or (units_at sp 1) k d)

  value_is : totals_of sp (map row (units_at sp 1)) ≡ totals
  value_is =
      let size = length-map (units_at sp 1) (persons_for sp (map row (units_at sp 1))) in
      let same = are.size in
      same_number_lists (totals_of sp (map row (units_at sp 1))) totals (omega arith)
      (λ k l. get_or-map (persons_for sp (map row (units_at sp 1))) (units_at sp 1) k 0 0 (omega arith) ∙ person_back k 0 (omega arith) ∙ total_at sp totals k (omega arith))

  none_missing : first_missing sp (map row (units_at sp 1)) ≡ None
  none_missing =
      find_none (λ u. not (list_any (names sp u) (map row (units_at sp 1)))) (units_at sp 1)
      (recursion_from_All (λ u. not (list_any (names sp u) (map row (units_at sp 1))) ≡ false) (units_at sp 1) (λ k d l.
      let u = get_or (units_at sp 1) k d in
      let size = length-map (units_at sp 1) row in
      let there = list_any_at (names sp u) (map row (units_at sp 1)) k (row d) (omega arith)
      (ap (names sp u) (get_or-map row (units_at sp 1) k d (row d) l) ∙ own_code sp u (code_of sp u) refl) in
      ap not there))

  sum_map : (us : List ℕ) → sum_by persons_of (map row us) ≡ sum_by (total_of sp totals) us
  sum_map [] = refl
  sum_map (u ∷ us) = omega (arith, sum_by-cons persons_of (row u) (map row us), sum_by-cons (total_of sp totals) u us, sum_map us, persons_are u)

  not_many : has_too_many (map row (units_at sp 1)) ≡ false
  not_many =
      let all = sum_map (units_at sp 1) in
      let listed = sum-map (total_of sp totals) (units_at sp 1) in
      let same = ap sum (totals_listed sp totals are.size) in
      let few = are.few in
      le-ltb persons_limit (sum_by persons_of (map row (units_at sp 1))) (omega arith)

  fine : first_fault (row_fault sp) [] (map row (units_at sp 1)) ≡ None
  fine = rows_fine (units_at sp 1) [] states (filter_ascends _ _ (range_ascends 0 (length sp.units))) (each_any _ (units_at sp 1) (λ u. refl))

  -- what is written is accepted, and gives the totals back
  pub read_back : read sp (totals_text sp totals) ≡ Ok totals
  read_back =
      let width : bad_width (header ∷ map row (units_at sp 1)) ≡ None = one_width (units_at sp 1) 2 in
      rw (rows_are, width) (judged_ok sp (header ∷ map row (units_at sp 1)) refl fine none_missing not_many ∙ ap Ok value_is)
