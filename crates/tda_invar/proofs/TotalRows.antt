-- What the entries of states say of the rows of a file of totals.
use Rattle.std.proofs.Common.{◌≡◌, ℕ, suc, ◌+◌, ◌*◌, ◌<◌, ◌≤◌, ℤ, pos, negsuc, Bool, true, false, not, nat_le, List, [], ◌∷◌, map, length, get_or, take, Option, Some, None, is_some, unwrap_or, option_and_then, refl, sym, ap, subst, ◌∙◌, inl, inr, arith, All, find, sum, sum_by, Ok, Err, eqb, ◌==◌, cond, ne_eqb, eq-eqb}
use Rattle.std.proofs.lemmas.Bool.{cases_Bool, cases_eq, leb-true}
use Rattle.std.proofs.lemmas.List.Elements.{All-from_get_or}
use Rattle.std.proofs.lemmas.List.Sums.{sum_by-le, sum-map}
use Rattle.std.specs.List.{list_any, range_with_len}
use Rattle.std.specs.Str.{bytes_eq}
use Rattle.tda_io.specs.Csv.{Row, first_fault, has_header, after_header, judged}
use Rattle.tda_io.specs.Texts.{int_of}
use Rattle.tda_model.specs.Bounds.{persons_limit}
use Rattle.tda_model.specs.Spine.{Spine, code_of, is_at, units_at, unit_numbers}
use Rattle.tda_model.proofs.Sums.{sum_by_index, sum_filter_le}
use Rattle.tda_spine.specs.Sound.{IsSound}
use Rattle.tda_spine.specs.Judged.{row_number}
use Rattle.tda_invar.specs.Fields.{field_in, up_to, count_named, IsNamed}
use Rattle.tda_invar.specs.Entries.{counted, Says, Gathered}
use Rattle.tda_invar.specs.Totals.{state_in, count_in, persons_of, names, is_repeated, row_fault, first_missing, has_too_many, totals_of, format}
use Rattle.tda_invar.specs.declared.tot_fault.TotFault.TheVariants.{Repeated, BadCount, Missing, TooManyPersons}
use Rattle.tda_invar.proofs.UnitLemmas.{is_unit_yes, own_code, other_code, units_within}
use Rattle.tda_invar.proofs.EntryLemmas.{entry_at, entered}

is_up_to : (most : ℕ) (z : ℤ) (n : ℕ) → up_to most z ≡ Some n → n ≤ most
is_up_to most (pos m) n e = elim (cases_Bool (nat_le m most)) [
  | inl le ↦ let same : m ≡ n = cc (rw le at e) in let l : m ≤ most = leb-true m most le in omega arith
  | inr gt ↦ cc (rw gt at e)
]
is_up_to most (negsuc m) n e = cc

pub count_small : (most : ℕ) (text : List ℕ) (n : ℕ) → count_named most text ≡ Some n → n ≤ most
count_small most text n e = by (int_of text) e
  where
    by : (o : Option ℤ) → option_and_then (up_to most) o ≡ Some n → n ≤ most
    by (Some z) h = is_up_to most z n h
    by None h = cc

pub counted_small : (most : ℕ) (is : Row → Bool) (number : Row → ℕ) → ((row : Row) → number row ≤ most) → (rows : List Row) → unwrap_or (counted is number rows) 0 ≤ most
counted_small most is number small rows = by (find is rows)
  where
    by : (o : Option Row) → unwrap_or (elim o as (λ _. Option ℕ) [ Some row ↦ Some (number row) | None ↦ None ]) 0 ≤ most
    by (Some row) = small row
    by None = omega arith

persons_small : (row : Row) → persons_of row ≤ persons_limit
persons_small row = by (count_in row) refl
  where
    by : (o : Option ℕ) → count_in row ≡ o → unwrap_or o 0 ≤ persons_limit
    by (Some n) e = count_small persons_limit (field_in row 1) n e
    by None e = omega arith

module _ (sp : Spine) where
  -- whether the state of a row stands before
  pub is_repeated_by : (earlier : List Row) (row : Row) (entries : List (Option ℕ)) (u : ℕ) → Gathered (length sp.units) (names sp) persons_of earlier entries → IsNamed sp 1 (state_in row) u
      → is_some (entry_at entries u) ≡ is_repeated earlier row
  is_repeated_by earlier row entries u g h =
      entered (length sp.units) (names sp) persons_of earlier entries u g h.here
      ∙ ap (λ code. list_any (λ e. bytes_eq code (state_in e)) earlier) h.named

  module _ (earlier : List Row) (row : Row) (u : ℕ) (h : IsNamed sp 1 (state_in row) u) where
    -- a row that says something has no fault
    pub no_fault : (count : ℕ) → is_repeated earlier row ≡ false → count_in row ≡ Some count → row_fault sp earlier row ≡ None
    no_fault count first counts = rw (is_unit_yes sp 1 (state_in row) u h, first, counts) refl

    -- a row whose state stands before
    pub fault_again : is_repeated earlier row ≡ true → row_fault sp earlier row ≡ Some (Repeated (row_number earlier))
    fault_again again = rw (is_unit_yes sp 1 (state_in row) u h, again) refl

    pub fault_count : is_repeated earlier row ≡ false → count_in row ≡ None → row_fault sp earlier row ≡ Some (BadCount (row_number earlier))
    fault_count first none = rw (is_unit_yes sp 1 (state_in row) u h, first, none) refl

    pub says : IsSound sp → (count : ℕ) → is_repeated earlier row ≡ false → count_in row ≡ Some count → Says (length sp.units) (names sp) persons_of earlier row u count
    says sound count first counts = record {
      within = h.here;
      own = λ p l. elim (cases_eq p u) [
        | inl e ↦ own_code sp p (state_in row) (ap (code_of sp) e ∙ h.named) ∙ sym (eq-eqb p u e)
        | inr ne ↦ other_code sp sound p u (state_in row) l h.here h.named ne ∙ sym (ne_eqb p u ne)
      ];
      first = ap (λ code. list_any (λ e. bytes_eq code (state_in e)) earlier) h.named ∙ first;
      counts = ap (λ o. unwrap_or o 0) counts;
    }

  -- what the entries say once all rows are read
  module _ (rows : List Row) (entries : List (Option ℕ)) (g : Gathered (length sp.units) (names sp) persons_of rows entries) where
    pub states_entered : All (λ u. u < length entries) (units_at sp 1)
    states_entered k d l = let h = units_within sp 1 k d l in omega (arith, h, g.size)

    find-same : (p q : ℕ → Bool) (xs : List ℕ) → All (λ x. p x ≡ q x) xs → find p xs ≡ find q xs
    find-same p q [] h = refl
    find-same p q (x ∷ xs) h =
        let here : p x ≡ q x = h 0 x (omega arith) in
        let rest : find p xs ≡ find q xs = find-same p q xs (λ k d l. h (suc k) d (omega arith)) in
        rw (here, rest) refl

    pub missing_is : find (λ u. not (is_some (entry_at entries u))) (units_at sp 1) ≡ first_missing sp rows
    missing_is = find-same (λ u. not (is_some (entry_at entries u))) (λ u. not (list_any (names sp u) rows)) (units_at sp 1)
        (λ k d l. ap not (entered (length sp.units) (names sp) persons_of rows entries (get_or (units_at sp 1) k d) g (units_within sp 1 k d l)))

    map-same : (f h : ℕ → ℕ) (xs : List ℕ) → All (λ x. f x ≡ h x) xs → map f xs ≡ map h xs
    map-same f h [] e = refl
    map-same f h (x ∷ xs) e =
        let here : f x ≡ h x = e 0 x (omega arith) in
        let rest : map f xs ≡ map h xs = map-same f h xs (λ k d l. e (suc k) d (omega arith)) in
        rw (here, rest) refl

    pub totals_are : map (λ u. unwrap_or (entry_at entries u) 0) (units_at sp 1) ≡ totals_of sp rows
    totals_are = map-same (λ u. unwrap_or (entry_at entries u) 0) (λ u. unwrap_or (counted (names sp u) persons_of rows) 0) (units_at sp 1)
        (λ k d l. ap (λ e. unwrap_or e 0) (g.entry (get_or (units_at sp 1) k d) (units_within sp 1 k d l)))

    pub sum_small : sum_by (λ e. unwrap_or e 0) entries ≤ length sp.units * persons_limit
    sum_small =
        let each : All (λ e. unwrap_or e 0 ≤ persons_limit) entries = All-from_get_or (λ e. unwrap_or e 0 ≤ persons_limit) entries None (λ u l.
        let is = g.entry u (omega (arith, g.size)) in
        let P : Option ℕ → Type 0 = λ e. unwrap_or e 0 ≤ persons_limit in
        subst P (sym is) (counted_small persons_limit (names sp u) persons_of persons_small rows)) in
        let le = sum_by-le (λ e. unwrap_or e 0) persons_limit entries each in
        let P : ℕ → Type 0 = λ n. sum_by (λ e. unwrap_or e 0) entries ≤ n * persons_limit in subst P g.size le

    -- the states' totals are among all entries
    pub totals_within : sum (map (λ u. unwrap_or (entry_at entries u) 0) (units_at sp 1)) ≤ sum_by (λ e. unwrap_or e 0) entries
    totals_within =
        let f : ℕ → ℕ = λ u. unwrap_or (entry_at entries u) 0 in
        let all = sum_by_index (λ e. unwrap_or e 0) entries None in
        let len = g.size in
        let le = sum_filter_le f (is_at sp 1) (unit_numbers sp) in
        let same : sum_by f (range_with_len 0 (length entries)) ≡ sum_by f (unit_numbers sp) = ap (λ n. sum_by f (range_with_len 0 n)) g.size in
        omega (arith, sum-map f (units_at sp 1), all, le, same)

-- ---- the whole file

module _ (sp : Spine) (rows : List Row) (header : has_header (format sp).header rows ≡ true) (fine : first_fault (row_fault sp) [] (after_header rows) ≡ None) where
  pub judged_missing : (u : ℕ) → first_missing sp (after_header rows) ≡ Some u → judged (format sp) rows ≡ Err (Missing u)
  judged_missing u missing = rw (header, fine, missing) refl

  pub judged_many : first_missing sp (after_header rows) ≡ None → has_too_many (after_header rows) ≡ true → judged (format sp) rows ≡ Err TooManyPersons
  judged_many none many = rw (header, fine, none, many) refl

  pub judged_ok : first_missing sp (after_header rows) ≡ None → has_too_many (after_header rows) ≡ false → judged (format sp) rows ≡ Ok (totals_of sp (after_header rows))
  judged_ok none few = rw (header, fine, none, few) refl
