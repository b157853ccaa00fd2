-- Entries gathered row by row.
use Rattle.std.proofs.Common.{◌≡◌, ◌≢◌, ℕ, ◌+◌, ◌*◌, ◌<◌, ◌≤◌, Bool, true, false, ◌||◌, cond, eqb, ◌==◌, List, [], ◌∷◌, ◌++◌, map, length, get_or, set, take, replicate, Option, Some, None, is_some, unwrap_or, option_map, refl, sym, ap, subst, ◌∙◌, inl, inr, arith, find, sum_by, ne_eqb, eq-eqb}
use Rattle.std.proofs.lemmas.Bool.{cases_Bool, cases_eq}
use Rattle.std.proofs.lemmas.List.{take_more, length-set, get_or-set_same, get_or-set_other, get_or-map, get_or-replicate, length-replicate, length-map}
use Rattle.std.proofs.lemmas.List.Folds.{find-append, sum_by-replicate}
use Rattle.std.proofs.lemmas.List.FromFn.{fill_by_all}
use Rattle.std.proofs.lemmas.List.Sums.{sum_by_more, sum_by-set}
use Rattle.std.specs.List.{list_any, range_with_len}
use Rattle.std.specs.Option.{option_or}
use Rattle.tda_io.specs.Csv.{Row}
use Rattle.tda_invar.specs.Entries.{counted, Says, Gathered}

abbrev pub entry_at : List (Option ℕ) → ℕ → Option ℕ
entry_at entries p = get_or entries p None

option_map-or : {X Y : Type 0} (f : X → Y) (a b : Option X) → option_map f (option_or a b) ≡ option_or (option_map f a) (option_map f b)
option_map-or f (Some x) b = refl
option_map-or f None b = refl

none_is : {X : Type 0} (o : Option X) → is_some o ≡ false → o ≡ None
none_is None h = refl
none_is (Some x) h = cc

or_none : {X : Type 0} (o : Option X) → option_or o None ≡ o
or_none (Some x) = refl
or_none None = refl

pub counted-some : (is : Row → Bool) (number : Row → ℕ) (rows : List Row) → is_some (counted is number rows) ≡ list_any is rows
counted-some is number [] = refl
counted-some is number (row ∷ rows) = by (is row) (counted-some is number rows)
  where
    by : (b : Bool) → is_some (counted is number rows) ≡ list_any is rows
        → is_some (option_map number (cond b (Some row) (find is rows))) ≡ (b || list_any is rows)
    by true e = refl
    by false e = e

counted-push : (is : Row → Bool) (number : Row → ℕ) (rows : List Row) (row : Row)
    → counted is number (rows ++ row ∷ []) ≡ option_or (counted is number rows) (cond (is row) (Some (number row)) None)
counted-push is number rows row =
    ap (option_map number) (find-append is rows (row ∷ []))
    ∙ option_map-or number (find is rows) (find is (row ∷ []))
    ∙ ap (option_or (counted is number rows)) (by (is row))
  where
    by : (b : Bool) → option_map number (cond b (Some row) None) ≡ cond b (Some (number row)) None
    by true = refl
    by false = refl

module _ (places : ℕ) (names : ℕ → Row → Bool) (number : Row → ℕ) where
  pub gathered_none : (n : ℕ) → n ≡ places → Gathered places names number [] (replicate n None)
  gathered_none n size = record {
    size = length-replicate n None ∙ size;
    entry = λ p l. get_or-replicate n p None None (omega arith);
    whole = sum_by-replicate (λ e. unwrap_or e 0) n None ∙ omega arith;
  }

  -- a place has an entry where a row names it
  pub entered : (rows : List Row) (entries : List (Option ℕ)) (p : ℕ) → Gathered places names number rows entries → p < places
      → is_some (entry_at entries p) ≡ list_any (names p) rows
  entered rows entries p g l = ap is_some (g.entry p l) ∙ counted-some (names p) number rows

  -- one more row, and its entry
  module _ (rows : List Row) (k : ℕ) (below : k < length rows) (entries : List (Option ℕ)) (place count : ℕ)
      (g : Gathered places names number (take k rows) entries) (s : Says places names number (take k rows) (get_or rows k []) place count) where
    none_yet : entry_at entries place ≡ None
    none_yet = none_is _ (entered (take k rows) entries place g s.within ∙ s.first)

    for_one : (p : ℕ) → p < places → counted (names p) number (take (k + 1) rows) ≡ option_or (counted (names p) number (take k rows)) (cond (p == place) (Some count) None)
    for_one p l =
        ap (counted (names p) number) (take_more rows k [] below)
        ∙ counted-push (names p) number (take k rows) (get_or rows k [])
        ∙ ap (λ b. option_or (counted (names p) number (take k rows)) (cond b (Some (number (get_or rows k []))) None)) (s.own p l)
        ∙ ap (λ n. option_or (counted (names p) number (take k rows)) (cond (p == place) (Some n) None)) s.counts

    at_place : entry_at (set entries place (Some count)) place ≡ counted (names place) number (take (k + 1) rows)
    at_place =
        let none : counted (names place) number (take k rows) ≡ None = sym (g.entry place s.within) ∙ none_yet in
        let within = s.within in
        get_or-set_same entries place (Some count) None (omega (arith, g.size))
        ∙ sym (for_one place s.within ∙ rw (none, eq-eqb place place refl) refl)

    at_other : (p : ℕ) → p < places → p ≢ place → entry_at (set entries place (Some count)) p ≡ counted (names p) number (take (k + 1) rows)
    at_other p l other =
        get_or-set_other entries place p (Some count) None other ∙ g.entry p l
        ∙ sym (for_one p l ∙ rw (ne_eqb p place other) (or_none (counted (names p) number (take k rows))))

    pub gathered_more : Gathered places names number (take (k + 1) rows) (set entries place (Some count))
    gathered_more = record {
      size = length-set entries place (Some count) ∙ g.size;
      entry = λ p l. elim (cases_eq p place) [
        | inl e ↦ let P : ℕ → Type 0 = λ v. entry_at (set entries place (Some count)) v ≡ counted (names v) number (take (k + 1) rows) in subst P (sym e) at_place
        | inr other ↦ at_other p l other
      ];
      whole =
          let within = s.within in
          let one = sum_by-set (λ e. unwrap_or e 0) entries place (Some count) None (omega (arith, g.size)) in
          let zero : unwrap_or (entry_at entries place) 0 ≡ 0 = ap (λ o. unwrap_or o 0) none_yet in
          let more = sum_by_more number rows k [] below in
          omega (arith, one, zero, more, s.counts, g.whole);
    }

  -- the entries as numbers, once all rows are read
  pub numbers_are : (rows : List Row) (entries : List (Option ℕ)) → Gathered places names number rows entries
      → map (λ e. unwrap_or e 0) entries ≡ map (λ p. unwrap_or (counted (names p) number rows) 0) (range_with_len 0 places)
  numbers_are rows entries g =
      fill_by_all (λ p. unwrap_or (counted (names p) number rows) 0) (map (λ e. unwrap_or e 0) entries) places 0
      (length-map entries (λ e. unwrap_or e 0) ∙ g.size)
      (λ p l. get_or-map (λ e. unwrap_or e 0) entries p None 0 (omega (arith, g.size)) ∙ ap (λ e. unwrap_or e 0) (g.entry p l))
