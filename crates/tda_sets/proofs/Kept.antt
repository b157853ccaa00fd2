-- A loop that finds which sets of a family are kept in another family.
use Rattle.std.proofs.Common.{◌≡◌, ◌≢◌, ℕ, ◌+◌, ◌<◌, ◌≤◌, Bool, true, false, cond, ◌&&◌, List, [], ◌∷◌, ◌++◌, length, get_or, set, map, filter, replicate, Option, Some, None, nat_eq, refl, sym, ap, ◌∙◌, arith, inl, inr, get_or-set_same, get_or-set_other}
use Rattle.std.specs.List.{list_all, range_with_len}
use Rattle.std.specs.Option.{option_eq}
use Rattle.std.proofs.lemmas.Bool.{cases_eq, eq-eqb, ne_eqb}
use Rattle.std.proofs.lemmas.List.{length-set, get_or-replicate, length-replicate, ext_get_or}
use Rattle.std.proofs.lemmas.List.Folds.{list_all-append}
use Rattle.std.proofs.lemmas.List.FromFn.{length-map-range_with_len, get_or-map-range_with_len}
use Rattle.tda_sets.specs.Family.{Names, name_at, is_in, are_together}
use Rattle.tda_sets.specs.Nested.{is_kept}
use Rattle.tda_sets.specs.Counted.{is_shared}
use Rattle.tda_sets.proofs.Ranges.{filter_range_push, filter_range_skip}

module _ (names others : Names) where
  -- whether the members so far are together
  abbrev pub kept_below : ℕ → ℕ → Bool
  kept_below i r = list_all (are_together others r) (filter (is_in names r) (range_with_len 0 i))

  pub record AreKept (i : ℕ) (kept : List Bool) : Type 0 where
    pub room : length kept ≡ length names
    pub entry : (r : ℕ) → r < length names → get_or kept r true ≡ kept_below i r

  not_in : (i r : ℕ) → is_in names r i ≡ false → kept_below (i + 1) r ≡ kept_below i r
  not_in i r other = ap (list_all (are_together others r)) (filter_range_skip (is_in names r) i other)

  one_in : (i r : ℕ) → is_in names r i ≡ true → kept_below (i + 1) r ≡ (kept_below i r && are_together others r i)
  one_in i r within =
      ap (list_all (are_together others r)) (filter_range_push (is_in names r) i within)
      ∙ list_all-append (are_together others r) (filter (is_in names r) (range_with_len 0 i)) (i ∷ [])
      ∙ ap (λ b. kept_below i r && b) (and_itself (are_together others r i))
    where
      and_itself : (b : Bool) → (b && true) ≡ b
      and_itself true = refl
      and_itself false = refl

  pub kept_none : AreKept 0 (replicate (length names) true)
  kept_none = record {
    room = length-replicate (length names) true;
    entry = λ r below. get_or-replicate (length names) r true true below;
  }

  pub kept_no_name : (i : ℕ) (kept : List Bool) → AreKept i kept → name_at names i ≡ None → AreKept (i + 1) kept
  kept_no_name i kept k none = record { room = k.room; entry = λ r below. k.entry r below ∙ sym (not_in i r (ap (λ o. option_eq nat_eq o (Some r)) none)) }

  module _ (i first : ℕ) (kept : List Bool) (k : AreKept i kept) (named : name_at names i ≡ Some first) where
    here : is_in names first i ≡ true
    here = ap (λ o. option_eq nat_eq o (Some first)) named ∙ eq-eqb first first refl

    not_here : (r : ℕ) → r ≢ first → is_in names r i ≡ false
    not_here r other = ap (λ o. option_eq nat_eq o (Some r)) named ∙ ne_eqb first r (λ e. other (sym e))

    pub kept_together : are_together others first i ≡ true → AreKept (i + 1) kept
    kept_together same = record {
      room = k.room;
      entry = λ r below. k.entry r below ∙ elim (cases_eq r first) [
        | inl e ↦ ap (kept_below i) e ∙ sym (one_in i first here ∙ ap (λ b. kept_below i first && b) same ∙ and_true (kept_below i first)) ∙ sym (ap (kept_below (i + 1)) e)
        | inr other ↦ sym (not_in i r (not_here r other))
      ];
    }
      where
        and_true : (b : Bool) → (b && true) ≡ b
        and_true true = refl
        and_true false = refl

    pub kept_apart : (after : List Bool) → are_together others first i ≡ false → first < length names → after ≡ set kept first false → AreKept (i + 1) after
    kept_apart after apart within put = record {
      room = ap length put ∙ length-set kept first false ∙ k.room;
      entry = λ r below. elim (cases_eq r first) [
        | inl e ↦
            ap (λ xs. get_or xs r true) put ∙ ap (λ x. get_or (set kept first false) x true) e ∙ get_or-set_same kept first false true (omega (arith, within, k.room))
            ∙ sym (one_in i first here ∙ ap (λ b. kept_below i first && b) apart ∙ and_false (kept_below i first)) ∙ sym (ap (kept_below (i + 1)) e)
        | inr other ↦
            ap (λ xs. get_or xs r true) put ∙ get_or-set_other kept first r false true other ∙ k.entry r below ∙ sym (not_in i r (not_here r other))
      ];
    }
      where
        and_false : (b : Bool) → (b && false) ≡ false
        and_false true = refl
        and_false false = refl

  pub kept_all : (kept : List Bool) → AreKept (length names) kept → kept ≡ map (is_kept names others) (range_with_len 0 (length names))
  kept_all kept k =
      let n = length names in
      ext_get_or true kept (map (is_kept names others) (range_with_len 0 n)) (k.room ∙ sym (length-map-range_with_len (is_kept names others) 0 n))
      (λ r below. let near : r < n = omega (arith, k.room) in k.entry r near ∙ sym (get_or-map-range_with_len (is_kept names others) 0 n r r true near (omega arith)))

-- whether the set of a least member is kept
pub kept_at : (names others : Names) (kept : List Bool) (n r : ℕ) (d : Bool) → kept ≡ map (is_kept names others) (range_with_len 0 n) → r < n → get_or kept r d ≡ is_kept names others r
kept_at names others kept n r d is below = ap (λ xs. get_or xs r d) is ∙ get_or-map-range_with_len (is_kept names others) 0 n r r d below (omega arith)

pub kept_length : (names others : Names) (kept : List Bool) (n : ℕ) → kept ≡ map (is_kept names others) (range_with_len 0 n) → length kept ≡ n
kept_length names others kept n is = ap length is ∙ length-map-range_with_len (is_kept names others) 0 n

-- a test of both tables
pub both_kept : (names others : Names) (kept others_kept : List Bool) (n r : ℕ) → kept ≡ map (is_kept names others) (range_with_len 0 n) → others_kept ≡ map (is_kept others names) (range_with_len 0 n)
    → r < n → is_in names r r ≡ true → is_in others r r ≡ true → is_shared names others r ≡ (get_or kept r false && get_or others_kept r false)
both_kept names others kept others_kept n r one other below here there =
    rw (here, there) (ap (λ b. b && is_kept others names r) (sym (kept_at names others kept n r false one below)) ∙ ap (λ b. get_or kept r false && b) (sym (kept_at others names others_kept n r false other below)))
