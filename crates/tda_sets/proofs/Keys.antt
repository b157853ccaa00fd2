-- Families by keys: numbers of equal key are in one set. A table has for each key the first number of it so far.
use Rattle.std.proofs.Common.{◌≡◌, ◌≢◌, ◌==◌, ℕ, ◌+◌, ◌<◌, ◌≤◌, ◌^◌, Bool, true, false, cond, ◌&&◌, List, length, get_or, set, find, map, Option, Some, None, is_some, nat_eq, unwrap_or, refl, sym, ap, ◌∙◌, arith, inl, inr, get_or-set_same, get_or-set_other}
use Rattle.std.specs.Cmp.{IsEquivalence, on_equiv, nat_eq_equiv}
use Rattle.std.specs.Cmp.Lexicographic.{options_equiv}
use Rattle.std.specs.List.{range_with_len}
use Rattle.std.specs.Option.{option_eq, option_or}
use Rattle.std.proofs.lemmas.Bool.{cases_eq, eq-eqb, ne_eqb}
use Rattle.std.proofs.lemmas.List.{length-set}
use Rattle.tda_sets.specs.Family.{Names, name_at, is_in, IsFamily, are_together, is_member, name_of, family_of}
use Rattle.tda_sets.proofs.Ranges.{IsFirst, find_Some, find_range_more}
use Rattle.tda_sets.proofs.Families.{first_alike_is, is_like, IsFamily-family_of}

module _ (keys : Names) where
  pub together : IsEquivalence (are_together keys)
  together = on_equiv (name_at keys) (options_equiv nat_eq_equiv)

  pub record IsTable (bound i : ℕ) (table : Names) : Type 0 where
    pub room : length table ≡ bound
    pub entry : (k : ℕ) → k < bound → get_or table k None ≡ find (is_in keys k) (range_with_len 0 i)

  -- a number of another key, or of none, changes nothing
  other_key : (i k : ℕ) → is_in keys k i ≡ false → find (is_in keys k) (range_with_len 0 (i + 1)) ≡ find (is_in keys k) (range_with_len 0 i)
  other_key i k other = find_range_more (is_in keys k) i ∙ ap (λ b. option_or (find (is_in keys k) (range_with_len 0 i)) (cond b (Some i) None)) other ∙ or_none (find (is_in keys k) (range_with_len 0 i))
    where
      or_none : (o : Option ℕ) → option_or o None ≡ o
      or_none None = refl
      or_none (Some x) = refl

  its_key : (i k : ℕ) → is_in keys k i ≡ true → find (is_in keys k) (range_with_len 0 (i + 1)) ≡ Some (unwrap_or (find (is_in keys k) (range_with_len 0 i)) i)
  its_key i k same = find_range_more (is_in keys k) i ∙ ap (λ b. option_or (find (is_in keys k) (range_with_len 0 i)) (cond b (Some i) None)) same ∙ or_some (find (is_in keys k) (range_with_len 0 i))
    where
      or_some : (o : Option ℕ) → option_or o (Some i) ≡ Some (unwrap_or o i)
      or_some None = refl
      or_some (Some x) = refl

  pub no_key : (bound i : ℕ) (table : Names) → IsTable bound i table → name_at keys i ≡ None → IsTable bound (i + 1) table
  no_key bound i table t none = record {
    room = t.room;
    entry = λ k below. t.entry k below ∙ sym (other_key i k (ap (λ o. option_eq nat_eq o (Some k)) none));
  }

  pub no_key_named : (i : ℕ) → name_at keys i ≡ None → None ≡ name_of (length keys) (is_member keys) (are_together keys) i
  no_key_named i none = rw none refl

  module _ (bound i k : ℕ) (table after : Names) (r : ℕ) (t : IsTable bound i table) (key : name_at keys i ≡ Some k) (within : k < bound)
      (is : r ≡ unwrap_or (get_or table k None) i) (put : after ≡ set table k (Some r)) where
    here : is_in keys k i ≡ true
    here = ap (λ o. option_eq nat_eq o (Some k)) key ∙ eq-eqb k k refl

    found : find (is_in keys k) (range_with_len 0 (i + 1)) ≡ Some r
    found = its_key i k here ∙ ap (λ o. Some (unwrap_or o i)) (sym (t.entry k within)) ∙ ap Some (sym is)

    pub a_key : IsTable bound (i + 1) after
    a_key = record {
      room = ap length put ∙ length-set table k (Some r) ∙ t.room;
      entry = λ q below. elim (cases_eq q k) [
        | inl e ↦ ap (λ xs. get_or xs q None) put ∙ ap (λ x. get_or (set table k (Some r)) x None) e ∙ get_or-set_same table k (Some r) None (omega (arith, within, t.room))
            ∙ sym found ∙ ap (λ x. find (is_in keys x) (range_with_len 0 (i + 1))) (sym e)
        | inr other ↦
            let turned : k ≢ q = λ e. other (sym e) in
            ap (λ xs. get_or xs q None) put ∙ get_or-set_other table k q (Some r) None other ∙ t.entry q below
            ∙ sym (other_key i q (ap (λ o. option_eq nat_eq o (Some q)) key ∙ ne_eqb k q turned))
      ];
    }

    pub a_key_named : i < length keys → Some r ≡ name_of (length keys) (is_member keys) (are_together keys) i
    a_key_named below =
        let n = length keys in
        let f = find_Some (is_in keys k) (i + 1) r found in
        let like : (j : ℕ) → is_like n (is_member keys) (are_together keys) i j ≡ is_in keys k j =
        λ j. ap (λ o. is_member keys j && option_eq nat_eq o (name_at keys j)) key ∙ turn (name_at keys j) in
        let first : IsFirst (is_like n (is_member keys) (are_together keys) i) n r = record {
          below = omega (arith, f.below);
          passes = like r ∙ f.passes;
          none_before = λ j before. like j ∙ f.none_before j before;
        } in
        rw key (ap Some (sym (first_alike_is n (is_member keys) (are_together keys) i r first)))
      where
        turn : (o : Option ℕ) → (is_some o && option_eq nat_eq (Some k) o) ≡ option_eq nat_eq o (Some k)
        turn None = refl
        turn (Some x) = nat_eq_equiv.symm k x

  pub by_keys_is : length keys ≤ 2 ^ 32 → (names : Names) → names ≡ family_of (length keys) (is_member keys) (are_together keys) → IsFamily names
  by_keys_is few names is = rw is (IsFamily-family_of (length keys) (is_member keys) (are_together keys) together few)
