-- What holds of the family of the members below a count in which those that are alike are in one set.
use Rattle.std.proofs.Common.{◌≡◌, ◌==◌, ℕ, ◌+◌, ◌<◌, ◌≤◌, ◌^◌, Bool, true, false, cond, ◌&&◌, List, length, get_or, map, filter, Option, Some, None, is_some, nat_eq, refl, sym, ap, ◌∙◌, subst, arith, inl, inr}
use Rattle.std.specs.Cmp.{IsEquivalence}
use Rattle.std.specs.List.{range_with_len}
use Rattle.std.specs.Option.{option_eq}
use Rattle.std.proofs.lemmas.Bool.{and_parts, and_from, cases_Bool, cases_lt, eq-eqb, ne_eqb, eqb-true, false≢true}
use Rattle.std.proofs.lemmas.List.{length-map, get_or_past}
use Rattle.std.proofs.lemmas.List.Elements.{filter_agree}
use Rattle.std.proofs.lemmas.List.FromFn.{length-range_with_len, length-map-range_with_len, get_or-map-range_with_len}
use Rattle.std.proofs.lemmas.Option.{same_Some, none-some}
use Rattle.tda_sets.specs.Family.{Names, name_at, is_in, set_of, IsFamily, are_together, is_member, first_alike, name_of, family_of}
use Rattle.tda_sets.proofs.Ranges.{filter-filter, filter_range_agree, map_range_agree, IsFirst, head_is, first_exists}

pub same_name : (a b : Option ℕ) → option_eq nat_eq a b ≡ true → a ≡ b
same_name None None e = refl
same_name None (Some y) e = absurd (false≢true e)
same_name (Some x) None e = absurd (false≢true e)
same_name (Some x) (Some y) e = ap Some (eqb-true x y e)

pub name_is_same : (a b : Option ℕ) → a ≡ b → option_eq nat_eq a b ≡ true
name_is_same None None e = refl
name_is_same None (Some y) e = cc
name_is_same (Some x) None e = cc
name_is_same (Some x) (Some y) e = eq-eqb x y (cc)

-- a number that is in a set is below the count
pub is_in_below : (names : Names) (first i : ℕ) → is_in names first i ≡ true → i < length names
is_in_below names first i within =
    elim (cases_lt i (length names)) [
      | inl below ↦ below
      | inr past ↦ absurd (false≢true (ap (λ o. option_eq nat_eq o (Some first)) (sym (get_or_past names i None past)) ∙ within))
    ]

-- and so is the least member of its set
pub first_below : (names : Names) (i first : ℕ) → IsFamily names → name_at names i ≡ Some first → first < length names
first_below names i first family named =
    let within : is_in names first i ≡ true = name_is_same (name_at names i) (Some first) named in
    is_in_below names first first (family.named first i within)

module _ (n : ℕ) (marked : ℕ → Bool) (alike : ℕ → ℕ → Bool) where
  pub length-family_of : length (family_of n marked alike) ≡ n
  length-family_of = length-map-range_with_len (name_of n marked alike) 0 n

  pub name_at-family_of : (i : ℕ) → i < n → name_at (family_of n marked alike) i ≡ name_of n marked alike i
  name_at-family_of i below = get_or-map-range_with_len (name_of n marked alike) 0 n i i None below (omega arith)

  pub name_is : (i : ℕ) → i < n → marked i ≡ true → name_at (family_of n marked alike) i ≡ Some (first_alike n marked alike i)
  name_is i below yes' = name_at-family_of i below ∙ ap (λ b. cond b (Some (first_alike n marked alike i)) None) yes'

  pub no_name : (i : ℕ) → i < n → marked i ≡ false → name_at (family_of n marked alike) i ≡ None
  no_name i below not' = name_at-family_of i below ∙ ap (λ b. cond b (Some (first_alike n marked alike i)) None) not'

  pub is_member-family_of : (i : ℕ) → i < n → is_member (family_of n marked alike) i ≡ marked i
  is_member-family_of i below = by (marked i) refl
    where
      by : (b : Bool) → marked i ≡ b → is_member (family_of n marked alike) i ≡ b
      by true e = ap is_some (name_is i below e)
      by false e = ap is_some (no_name i below e)

  -- the first number that is like a member
  abbrev pub is_like : ℕ → ℕ → Bool
  is_like i j = marked j && alike i j

  pub first_alike_is : (i r : ℕ) → IsFirst (is_like i) n r → first_alike n marked alike i ≡ r
  first_alike_is i r first = ap (λ xs. get_or xs 0 0) (filter-filter (alike i) marked (range_with_len 0 n)) ∙ head_is (is_like i) n r 0 first

  -- it is not after the member
  pub record HasFirst (i r : ℕ) : Type 0 where
    pub first : IsFirst (is_like i) n r
    pub least : r ≤ i

  module _ (eq : IsEquivalence alike) where
    pub has_first : (i : ℕ) → i < n → marked i ≡ true → HasFirst i (first_alike n marked alike i)
    has_first i below here =
        let found = first_exists (is_like i) i (and_from (marked i) (alike i i) here (eq.refl i)) in
        let r = found.0 in
        let first = found.2 in
        let wide : IsFirst (is_like i) n r = record { below = omega (arith, found.1); passes = first.passes; none_before = first.none_before } in
        subst (λ x. HasFirst i x) (sym (first_alike_is i r wide)) (record { first = wide; least = found.1 })

    pub first_alike_same : (i j : ℕ) → alike i j ≡ true → first_alike n marked alike i ≡ first_alike n marked alike j
    first_alike_same i j same = ap (λ xs. get_or xs 0 0) (filter_agree (alike i) (alike j) (λ x. eq.congr i j x same) (filter marked (range_with_len 0 n)))

    -- a number in a set is a member, and the set is named by the first that is like it
    pub record IsIn (first i : ℕ) : Type 0 where
      pub below : i < n
      pub marked_so : marked i ≡ true
      pub first_is : first_alike n marked alike i ≡ first

    pub is_in_tells : (first i : ℕ) → is_in (family_of n marked alike) first i ≡ true → IsIn first i
    is_in_tells first i within =
        let below : i < n = omega (arith, is_in_below (family_of n marked alike) first i within, length-family_of) in
        let same : name_at (family_of n marked alike) i ≡ Some first = same_name (name_at (family_of n marked alike) i) (Some first) within in
        elim (cases_Bool (marked i)) [
          | inl here ↦ record { below = below; marked_so = here; first_is = same_Some (first_alike n marked alike i) first (sym (name_is i below here) ∙ same) }
          | inr other ↦ absurd (none-some first (sym (no_name i below other) ∙ same))
        ]

    pub is_in-first : (i : ℕ) → i < n → marked i ≡ true → is_in (family_of n marked alike) (first_alike n marked alike i) i ≡ true
    is_in-first i below here = name_is_same (name_at (family_of n marked alike) i) (Some (first_alike n marked alike i)) (name_is i below here)

    pub IsFamily-family_of : n ≤ 2 ^ 32 → IsFamily (family_of n marked alike)
    IsFamily-family_of few = record {
      few = omega (arith, length-family_of, few);
      least = λ first i within.
          let t = is_in_tells first i within in
          let least = (has_first i t.below t.marked_so).least in
          omega (arith, least, t.first_is);
      named = λ first i within.
          let t = is_in_tells first i within in
          let r = first_alike n marked alike i in
          let f = (has_first i t.below t.marked_so).first in
          let parts = and_parts (marked r) (alike i r) f.passes in
          let again : first_alike n marked alike r ≡ r = sym (first_alike_same i r parts.1) in
          let there : is_in (family_of n marked alike) r r ≡ true = subst (λ x. is_in (family_of n marked alike) x r ≡ true) again (is_in-first r f.below parts.0) in
          subst (λ x. is_in (family_of n marked alike) x x ≡ true) t.first_is there;
    }

    -- two members are in one set where they are alike
    pub are_together-family_of : (i j : ℕ) → i < n → j < n → marked i ≡ true → marked j ≡ true → are_together (family_of n marked alike) i j ≡ alike i j
    are_together-family_of i j low high here there =
        let F = family_of n marked alike in
        let r = first_alike n marked alike i in
        let t = first_alike n marked alike j in
        let names : are_together F i j ≡ (r == t) = rw (name_is i low here, name_is j high there) refl in
        elim (cases_Bool (alike i j)) [
          | inl same ↦ names ∙ eq-eqb r t (first_alike_same i j same) ∙ sym same
          | inr other ↦
              names ∙ ne_eqb r t (λ e.
              let one = and_parts (marked r) (alike i r) (has_first i low here).first.passes in
              let two = and_parts (marked t) (alike j t) (has_first j high there).first.passes in
              let two' : alike j r ≡ true = ap (alike j) e ∙ two.1 in
              let both : alike i j ≡ true = eq.congr i r j one.1 ∙ eq.symm r j ∙ two' in
              false≢true (sym other ∙ both))
              ∙ sym other
        ]

-- families are one where the members are, and those that are alike
pub family_agree : (n : ℕ) (p q : ℕ → Bool) (a b : ℕ → ℕ → Bool) → ((i : ℕ) → i < n → p i ≡ q i) → ((i j : ℕ) → i < n → j < n → p i ≡ true → p j ≡ true → a i j ≡ b i j)
    → family_of n p a ≡ family_of n q b
family_agree n p q a b marks likes = map_range_agree (name_of n p a) (name_of n q b) 0 n (λ i low high. here i (omega arith) (p i) refl)
  where
    here : (i : ℕ) → i < n → (m : Bool) → p i ≡ m → name_of n p a i ≡ name_of n q b i
    here i below false e = rw (e, sym (marks i below) ∙ e) refl
    here i below true e =
        let all = range_with_len 0 n in
        let tests : filter (λ j. p j && a i j) (range_with_len 0 n) ≡ filter (λ j. q j && b i j) (range_with_len 0 n) =
        filter_range_agree (λ j. p j && a i j) (λ j. q j && b i j) 0 n (λ j low high. one j (omega arith) (p j) refl) in
        rw (e, sym (marks i below) ∙ e) (ap (λ xs. Some (get_or xs 0 0)) (filter-filter (a i) p all ∙ tests ∙ sym (filter-filter (b i) q all)))
      where
        one : (j : ℕ) → j < n → (m : Bool) → p j ≡ m → (p j && a i j) ≡ (q j && b i j)
        one j near true f = rw (f, sym (marks j near) ∙ f) (likes i j below near e f)
        one j near false f = rw (f, sym (marks j near) ∙ f) refl
