-- The fraction that is written in a text.
use Rattle.std.proofs.Common.{ℕ, zero, suc, ◌≡◌, ◌≢◌, ◌≤◌, ◌<◌, ◌^◌, ◌↔◌, Bool, true, false, not, cond, ◌||◌, List, [], ◌∷◌, ◌++◌, ◌+◌, take, length, get_or, Option, Some, None, IsSome, IfSome, option_map, inl, inr, refl, sym, ap, subst, ◌∙◌, arith}
use Rattle.std.specs.Fmt.{decimal}
use Rattle.std.specs.List.{All, list_any, before_first, after_first, position_or_len}
use Rattle.std.specs.Str.{bytes_eq}
use Rattle.std.specs.Str.Parse.{digits_value}
use Rattle.std.proofs.lemmas.Bool.{and_parts, ltb-true, lt-ltb, eqb-true, eq-eqb}
use Rattle.std.proofs.lemmas.Fmt.{decimal_is_IsNumeral}
use Rattle.std.proofs.lemmas.List.{get_or-take, length-take-le}
use Rattle.std.proofs.lemmas.List.Folds.{list_any_at}
use Rattle.std.proofs.lemmas.List.Sums.{split_at_first, prefix_len_passes, prefix_len_stops}
use Rattle.std.proofs.lemmas.Option.{same_Some, cond_some}
use Rattle.std.proofs.lemmas.Slice.Eq.{bytes_eq-Decides}
use Rattle.tda_frac.specs.Fraction.{Fraction, IsTextOf, IsFracOf}
use Rattle.tda_frac.proofs.Texts.{parts_of_text, whole_of_text}
use Rattle.tda_schema.specs.Lowest.{lowest, whole_in, quotient, is_slash, written_in, fraction_in}
use Rattle.tda_schema.proofs.LowestTerms.{lowest-is}

whole_in-decimal : (bytes : List ℕ) (n : ℕ) → n < 2 ^ 64 → bytes ≡ decimal n → whole_in bytes ≡ Some n
whole_in-decimal bytes n fits is =
    let value : digits_value 10 bytes ≡ n = ap (digits_value 10) is ∙ (decimal_is_IsNumeral n fits).1 in
    let small = lt-ltb n (2 ^ 64) fits in
    let same = (bytes_eq-Decides (decimal n) bytes).1 (sym is) in
    rw (value, small, same) refl

-- what the bytes are, where a number is found
whole_in-some : (bytes : List ℕ) (n : ℕ) → whole_in bytes ≡ Some n → (bytes ≡ decimal n) × (n < 2 ^ 64)
whole_in-some bytes n found =
    let v = digits_value 10 bytes in
    let given = cond_some _ v n found in
    let tests = and_parts _ (bytes_eq (decimal v) bytes) given.0 in
    let small : v < 2 ^ 64 = ltb-true v (2 ^ 64) tests.0 in
    let same : decimal v ≡ bytes = (bytes_eq-Decides (decimal v) bytes).0 tests.1 in
    (sym same ∙ ap decimal given.1, subst (λ k. k < 2 ^ 64) given.1 small)

quotient-of : (n d : ℕ) → 1 ≤ d → quotient (Some n) (Some d) ≡ Some (record { num = n; den = d })
quotient-of n zero some = absurd (omega arith)
quotient-of n (suc d) some = refl

whole_number : (n d : ℕ) → d ≡ 1 → quotient (Some n) (Some 1) ≡ Some (record { num = n; den = d })
whole_number n d e = ap (λ k. Some (record { num = n; den = k })) (sym e)

record IsQuotient (o p : Option ℕ) (g : Fraction) : Type 0 where
  num : o ≡ Some g.num
  den : p ≡ Some g.den
  some : 1 ≤ g.den

quotient-some : (o p : Option ℕ) (g : Fraction) → quotient o p ≡ Some g → IsQuotient o p g
quotient-some None None g h = cc
quotient-some None (Some d) g h = cc
quotient-some (Some n) None g h = cc
quotient-some (Some n) (Some zero) g h = cc
quotient-some (Some n) (Some (suc d)) g h =
    let made : Fraction = record { num = n; den = suc d } in
    let same : made ≡ g = same_Some made g h in
    let num : n ≡ g.num = ap (λ (x : Fraction). x.num) same in
    let den : suc d ≡ g.den = ap (λ (x : Fraction). x.den) same in
    record { num = ap Some num; den = ap Some den; some = omega arith }

first_slash : (bytes : List ℕ) → list_any is_slash bytes ≡ true → position_or_len is_slash bytes < length bytes
first_slash [] h = cc
first_slash (b ∷ bytes) h = by (is_slash b) (first_slash bytes) h
  where
    by : (t : Bool) → (list_any is_slash bytes ≡ true → position_or_len is_slash bytes < length bytes) → (t || list_any is_slash bytes) ≡ true
        → cond (not t) (1 + position_or_len is_slash bytes) 0 < length (b ∷ bytes)
    by true rest g = omega arith
    by false rest g = let below = rest g in omega arith

-- a text with a slash: what stands before the first one, and what stands after it
record IsCut (bytes : List ℕ) : Type 0 where
  whole : bytes ≡ before_first is_slash bytes ++ 47 ∷ after_first is_slash bytes
  plain : All (λ b. b ≢ 47) (before_first is_slash bytes)

cut : (bytes : List ℕ) → list_any is_slash bytes ≡ true → IsCut bytes
cut bytes h =
    let i = position_or_len is_slash bytes in
    let below = first_slash bytes h in
    let here : get_or bytes i 0 ≡ 47 = eqb-true (get_or bytes i 0) 47 (not_false _ (prefix_len_stops (λ b. not (is_slash b)) bytes 0 below)) in
    record {
      whole = split_at_first is_slash bytes 0 below ∙ ap (λ b. before_first is_slash bytes ++ b ∷ after_first is_slash bytes) here;
      plain = λ k d inside e.
          let short : length (take i bytes) ≡ i = length-take-le i bytes (omega arith) in
          let before : k < i = omega arith in
          let passes = prefix_len_passes (λ b. not (is_slash b)) bytes k d before in
          let slash : get_or bytes k d ≡ 47 = sym (get_or-take i bytes k d before) ∙ e in
          let is : is_slash (get_or bytes k d) ≡ true = eq-eqb (get_or bytes k d) 47 slash in
          cc (passes, ap not is);
    }
  where
    not_false : (t : Bool) → not t ≡ false → t ≡ true
    not_false true h = refl
    not_false false h = cc

no_slash : (bytes : List ℕ) → list_any is_slash bytes ≡ false → All (λ b. b ≢ 47) bytes
no_slash bytes h = λ k d below e. let some = list_any_at is_slash bytes k d below (eq-eqb (get_or bytes k d) 47 e) in cc

-- the text of a fraction is read as that fraction
pub written_in-text : (bytes : List ℕ) (g : Fraction) → IsTextOf bytes g → written_in bytes ≡ Some g
unfolding written_in
written_in-text bytes g text = by (list_any is_slash bytes) refl
  where
    by : (t : Bool) → list_any is_slash bytes ≡ t → cond t (quotient (whole_in (before_first is_slash bytes)) (whole_in (after_first is_slash bytes))) (quotient (whole_in bytes) (Some 1)) ≡ Some g
    by true h =
        let c = cut bytes h in
        let parts = parts_of_text bytes (before_first is_slash bytes) (after_first is_slash bytes) g c.whole c.plain text in
        let num = whole_in-decimal (before_first is_slash bytes) g.num text.fits.num parts.0 in
        let den = whole_in-decimal (after_first is_slash bytes) g.den text.fits.den parts.1 in
        rw (num, den) (quotient-of g.num g.den text.denominator)
    by false h =
        let parts = whole_of_text bytes g (no_slash bytes h) text in
        let num = whole_in-decimal bytes g.num text.fits.num parts.0 in
        rw num (whole_number g.num g.den parts.1)

-- what is read is a fraction's text
pub IsTextOf-written_in : (bytes : List ℕ) (g : Fraction) → written_in bytes ≡ Some g → IsTextOf bytes g
unfolding written_in
IsTextOf-written_in bytes g = by (list_any is_slash bytes) refl
  where
    by : (t : Bool) → list_any is_slash bytes ≡ t → cond t (quotient (whole_in (before_first is_slash bytes)) (whole_in (after_first is_slash bytes))) (quotient (whole_in bytes) (Some 1)) ≡ Some g → IsTextOf bytes g
    by true h found =
        let c = cut bytes h in
        let q = quotient-some _ _ g found in
        let num = whole_in-some _ g.num q.num in
        let den = whole_in-some _ g.den q.den in
        record {
          written = inl (c.whole ∙ ap (λ l. l ++ 47 ∷ after_first is_slash bytes) num.0 ∙ ap (λ l. decimal g.num ++ 47 ∷ l) den.0);
          denominator = q.some;
          fits = record { num = num.1; den = den.1 };
        }
    by false h found =
        let q = quotient-some _ _ g found in
        let num = whole_in-some _ g.num q.num in
        let one : 1 ≡ g.den = same_Some 1 g.den q.den in
        record { written = inr (num.0, sym one); denominator = q.some; fits = record { num = num.1; den = omega arith } }

-- what reading answers
pub parsed : (bytes : List ℕ) (o : Option Fraction) → IsSome o ↔ ((g : Fraction) × IsTextOf bytes g) → ((g : Fraction) → IsTextOf bytes g → IfSome o (λ f. IsFracOf f g)) → o ≡ fraction_in bytes
parsed bytes o valid value = by o (written_in bytes) refl valid value
  where
    by : (o w : Option Fraction) → written_in bytes ≡ w → IsSome o ↔ ((g : Fraction) × IsTextOf bytes g) → ((g : Fraction) → IsTextOf bytes g → IfSome o (λ f. IsFracOf f g)) → o ≡ option_map lowest w
    by None None is valid value = refl
    by None (Some g) is valid value = let some : false ≡ true = valid.1 (g, IsTextOf-written_in bytes g is) in cc
    by (Some f) None is valid value = let found = valid.0 refl in let some = written_in-text bytes found.0 found.1 in cc
    by (Some f) (Some g) is valid value =
        let text = IsTextOf-written_in bytes g is in
        let made : IsFracOf f g = value g text in
        ap Some (lowest-is g f text.denominator made.frac.reduced made.same)
