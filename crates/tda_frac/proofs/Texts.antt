-- Texts of fractions, cut at their `/`.
use Rattle.std.proofs.Common.{ℕ, ◌≡◌, ◌≢◌, ◌<◌, ◌≤◌, ◌^◌, ◌↔◌, true, false, ◌⊎◌, inl, inr, List, [], ◌∷◌, ◌++◌, Option, Some, None, IsSome, IsNone, IfSome, arith, refl, sym, subst, ap, ◌∙◌}
use Rattle.std.specs.Fmt.{decimal}
use Rattle.std.specs.List.{AllByRecursion, All}
use Rattle.std.specs.Str.Parse.{AllDigits}
use Rattle.std.proofs.lemmas.Fmt.{decimal_is_IsNumeral, decimal_injective}
use Rattle.std.proofs.lemmas.List.Elements.{recursion_from_All}
use Rattle.std.proofs.lemmas.Str.Parse.{digit_from_value}
use Rattle.tda_frac.specs.Fraction.{Fraction, FitsU64, IsFracOf, IsTextOf, text_of}
use Rattle.tda_frac.proofs.Fractions.{same_fraction}

abbrev NoSlash : List ℕ → Type 0
NoSlash bs = AllByRecursion (λ b. b ≢ 47) bs

digits_plain : (ds : List ℕ) → AllDigits 10 ds → NoSlash ds
digits_plain [] h = tt
digits_plain (c ∷ cs) h =
    let range = digit_from_value c h.0 in
    let other : c ≢ 47 = omega (arith, range) in
    (other, digits_plain cs h.1)

decimal_plain : (n : ℕ) → n < 2 ^ 64 → NoSlash (decimal n)
decimal_plain n fits = digits_plain (decimal n) (decimal_is_IsNumeral n fits).0.1

same_cut : (xs ys us vs : List ℕ) → NoSlash xs → NoSlash us → xs ++ 47 ∷ ys ≡ us ++ 47 ∷ vs → (xs ≡ us) × (ys ≡ vs)
same_cut [] ys [] vs p q e = let rest : ys ≡ vs = cc in (refl, rest)
same_cut [] ys (u ∷ us) vs p q e = let same : u ≡ 47 = cc in absurd (q.0 same)
same_cut (x ∷ xs) ys [] vs p q e = let same : x ≡ 47 = cc in absurd (p.0 same)
same_cut (x ∷ xs) ys (u ∷ us) vs p q e =
    let first : x ≡ u = cc in
    let rest : xs ++ 47 ∷ ys ≡ us ++ 47 ∷ vs = cc in
    let cut = same_cut xs ys us vs p.1 q.1 rest in
    let whole : x ∷ xs ≡ u ∷ us = ap (λ n. n ∷ xs) first ∙ ap (λ l. u ∷ l) cut.0 in
    (whole, cut.1)

slash_inside : (bs xs ys : List ℕ) → NoSlash bs → bs ≡ xs ++ 47 ∷ ys → ⊥
slash_inside [] [] ys p e = absurd cc
slash_inside [] (x ∷ xs) ys p e = absurd cc
slash_inside (b ∷ bs) [] ys p e = let same : b ≡ 47 = cc in p.0 same
slash_inside (b ∷ bs) (x ∷ xs) ys p e = let rest : bs ≡ xs ++ 47 ∷ ys = cc in slash_inside bs xs ys p.1 rest

cut_parts : (bytes left right : List ℕ) (g : Fraction) → FitsU64 g → bytes ≡ left ++ 47 ∷ right → NoSlash left → (bytes ≡ text_of g) ⊎ ((bytes ≡ decimal g.num) × (g.den ≡ 1)) → (left ≡ decimal g.num) × (right ≡ decimal g.den)
cut_parts bytes left right g fits whole plain (inl e) = same_cut left right (decimal g.num) (decimal g.den) plain (decimal_plain g.num fits.num) (sym whole ∙ e)
cut_parts bytes left right g fits whole plain (inr p) = absurd (slash_inside (decimal g.num) left right (decimal_plain g.num fits.num) (sym p.0 ∙ whole))

-- what a text with a `/` is read as
pub parts_of_text : (bytes left right : List ℕ) (g : Fraction) → bytes ≡ left ++ 47 ∷ right → All (λ b. b ≢ 47) left → IsTextOf bytes g → (left ≡ decimal g.num) × (right ≡ decimal g.den)
parts_of_text bytes left right g whole plain text = cut_parts bytes left right g text.fits whole (recursion_from_All (λ b. b ≢ 47) left plain) text.written

plain_parts : (bytes : List ℕ) (g : Fraction) → NoSlash bytes → (bytes ≡ text_of g) ⊎ ((bytes ≡ decimal g.num) × (g.den ≡ 1)) → (bytes ≡ decimal g.num) × (g.den ≡ 1)
plain_parts bytes g plain (inl e) = absurd (slash_inside bytes (decimal g.num) (decimal g.den) plain e)
plain_parts bytes g plain (inr p) = p

-- what a text without a `/` is read as
pub whole_of_text : (bytes : List ℕ) (g : Fraction) → All (λ b. b ≢ 47) bytes → IsTextOf bytes g → (bytes ≡ decimal g.num) × (g.den ≡ 1)
whole_of_text bytes g plain text = plain_parts bytes g (recursion_from_All (λ b. b ≢ 47) bytes plain) text.written

some_where_positive : (o : Option Fraction) (d : ℕ) → IsNone o ↔ (d ≡ 0) → 1 ≤ d → IsSome o
some_where_positive None d none some = absurd (omega (arith, none.0 refl))
some_where_positive (Some f) d none some = refl

positive_where_some : (o : Option Fraction) (d : ℕ) → IsNone o ↔ (d ≡ 0) → IsSome o → 1 ≤ d
positive_where_some None d none some = absurd cc
positive_where_some (Some f) d none some =
    let other : d ≢ 0 = λ e. let is : true ≡ false = none.1 e in absurd cc in
    omega arith

-- the answer for a text n/d, which is None where d is 0
pub valid_of_parts : (bytes left right : List ℕ) (n d : ℕ) (o : Option Fraction) → bytes ≡ left ++ 47 ∷ right → All (λ b. b ≢ 47) left → left ≡ decimal n → right ≡ decimal d → n < 2 ^ 64 → d < 2 ^ 64 → IsNone o ↔ (d ≡ 0) → IsSome o ↔ ((g : Fraction) × IsTextOf bytes g)
valid_of_parts bytes left right n d o whole plain num den fits_n fits_d none =
    let read : Fraction = record { num = n; den = d } in
    let text : bytes ≡ text_of read = whole ∙ ap (λ l. l ++ 47 ∷ right) num ∙ ap (λ l. decimal n ++ 47 ∷ l) den in (
      λ some. (read, record { written = inl text; denominator = positive_where_some o d none some; fits = record { num = fits_n; den = fits_d } }),
      λ found.
          let parts = parts_of_text bytes left right found.0 whole plain found.1 in
          let same : d ≡ found.0.den = decimal_injective d found.0.den fits_d found.1.fits.den (sym den ∙ parts.1) in
          some_where_positive o d none (subst (λ k. 1 ≤ k) (sym same) found.1.denominator),
    )

pub value_of_parts : (bytes left right : List ℕ) (n d : ℕ) (o : Option Fraction) → bytes ≡ left ++ 47 ∷ right → All (λ b. b ≢ 47) left → left ≡ decimal n → right ≡ decimal d → n < 2 ^ 64 → d < 2 ^ 64 → IfSome o (λ f. IsFracOf f (record { num = n; den = d })) → (g : Fraction) → IsTextOf bytes g → IfSome o (λ f. IsFracOf f g)
value_of_parts bytes left right n d o whole plain num den fits_n fits_d value g text =
    let read : Fraction = record { num = n; den = d } in
    let parts = parts_of_text bytes left right g whole plain text in
    let over : n ≡ g.num = decimal_injective n g.num fits_n text.fits.num (sym num ∙ parts.0) in
    let under : d ≡ g.den = decimal_injective d g.den fits_d text.fits.den (sym den ∙ parts.1) in
    subst (λ x. IfSome o (λ f. IsFracOf f x)) (same_fraction read g over under) value

-- the answer for a text n
pub valid_of_whole : (bytes : List ℕ) (n : ℕ) (o : Option Fraction) → All (λ b. b ≢ 47) bytes → bytes ≡ decimal n → n < 2 ^ 64 → IsNone o ↔ (◌≡◌ {A = ℕ} 1 0) → IsSome o ↔ ((g : Fraction) × IsTextOf bytes g)
valid_of_whole bytes n o plain num fits none =
    let read : Fraction = record { num = n; den = 1 } in
    (λ some. (read, record { written = inr (num, refl); denominator = omega arith; fits = record { num = fits; den = omega arith } }), λ found. some_where_positive o 1 none (omega arith))

pub value_of_whole : (bytes : List ℕ) (n : ℕ) (o : Option Fraction) → All (λ b. b ≢ 47) bytes → bytes ≡ decimal n → n < 2 ^ 64 → IfSome o (λ f. IsFracOf f (record { num = n; den = 1 })) → (g : Fraction) → IsTextOf bytes g → IfSome o (λ f. IsFracOf f g)
value_of_whole bytes n o plain num fits value g text =
    let read : Fraction = record { num = n; den = 1 } in
    let parts = whole_of_text bytes g plain text in
    let over : n ≡ g.num = decimal_injective n g.num fits text.fits.num (sym num ∙ parts.0) in
    subst (λ x. IfSome o (λ f. IsFracOf f x)) (same_fraction read g over (sym parts.1)) value
