-- The fields of a row that name a place, and the number of a row.
use Rattle.std.proofs.Common.{◌≡◌, ◌≢◌, ℕ, ◌<◌, ◌^◌, Bool, true, false, ◌&&◌, List, [], ◌∷◌, length, get_or, take, Option, Some, None, ℤ, pos, refl, sym, ap, ◌∙◌, inl, inr, arith}
use Rattle.std.specs.Fmt.{decimal}
use Rattle.std.specs.Str.{bytes_eq}
use Rattle.std.specs.Cmp.Lexicographic.{bytes_decides}
use Rattle.std.proofs.lemmas.Bool.{cases_Bool, lt-ltb}
use Rattle.std.specs.Option.{option_eq}
use Rattle.std.specs.Ordering.{int_eq}
use Rattle.std.proofs.lemmas.Bool.Decides.{Decides-int_eq}
use Rattle.std.proofs.lemmas.Option.{same_Some}
use Rattle.tda_io.specs.Csv.{Row, same_row}
use Rattle.tda_io.specs.Texts.{int_of}
use Rattle.tda_io.proofs.Numbers.{int_of-decimal, int_of-is}

-- ---- decimals
module _ (n : ℕ) (small : n < 2 ^ 127) (text : List ℕ) where
  pub spells : int_of text ≡ Some (pos n) → bytes_eq (decimal n) text ≡ true
  spells is = (bytes_decides (decimal n) text).1 (sym (int_of-is text (pos n) (sym is)).0)

  pub spells_not : int_of text ≢ Some (pos n) → bytes_eq (decimal n) text ≡ false
  spells_not other = elim (cases_Bool (bytes_eq (decimal n) text)) [
    | inl same ↦
        let text_is : decimal n ≡ text = (bytes_decides (decimal n) text).0 same in
        absurd (other (ap int_of (sym text_is) ∙ int_of-decimal (pos n) (lt-ltb n (2 ^ 127) small)))
    | inr differs ↦ differs
  ]

  pub tells_decimal : (o : Option ℤ) → o ≡ int_of text → option_eq int_eq o (Some (pos n)) ≡ bytes_eq (decimal n) text
  tells_decimal None e = sym (spells_not (λ is. none_not_some (e ∙ is)))
    where
      none_not_some : None ≡ Some (pos n) → ⊥
      none_not_some h = cc
  tells_decimal (Some z) e = elim (cases_Bool (int_eq z (pos n))) [
    | inl same ↦ same ∙ sym (spells (sym e ∙ ap Some ((Decides-int_eq z (pos n)).0 same)))
    | inr differs ↦ differs ∙ sym (spells_not (λ is. clash ((Decides-int_eq z (pos n)).1 (same_Some z (pos n) (e ∙ is))) differs))
  ]
    where
      clash : {b : Bool} → b ≡ true → b ≡ false → ⊥
      clash first second = cc

-- ---- three fields
module _ (a b c : List ℕ) where
  pub other_first : (row : Row) → length row ≡ 4 → bytes_eq a (get_or row 0 []) ≡ false → same_row (a ∷ b ∷ c ∷ []) (take 3 row) ≡ false
  other_first [] wide differs = absurd (omega arith)
  other_first (x ∷ xs) wide differs = rw differs refl

  pub other_second : (row : Row) → length row ≡ 4 → bytes_eq a (get_or row 0 []) ≡ true → bytes_eq b (get_or row 1 []) ≡ false → same_row (a ∷ b ∷ c ∷ []) (take 3 row) ≡ false
  other_second [] wide same differs = absurd (omega arith)
  other_second (x ∷ []) wide same differs = absurd (omega arith)
  other_second (x ∷ y ∷ ys) wide same differs = rw (same, differs) refl

  pub third : (row : Row) → length row ≡ 4 → bytes_eq a (get_or row 0 []) ≡ true → bytes_eq b (get_or row 1 []) ≡ true → same_row (a ∷ b ∷ c ∷ []) (take 3 row) ≡ bytes_eq c (get_or row 2 [])
  third [] wide same both = absurd (omega arith)
  third (x ∷ []) wide same both = absurd (omega arith)
  third (x ∷ y ∷ []) wide same both = absurd (omega arith)
  third (x ∷ y ∷ z ∷ zs) wide same both = rw (same, both) (and_true (bytes_eq c z))
    where
      and_true : (t : Bool) → (t && true) ≡ t
      and_true true = refl
      and_true false = refl

pub same_row-itself : (row : Row) → same_row row row ≡ true
same_row-itself [] = refl
same_row-itself (x ∷ xs) = let here : bytes_eq x x ≡ true = (bytes_decides x x).1 refl in rw here (same_row-itself xs)
