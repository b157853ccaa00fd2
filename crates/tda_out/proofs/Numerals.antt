-- A decimal of up to 127 bits is a plain field.
use Rattle.std.proofs.Common.{◌≡◌, ℕ, ◌&&◌, ne_eqb, ◌<◌, ◌^◌, true, List, [], ◌∷◌, refl, ap, ◌∙◌, arith}
use Rattle.std.specs.Fmt.{decimal}
use Rattle.std.specs.Int.{IsInRange}
use Rattle.std.specs.List.{list_all}
use Rattle.std.specs.Str.Parse.{AllDigits}
use Rattle.std.proofs.lemmas.Fmt.{decimal_is_IsNumeral_wide}
use Rattle.std.proofs.lemmas.Str.Parse.{digit_from_value}
use Rattle.tda_io.specs.Texts.{is_plain_byte, IsPlain}

digit_plain : (c : ℕ) → IsInRange 48 57 c → is_plain_byte c ≡ true
digit_plain c h = simp (ne_eqb c 44 (λ e. omega (arith, h)), ne_eqb c 34 (λ e. omega (arith, h)), ne_eqb c 10 (λ e. omega (arith, h)), ne_eqb c 13 (λ e. omega (arith, h)))

digits_plain : (ds : List ℕ) → AllDigits 10 ds → list_all is_plain_byte ds ≡ true
digits_plain [] h = refl
digits_plain (c ∷ cs) h = ap (λ t. t && list_all is_plain_byte cs) (digit_plain c (digit_from_value c h.0)) ∙ digits_plain cs h.1

pub plain_wide : (n : ℕ) → n < 2 ^ 127 → IsPlain (decimal n)
plain_wide n small =
    let k = decimal_is_IsNumeral_wide n (omega arith) in
    record { filled = k.0.0; plain = digits_plain (decimal n) k.0.1 }
