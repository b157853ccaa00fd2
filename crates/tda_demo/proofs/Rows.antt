-- Rows that are appended one after another, and codes that are written as they are.
use Rattle.std.proofs.Common.{◌≡◌, ℕ, ◌+◌, ◌<◌, ◌^◌, true, ◌&&◌, List, ◌∷◌, ◌++◌, sym, ap, ◌∙◌, arith, append_assoc, length-append, append-nil}
use Rattle.std.specs.Fmt.{decimal}
use Rattle.std.specs.List.{flat_map, range_with_len, list_all}
use Rattle.std.proofs.lemmas.Grind.{flat_map-append}
use Rattle.std.proofs.lemmas.List.Folds.{list_all-append}
use Rattle.tda_io.specs.Csv.{Row}
use Rattle.tda_io.specs.Texts.{is_plain_byte, row_text, IsPlain}
use Rattle.tda_io.proofs.PlainRows.{plain_decimal}
use Rattle.tda_demo.proofs.Ranges.{range_split}

-- one more of a range
pub range_more : {A : Type 0} (g : ℕ → List A) (k : ℕ)
    → flat_map g (range_with_len 0 (k + 1)) ≡ flat_map g (range_with_len 0 k) ++ g k
range_more g k =
    ap (flat_map g) (range_split 0 k 1)
    ∙ flat_map-append g (range_with_len 0 k) (range_with_len (0 + k) 1)
    ∙ ap (λ xs. flat_map g (range_with_len 0 k) ++ xs)
    (append-nil (g (0 + k)) ∙ ap g (let e : 0 + k ≡ k = omega arith in e))

-- and its rows
pub rows_more : (g : ℕ → List Row) (out next : List ℕ) (k : ℕ)
    → next ≡ (out ++ flat_map row_text (flat_map g (range_with_len 0 k))) ++ flat_map row_text (g k)
    → next ≡ out ++ flat_map row_text (flat_map g (range_with_len 0 (k + 1)))
rows_more g out next k is =
    is
    ∙ append_assoc out (flat_map row_text (flat_map g (range_with_len 0 k))) (flat_map row_text (g k))
    ∙ ap (λ t. out ++ t) (sym (flat_map-append row_text (flat_map g (range_with_len 0 k)) (g k)))
    ∙ ap (λ rows. out ++ flat_map row_text rows) (sym (range_more g k))

-- a row, and then the rows below it
pub rows_under : (start mid next own below : List ℕ) → mid ≡ start ++ own → next ≡ mid ++ below → next ≡ start ++ (own ++ below)
rows_under start mid next own below first then = then ∙ ap (λ t. t ++ below) first ∙ append_assoc start own below

pub plain_child : (stem : List ℕ) (letter n : ℕ) → list_all is_plain_byte stem ≡ true → is_plain_byte letter ≡ true → n < 2 ^ 64
    → IsPlain (stem ++ (letter ∷ decimal n))
plain_child stem letter n plain own small =
    let digits = plain_decimal n small in
    let long = length-append stem (letter ∷ decimal n) in
    record {
      filled = omega arith;
      plain = list_all-append is_plain_byte stem (letter ∷ decimal n)
          ∙ ap (λ b. b && list_all is_plain_byte (letter ∷ decimal n)) plain
          ∙ ap (λ b. b && list_all is_plain_byte (decimal n)) own
          ∙ digits.plain;
    }
