-- Rows of plain fields, written between commas and line feeds, are read back.
use Rattle.std.proofs.Common.{◌≡◌, ℕ, zero, suc, ◌+◌, ◌<◌, ◌≤◌, ◌^◌, Bool, true, false, ◌&&◌, ◌||◌, not, List, [], ◌∷◌, ◌++◌, length, refl, ap, ◌∙◌, arith, append-nil, length-append, ne_eqb}
use Rattle.std.specs.Prelude.{◌==◌}
use Rattle.std.specs.Fmt.{decimal}
use Rattle.std.specs.Int.{IsInRange}
use Rattle.std.specs.List.{list_all, list_any, flat_map, join_with_byte, AllByRecursion}
use Rattle.std.specs.Str.Parse.{AllDigits}
use Rattle.std.proofs.lemmas.Str.Parse.{digit_from_value}
use Rattle.std.proofs.lemmas.Fmt.{decimal_is_IsNumeral_wide}
use Rattle.csv.specs.Machine.{next_record}
use Rattle.csv.specs.Reading.{default_config, records_from, records}
use Rattle.csv.specs.Writing as writing
use Rattle.csv.specs.Writing.{default_writer, needs_byte, needs_quotes, field_text, fields_text, row_body, is_blank, read_back}
use Rattle.csv.specs.declared.parser.State.TheVariants as st
use Rattle.csv.proofs.RoundTrip.{read-write, rows_text}
use Rattle.tda_io.specs.Texts.{is_plain_byte, row_text, IsPlain}

-- ---- fields

needs_none : (c q l r : Bool) → (not c && not q && not l && not r) ≡ true → (c || q || (r || l) || false || false) ≡ false
needs_none false false false false h = refl
needs_none false false false true h = cc
needs_none false false true r h = cc
needs_none false true l r h = cc
needs_none true q l r h = cc

plain_needs : (b : ℕ) → is_plain_byte b ≡ true → needs_byte default_writer b ≡ false
plain_needs b h = needs_none (b == 44) (b == 34) (b == 10) (b == 13) h

both : (a b : Bool) → (a && b) ≡ true → (a ≡ true) × (b ≡ true)
both true true h = (refl, refl)
both true false h = cc
both false b h = cc

no_quotes : (field : List ℕ) → list_all is_plain_byte field ≡ true → needs_quotes default_writer field ≡ false
no_quotes [] h = refl
no_quotes (b ∷ bs) h =
    let parts = both (is_plain_byte b) (list_all is_plain_byte bs) h in
    let here = plain_needs b parts.0 in
    let rest : list_any (needs_byte default_writer) bs ≡ false = no_quotes bs parts.1 in
    ap (λ t. t || list_any (needs_byte default_writer) bs) here ∙ rest

written_plain : (field : List ℕ) → IsPlain field → field_text default_writer field ≡ field
written_plain field h = rw (no_quotes field h.plain) refl

-- ---- rows

-- fields that are written as they are, at least one
pub record IsPlainRow (row : List (List ℕ)) : Type 0 where
  pub some : 0 < length row
  pub fields : AllByRecursion IsPlain row

body_is : (x : List ℕ) (rest : List (List ℕ)) → IsPlain x → AllByRecursion IsPlain rest → row_body default_writer (x ∷ rest) ≡ join_with_byte 44 (x ∷ rest)
unfolding fields_text
body_is x [] h hs = ap (λ t. t ++ []) (written_plain x h) ∙ append-nil x
body_is x (y ∷ ys) h hs =
    ap (λ t. t ++ (44 ∷ row_body default_writer (y ∷ ys))) (written_plain x h)
    ∙ ap (λ t. x ++ (44 ∷ t)) (body_is y ys hs.0 hs.1)

not_blank : (x : List ℕ) (rest : List (List ℕ)) → IsPlain x → is_blank default_writer (x ∷ rest) ≡ false
unfolding is_blank
not_blank x [] h = let filled = h.filled in ap (λ t. length t == 0) (written_plain x h) ∙ ne_eqb (length x) 0 (λ e. omega arith)
not_blank x (y ∷ ys) h = refl

row_is : (row : List (List ℕ)) → IsPlainRow row → row_text row ≡ writing.row_text default_writer row
row_is [] h = let some = h.some in absurd (omega arith)
row_is (x ∷ rest) h =
    let fields = h.fields in
    rw (body_is x rest fields.0 fields.1, not_blank x rest fields.0) refl

rows_are : (rows : List (List (List ℕ))) → AllByRecursion IsPlainRow rows → flat_map row_text rows ≡ rows_text rows
unfolding rows_text
rows_are [] h = refl
rows_are (row ∷ rows) h = rw (row_is row h.0, rows_are rows h.1) refl

-- ---- texts

back_is : (row : List (List ℕ)) → IsPlainRow row → read_back row ≡ row
back_is [] h = let some = h.some in absurd (omega arith)
back_is (x ∷ rest) h = refl

records_are : (rows : List (List (List ℕ))) (n : ℕ) → length rows < n → AllByRecursion IsPlainRow rows → records_from default_config n st.StartRecord (rows_text rows) ≡ rows
unfolding records_from rows_text next_record
records_are rows zero l h = absurd (omega arith)
records_are [] (suc n) l h = refl
records_are (row ∷ rows) (suc n) l h = rw (read-write row (rows_text rows), back_is row h.0, records_are rows n (omega arith) h.1) refl

rows_short : (rows : List (List (List ℕ))) → length rows ≤ length (flat_map row_text rows)
rows_short [] = omega arith
rows_short (row ∷ rows) =
    let rest = rows_short rows in
    let one = length-append (join_with_byte 44 row) (10 ∷ []) in
    let all = length-append (row_text row) (flat_map row_text rows) in
    omega arith

-- the records of a text of such rows are the rows
pub rows_back : (rows : List (List (List ℕ))) → AllByRecursion IsPlainRow rows → records default_config (flat_map row_text rows) ≡ rows
rows_back rows h =
    let short = rows_short rows in
    ap (records_from default_config (length (flat_map row_text rows) + 1) st.StartRecord) (rows_are rows h)
    ∙ records_are rows (length (flat_map row_text rows) + 1) (omega arith) h

-- ---- decimals

digit_plain : (c : ℕ) → IsInRange 48 57 c → is_plain_byte c ≡ true
digit_plain c h = simp (ne_eqb c 44 (λ e. omega (arith, h)), ne_eqb c 34 (λ e. omega (arith, h)), ne_eqb c 10 (λ e. omega (arith, h)), ne_eqb c 13 (λ e. omega (arith, h)))

digits_plain : (ds : List ℕ) → AllDigits 10 ds → list_all is_plain_byte ds ≡ true
digits_plain [] h = refl
digits_plain (c ∷ cs) h = ap (λ t. t && list_all is_plain_byte cs) (digit_plain c (digit_from_value c h.0)) ∙ digits_plain cs h.1

pub plain_decimal : (n : ℕ) → n < 2 ^ 64 → IsPlain (decimal n)
plain_decimal n small =
    let k = decimal_is_IsNumeral_wide n (omega arith) in
    record { filled = k.0.0; plain = digits_plain (decimal n) k.0.1 }
