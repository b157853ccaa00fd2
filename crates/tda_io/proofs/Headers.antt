-- Whether a row is the header.
use Rattle.std.proofs.Common.{◌≡◌, ◌≢◌, ℕ, Bool, true, false, ◌&&◌, not, ◌+◌, ◌<◌, List, [], ◌∷◌, length, get_or, drop, map, Bor, refl, sym, ap, ◌∙◌, arith}
use Rattle.std.proofs.lemmas.List.{drop_more, length-map}
use Rattle.std.proofs.Math.ListN.{get_or-map}
use Rattle.std.specs.Str.{bytes_eq}
use Rattle.tda_io.specs.Rows.{row_width, field_of}
use Rattle.tda_io.specs.Csv.{Row, same_row, has_header}

pub same_row-long : (xs ys : Row) → length xs ≢ length ys → same_row xs ys ≡ false
same_row-long [] [] other = absurd (other refl)
same_row-long [] (y ∷ ys) other = refl
same_row-long (x ∷ xs) [] other = refl
same_row-long (x ∷ xs) (y ∷ ys) other =
    ap (λ b. bytes_eq x y && b) (same_row-long xs ys (λ e. other (omega (arith, e)))) ∙ and_false (bytes_eq x y)
  where
    and_false : (b : Bool) → (b && false) ≡ false
    and_false true = refl
    and_false false = refl

pub no_header : (header : Row) (rows : List Row) → length rows ≡ 0 → false ≡ has_header header rows
no_header header [] none = refl
no_header header (row ∷ rows) none = absurd (omega arith)

pub other_header : (header : Row) (rows : List Row) → row_width rows ≢ length header → false ≡ has_header header rows
other_header header [] other = refl
other_header header (row ∷ rows) other = sym (same_row-long header row (λ e. other (sym e)))

pub first_is : (header : Row) (rows : List Row) → 0 < length rows → same_row header (get_or rows 0 []) ≡ has_header header rows
first_is header [] some = absurd (omega arith)
first_is header (row ∷ rows) some = refl

-- one more column
pub one_more : (xs ys : Row) (due : Bool) (k : ℕ) → k < length xs → k < length ys → same_row (drop k xs) (drop k ys) ≡ due
    → (bytes_eq (get_or xs k []) (get_or ys k []) && same_row (drop (k + 1) xs) (drop (k + 1) ys)) ≡ due
one_more xs ys due k in_x in_y leads =
    let now = rw (drop_more xs k [] in_x, drop_more ys k [] in_y) at leads in now

-- the fields of a column, and whether they are the same
module _ (xs ys : Row) (due : Bool) (k : ℕ) (in_x : k < length xs) (in_y : k < length ys) (leads : same_row (drop k xs) (drop k ys) ≡ due) (ne : Bool) (is : ne ≡ not (bytes_eq (get_or xs k []) (get_or ys k []))) where
  here : (bytes_eq (get_or xs k []) (get_or ys k []) && same_row (drop (k + 1) xs) (drop (k + 1) ys)) ≡ due
  here = one_more xs ys due k in_x in_y leads

  pub field_differs : ne ≡ true → false ≡ due
  field_differs other = fail (bytes_eq (get_or xs k []) (get_or ys k [])) _ (sym is ∙ other) here
    where
      fail : (b c : Bool) → not b ≡ true → (b && c) ≡ due → false ≡ due
      fail true c h e = cc
      fail false c h e = e

  pub field_agrees : ne ≡ false → same_row (drop (k + 1) xs) (drop (k + 1) ys) ≡ due
  field_agrees equal = pass (bytes_eq (get_or xs k []) (get_or ys k [])) _ (sym is ∙ equal) here
    where
      pass : (b c : Bool) → not b ≡ false → (b && c) ≡ due → c ≡ due
      pass true c h e = e
      pass false c h e = cc

width_is : (rows : List Row) → row_width rows ≡ length (get_or rows 0 [])
width_is [] = refl
width_is (row ∷ rows) = refl

abbrev pub texts_of : List (Bor (List ℕ)) → Row
texts_of ts = map (λ t. t.now) ts

module _ (names : List (Bor (List ℕ))) (rows : List Row) (k : ℕ) (below : k < length names) (width : row_width rows ≡ length names) where
  name : (d : Bor (List ℕ)) → d.now ≡ [] → get_or (texts_of names) k [] ≡ (get_or names k d).now
  name d empty = rw (← empty) (get_or-map (λ t. t.now) names k d)

  in_names : k < length (texts_of names)
  in_names = rw length-map below

  in_row : k < length (get_or rows 0 [])
  in_row = omega (arith, width, below, width_is rows)

  pub goes_on : (d : Bor (List ℕ)) (due : Bool) → d.now ≡ [] → same_row (drop k (texts_of names)) (drop k (get_or rows 0 [])) ≡ due
      → (ne : Bool) → ne ≡ not (bytes_eq (get_or names k d).now (field_of rows 0 k)) → ne ≡ false
      → same_row (drop (k + 1) (texts_of names)) (drop (k + 1) (get_or rows 0 [])) ≡ due
  goes_on d due empty leads ne is equal = field_agrees (texts_of names) (get_or rows 0 []) due k in_names in_row leads ne (rw (name d empty) is) equal

  pub stops : (d : Bor (List ℕ)) (due : Bool) → d.now ≡ [] → same_row (drop k (texts_of names)) (drop k (get_or rows 0 [])) ≡ due
      → (ne : Bool) → ne ≡ not (bytes_eq (get_or names k d).now (field_of rows 0 k)) → ne ≡ true → false ≡ due
  stops d due empty leads ne is other = field_differs (texts_of names) (get_or rows 0 []) due k in_names in_row leads ne (rw (name d empty) is) other
