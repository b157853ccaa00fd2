-- Digits of values, and families that are split by them.
use Rattle.std.proofs.Common.{◌≡◌, ◌==◌, ◌&&◌, ℕ, ◌<◌, ◌≤◌, Bool, true, List, [], length, get_or, map, Option, Some, None, slice_get, refl, sym, ap, ◌∙◌, arith}
use Rattle.std.specs.List.{list_any, range_with_len, position_or_len}
use Rattle.std.specs.Str.{bytes_eq}
use Rattle.std.proofs.lemmas.Bool.Decides.{Decides-eqb, Decides-like, same_from_decides}
use Rattle.std.proofs.lemmas.List.Elements.{All-from_get_or}
use Rattle.std.proofs.lemmas.List.Folds.{list_any_at}
use Rattle.std.proofs.lemmas.List.FromFn.{length-range_with_len, get_or-range_with_len, length-map-range_with_len, get_or-map-range_with_len}
use Rattle.std.proofs.lemmas.List.Quantifiers.{position-Some}
use Rattle.std.proofs.lemmas.Option.{slice_get-get_or}
use Rattle.std.proofs.lemmas.Slice.Eq.{bytes_eq-Decides}
use Rattle.tda_model.specs.Schema.{Entry, Recode_labels, Recode, Schema}
use Rattle.tda_model.specs.Cells.{cell_count, value_at}
use Rattle.tda_model.specs.Groups.{label_of, alike_at}
use Rattle.tda_sets.specs.Family.{Names, family_of, is_member, are_together, are_alike, digit_at}
use Rattle.tda_sets.proofs.Families.{family_agree}
use Rattle.tda_schema.specs.Classes.{split_by}
use Rattle.tda_schema.specs.Columns.{columns_of}
use Rattle.tda_schema.specs.Digits.{AreDigits, labelled_alike}
use Rattle.tda_schema.specs.Readers.{values_of, IsWithinLimits}
use Rattle.tda_schema.specs.Stated.{IsRecodeOf}
use Rattle.tda_schema.proofs.ColumnLemmas.{column_value, value_at_below, values_are, no_attribute}
use Rattle.tda_schema.proofs.Finding.{placed}

-- ---- each value is its own digit

pub own_digits : (count : ℕ) (digits : List ℕ) → digits ≡ range_with_len 0 count → AreDigits count (λ v w. v == w) digits
own_digits count digits is =
    let room : length digits ≡ count = ap length is ∙ length-range_with_len 0 count in
    let own : (v : ℕ) → v < count → get_or digits v 0 ≡ v = λ v below. ap (λ ds. get_or ds v 0) is ∙ get_or-range_with_len 0 count v 0 below ∙ (omega arith) in
    record {
      room = room;
      below = All-from_get_or (λ d. d < length digits) digits 0 (λ v below. let near : v < count = omega (arith, room) in omega (arith, own v near));
      same = λ v w low high. rw (own v low, own w high) refl;
    }

-- ---- a digit is the first value with the label

module _ (labels : List (List ℕ)) where
  abbrev pub first_of : ℕ → ℕ
  first_of v = position_or_len (λ l. bytes_eq l (get_or labels v [])) labels

  pub has_label : (v : ℕ) → v < length labels → list_any (λ l. bytes_eq l (get_or labels v [])) labels ≡ true
  has_label v below = list_any_at (λ l. bytes_eq l (get_or labels v [])) labels v [] below ((bytes_eq-Decides (get_or labels v []) (get_or labels v [])).1 refl)

  first_is : (v : ℕ) → v < length labels → (first_of v < length labels) × (get_or labels (first_of v) [] ≡ get_or labels v [])
  first_is v below =
      let p = position-Some (λ l. bytes_eq l (get_or labels v [])) labels (first_of v) [] (placed (λ l. bytes_eq l (get_or labels v [])) labels (has_label v below)) in
      (p.0, (bytes_eq-Decides (get_or labels (first_of v) []) (get_or labels v [])).0 p.1)

  pub first_below : (v : ℕ) → v < length labels → first_of v < length labels
  first_below v below = (first_is v below).0

  one_first : (v w : ℕ) → v < length labels → w < length labels → (first_of v == first_of w) ≡ labelled_alike labels v w
  one_first v w low high =
      same_from_decides (first_of v == first_of w) (labelled_alike labels v w)
      (Decides-like (first_of v == first_of w)
      (λ e. sym (first_is v low).1 ∙ ap (λ d. get_or labels d []) e ∙ (first_is w high).1)
      (λ e. ap (λ x. position_or_len (λ l. bytes_eq l x) labels) e)
      (Decides-eqb (first_of v) (first_of w)))
      (bytes_eq-Decides (get_or labels v []) (get_or labels w []))

  pub first_digits : (count : ℕ) (digits : List ℕ) → count ≡ length labels → digits ≡ map first_of (range_with_len 0 count) → AreDigits count (labelled_alike labels) digits
  first_digits count digits counted is =
      let room : length digits ≡ count = ap length is ∙ length-map-range_with_len first_of 0 count in
      let digit : (v : ℕ) → v < count → get_or digits v 0 ≡ first_of v = λ v below. ap (λ ds. get_or ds v 0) is ∙ get_or-map-range_with_len first_of 0 count v v 0 below (omega arith) in
      record {
        room = room;
        below = All-from_get_or (λ d. d < length digits) digits 0 (λ v below.
            let near : v < length labels = omega (arith, room, counted) in
            omega (arith, digit v (omega (arith, room)), first_below v near, room, counted));
        same = λ v w low high. rw (digit v low, digit w high) (one_first v w (omega (arith, counted)) (omega (arith, counted)));
      }

-- an attribute has at most 128 values
pub few_values : (s : Schema) → IsWithinLimits s → (a : ℕ) → a < length s.attributes → length (values_of s a) ≤ 128
few_values s limits a below = omega (arith, limits.values a no_attribute below, ap length (values_are s a below))

-- ---- a family split by digits of an attribute's values

module _ (s : Schema) (a : ℕ) (below : a < length s.attributes) (limits : IsWithinLimits s) (columns : List (List ℕ)) (same : columns ≡ columns_of s.attributes)
    (names : Names) (cells : length names ≡ cell_count s) where
  pub split_is : (digits : List ℕ) (alike : ℕ → ℕ → Bool) (entry : Entry) → AreDigits (length (values_of s a)) alike digits
      → ((i j : ℕ) → i < cell_count s → j < cell_count s → alike (value_at s i a) (value_at s j a) ≡ alike_at s i j entry)
      → family_of (length names) (is_member names) (are_alike names (get_or columns a []) digits) ≡ split_by s names entry
  split_is digits alike entry are tells =
      let column = get_or columns a [] in
      let digit : (i : ℕ) → i < cell_count s → digit_at column digits i ≡ get_or digits (value_at s i a) 0 =
      λ i near. ap (λ v. get_or digits v 0) (column_value s.attributes columns same a below i near) in
      ap (λ n. family_of n (is_member names) (are_alike names column digits)) cells
      ∙ family_agree (cell_count s) (is_member names) (is_member names) (are_alike names column digits) (λ i j. are_together names i j && alike_at s i j entry)
      (λ i near. refl)
      (λ i j low high here there.
      ap (λ b. are_together names i j && b)
      (ap (λ d. d == digit_at column digits j) (digit i low) ∙ ap (λ d. get_or digits (value_at s i a) 0 == d) (digit j high)
      ∙ are.same (value_at s i a) (value_at s j a) (value_at_below s a below limits i) (value_at_below s a below limits j) ∙ tells i j low high))

-- the label of a cell
module _ (s : Schema) (r : ℕ) (x : Recode) (below : r < length s.recodes) (is : x ≡ get_or s.recodes r x) (of : IsRecodeOf s x) (attribute : x.of < length s.attributes) (limits : IsWithinLimits s) where
  label_is : (i : ℕ) → i < cell_count s → label_of s r i ≡ get_or x.labels (value_at s i x.of) []
  label_is i near =
      let found : slice_get s.recodes r ≡ Some x = slice_get-get_or s.recodes r x below ∙ ap Some (sym is) in
      let value : value_at s i x.of < length x.labels = omega (arith, of.labels, value_at_below s x.of attribute limits i) in
      let label : slice_get x.labels (value_at s i x.of) ≡ Some (get_or x.labels (value_at s i x.of) []) = slice_get-get_or x.labels (value_at s i x.of) [] value in
      ap (λ (o : Option Recode). elim o as (λ _. List ℕ) [ Some y ↦ elim (slice_get y.labels (value_at s i y.of)) as (λ _. List ℕ) [ Some t ↦ t | None ↦ [] ] | None ↦ [] ]) found
      ∙ ap (λ (o : Option (List ℕ)). elim o as (λ _. List ℕ) [ Some t ↦ t | None ↦ [] ]) label

  pub labels_tell : (i j : ℕ) → i < cell_count s → j < cell_count s → labelled_alike x.labels (value_at s i x.of) (value_at s j x.of) ≡ alike_at s i j (Recode_labels r)
  labels_tell i j low high = ap (λ l. bytes_eq l (get_or x.labels (value_at s j x.of) [])) (sym (label_is i low)) ∙ ap (bytes_eq (label_of s r i)) (sym (label_is j high))
