-- The law on pieces: each number below n is given by equally many of them.
use Rattle.std.proofs.Common.{ℕ, zero, suc, ◌≡◌, ◌≢◌, ◌+◌, ◌-◌, ◌*◌, ◌/◌, ◌%◌, ◌^◌, ◌<◌, ◌≤◌, List, [], ◌∷◌, length, map, get_or, refl, ap, sym, ◌∙◌, subst, arith}
use Rattle.std.specs.Prelude.{All, Contains}
use Rattle.std.specs.List.{AllPairs, range_with_len}
use Rattle.std.proofs.lemmas.List.FromFn.{length-map-range_with_len, get_or-map-range_with_len}
use Rattle.std.proofs.lemmas.List.Elements.{All-nil, All-cons, All-head, All-tail}
use Rattle.std.proofs.lemmas.Nat.{pow-add, mul-add-lt, mod-mul-add, same_from_place, div_below}
use Rattle.std.proofs.Math.Nat.{mod-add-div'}
use Rattle.tda_noise.specs.Draws.{IsWidth, words_for, number_of}
use Rattle.tda_noise.specs.Pieces.{AreSoMany, GivesNumber, IsEven}

-- the piece of so many words that has a number
piece_of : ℕ → ℕ → List ℕ
piece_of zero m = []
piece_of (suc words) m = m % 2 ^ 32 ∷ piece_of words (m / 2 ^ 32)

piece_length : (words m : ℕ) → length (piece_of words m) ≡ words
unfolding piece_of
piece_length zero m = refl
piece_length (suc words) m = ap suc (piece_length words _)

piece_small : (words m : ℕ) → All (λ word. word < 2 ^ 32) (piece_of words m)
unfolding piece_of
piece_small zero m = All-nil _
piece_small (suc words) m = All-cons (λ word. word < 2 ^ 32) _ _ (omega arith) (piece_small words _)

pow_more : (a : ℕ) → 2 ^ (32 * suc a) ≡ 2 ^ 32 * 2 ^ (32 * a)
pow_more a = let e : 32 * suc a ≡ 32 + 32 * a = omega arith in rw e (pow-add 2 32 (32 * a))

high_below : (m p : ℕ) → m < 2 ^ 32 * p → m / 2 ^ 32 < p
high_below m p h = omega arith

join_below : (word m p : ℕ) → word < 2 ^ 32 → m < p → word + 2 ^ 32 * m < 2 ^ 32 * p
join_below word m p h l = omega arith

piece_number : (words m : ℕ) → m < 2 ^ (32 * words) → number_of (piece_of words m) ≡ m
unfolding piece_of
piece_number zero m h = omega arith
piece_number (suc words) m h =
    let rest = piece_number words (m / 2 ^ 32) (high_below _ _ (rw pow_more at h)) in rw rest (omega arith)

number_piece : (piece : List ℕ) → All (λ word. word < 2 ^ 32) piece → piece_of (length piece) (number_of piece) ≡ piece
unfolding piece_of
number_piece [] h = refl
number_piece (word ∷ rest) h =
    let small : word < 2 ^ 32 = All-head (λ w. w < 2 ^ 32) word rest h in
    let low : (word + 2 ^ 32 * number_of rest) % 2 ^ 32 ≡ word = omega arith in
    let high : (word + 2 ^ 32 * number_of rest) / 2 ^ 32 ≡ number_of rest = omega arith in
    rw (low, high) (ap (λ ws. word ∷ ws) (number_piece rest (All-tail (λ w. w < 2 ^ 32) word rest h)))

number_below : (piece : List ℕ) → All (λ word. word < 2 ^ 32) piece → number_of piece < 2 ^ (32 * length piece)
number_below [] h = omega arith
number_below (word ∷ rest) h =
    rw pow_more (join_below _ _ _ (All-head (λ w. w < 2 ^ 32) word rest h) (number_below rest (All-tail (λ w. w < 2 ^ 32) word rest h)))

enough_digits : (k : ℕ) → k ≤ 32 * words_for k
enough_digits zero = omega arith
enough_digits (suc k) = omega arith

-- the piece of the number v + a * j, given as a row of length a and a place in it
item : ℕ → ℕ → ℕ → ℕ → List ℕ
item words a v j = piece_of words (j * a + v)

-- among the pieces of so many words, those whose number is v modulo a, where a divides the count of all pieces
module _ (words a v count : ℕ) (below : v < a) (whole : a * count ≡ 2 ^ (32 * words)) where
  item_number : (j : ℕ) → j < count → number_of (item words a v j) ≡ j * a + v
  unfolding item
  item_number j h = piece_number words _ (rw (← whole) (mul-add-lt j a v count h below))

  items : List (List ℕ)
  items = map (item words a v) (range_with_len 0 count)

  at_items : (j : ℕ) (d : List ℕ) → j < count → get_or items j d ≡ item words a v j
  unfolding items
  at_items j d h = get_or-map-range_with_len (item words a v) 0 count j j d h (omega arith)

  items_length : length items ≡ count
  unfolding items
  items_length = length-map-range_with_len (item words a v) 0 count

  items_distinct : AllPairs (λ x y. x ≢ y) items
  items_distinct i j d less h same =
      let j-in : j < count = omega (arith, items_length) in
      let i-in : i < count = omega arith in
      let e = sym (item_number i i-in) ∙ ap number_of (sym (at_items i d i-in) ∙ same ∙ at_items j d j-in) ∙ item_number j j-in in
      let rows = (same_from_place i v j v a below below e).0 in
      absurd (omega arith)

  item_is : (j : ℕ) → j < count → (length (item words a v j) ≡ words) × All (λ word. word < 2 ^ 32) (item words a v j)
      × (number_of (item words a v j) % a ≡ v)
  unfolding item
  item_is j h = (piece_length words _, piece_small words _, ap (λ m. m % a) (item_number j h) ∙ mod-mul-add j a v below)

  is_item : (piece : List ℕ) → length piece ≡ words → All (λ word. word < 2 ^ 32) piece → number_of piece % a ≡ v
      → (number_of piece / a < count) × (item words a v (number_of piece / a) ≡ piece)
  unfolding item
  is_item piece l h m =
      let top : number_of piece < 2 ^ (32 * words) = rw l at (number_below piece h) in
      let row : number_of piece / a < count = div_below (number_of piece) a count (omega arith) (omega arith) in
      let parts = mod-add-div' (number_of piece) a in
      let number : number_of piece / a * a + v ≡ number_of piece = omega arith in
      (row, rw (number, ← l) (number_piece piece h))

  abbrev IsOne : List ℕ → Type 0
  IsOne piece = (length piece ≡ words) × All (λ word. word < 2 ^ 32) piece × (number_of piece % a ≡ v)

  in_items : (piece : List ℕ) → Contains items piece → IsOne piece
  in_items piece has =
      let j-in : has.0 < count = omega (arith, items_length) in
      subst IsOne (sym (at_items has.0 piece j-in) ∙ has.2) (item_is has.0 j-in)

  one_in_items : (piece : List ℕ) → IsOne piece → Contains items piece
  one_in_items piece one =
      let at = is_item piece one.0 one.1 one.2 in
      (number_of piece / a, omega (arith, items_length), at_items _ piece at.0 ∙ at.1)

whole_is : (a k : ℕ) → k ≤ a → 2 ^ k * 2 ^ (a - k) ≡ 2 ^ a
whole_is a k h = let e : k + (a - k) ≡ a = omega arith in sym (pow-add 2 k (a - k)) ∙ ap (λ i. 2 ^ i) e

so_many : (n k v : ℕ) → IsWidth n k → v < n → AreSoMany (GivesNumber k v) (2 ^ (32 * words_for k - k))
so_many n k v width less =
    let words : ℕ = words_for k in
    let count : ℕ = 2 ^ (32 * words - k) in
    let below : v < 2 ^ k = omega arith in
    let whole = whole_is (32 * words) k (enough_digits k) in
    record {
      list = items words (2 ^ k) v count below whole;
      distinct = items_distinct words (2 ^ k) v count below whole;
      many = items_length words (2 ^ k) v count below whole;
      exact = λ piece. (
        λ has. let one = in_items words (2 ^ k) v count below whole piece has in record { words = one.0; small = one.1; number = one.2 },
        λ one. one_in_items words (2 ^ k) v count below whole piece (one.words, one.small, one.number),
      );
    }

pub even_pieces : (n : ℕ) → IsEven n
even_pieces n = record { pieces = so_many n }
