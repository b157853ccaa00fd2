-- Words that are taken from the front of a stream are those at the next places, and make a block's persons.
use Rattle.std.proofs.Common.{◌≡◌, ℕ, zero, suc, ◌+◌, ◌-◌, ◌%◌, ◌<◌, ◌≤◌, List, [], ◌∷◌, ◌++◌, map, take, drop, length, get_or, refl, sym, ap, ◌∙◌, arith, append_assoc, append-nil}
use Rattle.std.specs.List.{flat_map, range_with_len}
use Rattle.std.proofs.lemmas.Grind.{flat_map-append}
use Rattle.std.proofs.lemmas.List.{drop_more, map_more, map-append}
use Rattle.std.proofs.lemmas.List.FromFn.{take-map-range_with_len, get_or-map-range_with_len}
use Rattle.std.proofs.lemmas.Nat.{mod_below}
use Rattle.tda_io.specs.Csv.{Row}
use Rattle.tda_io.specs.Texts.{row_text}
use Rattle.tda_demo.specs.Facilities.{has_dormitory, has_prison}
use Rattle.tda_demo.specs.Persons.{block_persons, drawn, first_word, further, residents}

-- ---- one word
head : List ℕ → ℕ
head [] = 0
head (x ∷ xs) = x

rest_of : List ℕ → List ℕ
rest_of [] = []
rest_of (x ∷ xs) = xs

-- the word that is taken from what is left of a list, and what is left then
pub taken : (all before after : List ℕ) (k w : ℕ) → k < length all → before ≡ drop k all → before ≡ w ∷ after
    → (w ≡ get_or all k 0) × (after ≡ drop (k + 1) all)
unfolding head rest_of
taken all before after k w below left is =
    let front = sym is ∙ left ∙ drop_more all k 0 below in (ap head front, ap rest_of front)

-- the row of one person more
pub row_more : (f : ℕ → ℕ) (row : ℕ → Row) (all start old new : List ℕ) (k w c : ℕ) → k < length all → w ≡ get_or all k 0 → c ≡ f w
    → new ≡ old ++ row_text (row c) → old ≡ start ++ flat_map row_text (map row (map f (take k all)))
    → new ≡ start ++ flat_map row_text (map row (map f (take (k + 1) all)))
row_more f row all start old new k w c below word cell is made =
    let rows = map row (map f (take k all)) in
    let next = f (get_or all k 0) in
    let more : map row (map f (take (k + 1) all)) ≡ rows ++ row next ∷ [] =
    ap (map row) (map_more f all k 0 below) ∙ map-append row (map f (take k all)) (next ∷ []) in
    is
    ∙ ap (λ x. old ++ row_text (row x)) (cell ∙ ap f word)
    ∙ ap (λ t. t ++ row_text (row next)) made
    ∙ append_assoc start (flat_map row_text rows) (row_text (row next))
    ∙ ap (λ t. start ++ (flat_map row_text rows ++ t)) (sym (append-nil (row_text (row next))))
    ∙ ap (λ t. start ++ t) (sym (flat_map-append row_text rows (row next ∷ [])))
    ∙ ap (λ rs. start ++ flat_map row_text rs) (sym more)

-- ---- the words from a place on
module _ (words : ℕ → ℕ) where
  abbrev pub supply : ℕ → ℕ → List ℕ
  supply place left = map words (range_with_len place left)

  pub first_is : (place left : ℕ) → 1 ≤ left → get_or (supply place left) 0 0 ≡ words place
  first_is place left some = get_or-map-range_with_len words place left 0 place 0 some (omega arith)

  pub rest_is : (place left k : ℕ) → k ≤ left → drop k (supply place left) ≡ supply (place + k) (left - k)
  rest_is place left zero few =
      ap (λ p. supply p left) (let e : place ≡ place + zero = omega arith in e)
      ∙ ap (supply (place + zero)) (let e : left ≡ left - zero = omega arith in e)
  rest_is place zero (suc k) few = absurd (omega arith)
  rest_is place (suc left) (suc k) few =
      rest_is (place + 1) left k (omega arith)
      ∙ ap (λ p. supply p (left - k)) (let e : place + 1 + k ≡ place + suc k = omega arith in e)
      ∙ ap (supply (place + suc k)) (let e : left - k ≡ suc left - suc k = omega arith in e)

  map_map : (f : ℕ → ℕ) (ks : List ℕ) → map f (map words ks) ≡ map (λ k. f (words k)) ks
  map_map f [] = refl
  map_map f (k ∷ ks) = ap (λ xs. f (words k) ∷ xs) (map_map f ks)

  pub first_more : (i : ℕ) → first_word words (i + 1) ≡ first_word words i + 1 + further words (first_word words i)
  first_more i = ap (first_word words) (let e : i + 1 ≡ suc i = omega arith in e)

  -- a block takes no more than 16 words
  pub first_few : (i : ℕ) → first_word words (i + 1) ≤ first_word words i + 16
  first_few i = let few = mod_below (words (first_word words i)) 16 (omega arith) in omega (arith, first_more i, few)

  module _ (i left : ℕ) (enough : 16 ≤ left) where
    pub persons_are : residents (has_dormitory i) (has_prison i) ++ map (drawn (has_dormitory i) (has_prison i)) (take (get_or (supply (first_word words i) left) 0 0 % 16) (drop 1 (supply (first_word words i) left))) ≡ block_persons words i
    persons_are =
        let at = first_word words i in
        let f = drawn (has_dormitory i) (has_prison i) in
        let n = further words at in
        let few = mod_below (words at) 16 (omega arith) in
        let count : get_or (supply at left) 0 0 % 16 ≡ n = ap (λ w. w % 16) (first_is at left (omega arith)) in
        ap (λ m. residents (has_dormitory i) (has_prison i) ++ map f (take m (drop 1 (supply at left)))) count
        ∙ ap (λ xs. residents (has_dormitory i) (has_prison i) ++ map f (take n xs)) (rest_is at left 1 (omega arith))
        ∙ ap (λ xs. residents (has_dormitory i) (has_prison i) ++ map f xs) (take-map-range_with_len words (at + 1) (left - 1) n (omega arith))
        ∙ ap (λ xs. residents (has_dormitory i) (has_prison i) ++ xs) (map_map f (range_with_len (at + 1) n))

    pub left_is : (all : ℕ) → left ≡ all - first_word words i → drop (1 + get_or (supply (first_word words i) left) 0 0 % 16) (supply (first_word words i) left) ≡ supply (first_word words (i + 1)) (all - first_word words (i + 1))
    left_is all is =
        let at = first_word words i in
        let few = mod_below (words at) 16 (omega arith) in
        let count : get_or (supply at left) 0 0 % 16 ≡ further words at = ap (λ w. w % 16) (first_is at left (omega arith)) in
        let next = first_more i in
        ap (λ m. drop (1 + m) (supply at left)) count
        ∙ rest_is at left (1 + further words at) (omega arith)
        ∙ ap (λ p. supply p (left - (1 + further words at))) (let e : at + (1 + further words at) ≡ first_word words (i + 1) = omega (arith, next) in e)
        ∙ ap (supply (first_word words (i + 1))) (let e : left - (1 + further words at) ≡ all - first_word words (i + 1) = omega (arith, next, is) in e)
