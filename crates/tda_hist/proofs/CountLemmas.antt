-- Counts of elements by numbers of theirs, over lists in which each number stands once.
use Rattle.std.proofs.Common.{◌≡◌, ℕ, ◌+◌, ◌-◌, ◌*◌, ◌<◌, ◌≤◌, Bool, true, false, cond, ◌&&◌, ◌||◌, ◌==◌, List, [], ◌∷◌, length, refl, sym, ap, ◌∙◌, inl, inr, arith, ne_eqb, eq-eqb, sum_by, count_by}
use Rattle.std.proofs.lemmas.Bool.{cases_eq, cases_lt}
use Rattle.std.proofs.lemmas.List.Sums.{sum_by-cons}
use Rattle.std.proofs.lemmas.Nat.{mul-le}
use Rattle.std.specs.Int.{abs_diff}
use Rattle.tda_model.proofs.Sums.{Each, Ascends, sum_same, sum_le, sum_zero, sum_swap, sum_one, each_any, each_range, each_weaker}
use Rattle.std.specs.List.{range_with_len}
use Rattle.tda_schema.specs.Parts.{holds}
use Rattle.tda_hist.specs.Distance.{squared_gap}

-- 1 where it is so
abbrev pub one_if : Bool → ℕ
one_if b = cond b 1 0

pub sums_same : {X : Type 0} (f g : X → ℕ) (xs : List X) → ((x : X) → f x ≡ g x) → sum_by f xs ≡ sum_by g xs
sums_same f g xs same = sum_same f g xs (each_any (λ x. f x ≡ g x) xs same)

pub sum_scaled : {X : Type 0} (m : ℕ) (f : X → ℕ) (xs : List X) → sum_by (λ x. m * f x) xs ≡ m * sum_by f xs
sum_scaled m f [] = omega arith
sum_scaled m f (x ∷ xs) =
    sum_by-cons (λ y. m * f y) x xs ∙ ap (λ n. m * f x + n) (sum_scaled m f xs) ∙ spread (f x) (sum_by f xs) ∙ ap (λ n. m * n) (sym (sum_by-cons f x xs))
  where
    spread : (a b : ℕ) → m * a + m * b ≡ m * (a + b)
    spread a b = omega arith

pub sum_ones : {X : Type 0} (xs : List X) → sum_by (λ x. 1) xs ≡ length xs
sum_ones [] = refl
sum_ones (x ∷ xs) = omega (arith, sum_by-cons (λ y. 1) x xs, sum_ones xs)

and_last : (t b : Bool) → one_if (b && t) ≡ one_if (t && b)
and_last true true = refl
and_last true false = refl
and_last false true = refl
and_last false false = refl

module _ {X : Type 0} where
  -- what doesn't depend on the element
  pub sum_and : (t : Bool) (b : X → Bool) (xs : List X) → sum_by (λ x. one_if (t && b x)) xs ≡ cond t (sum_by (λ x. one_if (b x)) xs) 0
  sum_and true b xs = refl
  sum_and false b xs = sum_zero xs

  pub sum_and_last : (t : Bool) (b : X → Bool) (xs : List X) → sum_by (λ x. one_if (b x && t)) xs ≡ cond t (sum_by (λ x. one_if (b x)) xs) 0
  sum_and_last t b xs = sums_same (λ x. one_if (b x && t)) (λ x. one_if (t && b x)) xs (λ x. and_last t (b x)) ∙ sum_and t b xs

-- a number stands at most once in a list that ascends
pub turned : (a b : ℕ) → (a == b) ≡ (b == a)
turned a b = elim (cases_eq a b) [
  | inl e ↦ eq-eqb a b e ∙ sym (eq-eqb b a (sym e))
  | inr other ↦ ne_eqb a b other ∙ sym (ne_eqb b a (λ e. other (sym e)))
]

-- a number is at most one of those of a range
pub at_most_one : (y n : ℕ) → sum_by (λ x. one_if (y == x)) (range_with_len 0 n) ≤ 1
at_most_one y n = elim (cases_lt y n) [
  | inl below ↦
      let one = sum_one (λ x. 1) y 0 n (omega arith) (omega arith) in
      let same = sums_same (λ x. one_if (y == x)) (λ x. one_if (x == y)) (range_with_len 0 n) (λ x. ap one_if (turned y x)) in
      omega (arith, one, same)
  | inr past ↦ let none = no_such 0 n (omega arith) in omega (arith, none)
]
  where
    no_such : (a m : ℕ) → a + m ≤ y → sum_by (λ x. one_if (y == x)) (range_with_len a m) ≡ 0
    no_such a m past = sum_same (λ x. one_if (y == x)) (λ x. 0) (range_with_len a m) (each_range _ a m (λ x low high. ap one_if (ne_eqb y x (λ e. omega arith)))) ∙ sum_zero (range_with_len a m)

none_after : (y : ℕ) (xs : List ℕ) → Each (λ x. y < x) xs → sum_by (λ x. one_if (y == x)) xs ≡ 0
none_after y [] h = refl
none_after y (x ∷ xs) (less, h) =
    sum_by-cons (λ z. one_if (y == z)) x xs ∙ ap (λ b. one_if b + sum_by (λ z. one_if (y == z)) xs) (ne_eqb y x (λ e. omega arith)) ∙ omega (arith, none_after y xs h)

pub once_among : (xs : List ℕ) (y : ℕ) → Ascends xs → sum_by (λ x. one_if (y == x)) xs ≡ one_if (holds xs y)
once_among [] y h = refl
once_among (x ∷ xs) y (above, h) =
    let rest = sum_by (λ z. one_if (y == z)) xs in
    sum_by-cons (λ z. one_if (y == z)) x xs ∙ elim (cases_eq y x) [
      | inl e ↦
          let after : Each (λ z. y < z) xs = each_weaker (λ z. x < z) (λ z. y < z) xs (λ z l. omega arith) above in
          ap (λ b. one_if b + rest) (eq-eqb y x e) ∙ omega (arith, none_after y xs after) ∙ sym (ap (λ b. one_if (b || holds xs y)) (eq-eqb x y (sym e)))
      | inr other ↦
          ap (λ b. one_if b + rest) (ne_eqb y x other) ∙ omega arith ∙ once_among xs y h ∙ sym (ap (λ b. one_if (b || holds xs y)) (ne_eqb x y (λ e. other (sym e))))
    ]

cond_one : (t b : Bool) → cond t (one_if b) 0 ≡ one_if (t && b)
cond_one true b = refl
cond_one false b = refl

module _ {X : Type 0} (f : X → ℕ) (t : X → Bool) (xs : List ℕ) (once : Ascends xs) (rs : List X) where
  -- the elements whose number is one of some, by that number
  pub count_by_number : count_by (λ r. holds xs (f r) && t r) rs ≡ sum_by (λ x. count_by (λ r. (f r == x) && t r) rs) xs
  count_by_number =
      sums_same (λ r. one_if (holds xs (f r) && t r)) (λ r. sum_by (λ x. one_if ((f r == x) && t r)) xs) rs (λ r.
      and_last (t r) (holds xs (f r)) ∙ sym (cond_one (t r) (holds xs (f r))) ∙ ap (λ n. cond (t r) n 0) (sym (once_among xs (f r) once)) ∙ sym (sum_and_last (t r) (λ x. f r == x) xs))
      ∙ sum_swap (λ r x. one_if ((f r == x) && t r)) rs xs

  pub count_by_number_last : count_by (λ r. t r && holds xs (f r)) rs ≡ sum_by (λ x. count_by (λ r. t r && (f r == x)) rs) xs
  count_by_number_last =
      sums_same (λ r. one_if (t r && holds xs (f r))) (λ r. sum_by (λ x. one_if (t r && (f r == x))) xs) rs (λ r.
      sym (cond_one (t r) (holds xs (f r))) ∙ ap (λ n. cond (t r) n 0) (sym (once_among xs (f r) once)) ∙ sym (sum_and (t r) (λ x. f r == x) xs))
      ∙ sum_swap (λ r x. one_if (t r && (f r == x))) rs xs

-- at most one of the one kind and one of the other make at most one pair
pub one_pair : {U C : Type 0} (b : U → Bool) (d : C → Bool) (us : List U) (cs : List C) → sum_by (λ u. one_if (b u)) us ≤ 1 → sum_by (λ c. one_if (d c)) cs ≤ 1
    → sum_by (λ u. sum_by (λ c. one_if (b u && d c)) cs) us ≤ 1
one_pair {U} b d us cs few_us few_cs =
    let row : U → ℕ = λ u. sum_by (λ c. one_if (b u && d c)) cs in
    let le = sum_le row (λ u. one_if (b u)) us (each_any (λ u. row u ≤ one_if (b u)) us (λ u. each (b u))) in
    omega (arith, le, few_us)
  where
    each : (t : Bool) → sum_by (λ c. one_if (t && d c)) cs ≤ one_if t
    each true = few_cs
    each false = omega (arith, sum_zero cs)

-- where each element is in at most one pair, the counts of all pairs together are at most the number of elements
pub count_pairs : {X U C : Type 0} (b : U → X → Bool) (d : C → X → Bool) (us : List U) (cs : List C) (rs : List X)
    → Each (λ r. sum_by (λ u. sum_by (λ c. one_if (b u r && d c r)) cs) us ≤ 1) rs
    → sum_by (λ u. sum_by (λ c. count_by (λ r. b u r && d c r) rs) cs) us ≤ length rs
count_pairs {X} {U} {C} b d us cs rs few =
    let pairs : X → ℕ = λ r. sum_by (λ u. sum_by (λ c. one_if (b u r && d c r)) cs) us in
    let turned_about : sum_by (λ u. sum_by (λ c. count_by (λ r. b u r && d c r) rs) cs) us ≡ sum_by pairs rs =
    sums_same (λ u. sum_by (λ c. count_by (λ r. b u r && d c r) rs) cs) (λ u. sum_by (λ r. sum_by (λ c. one_if (b u r && d c r)) cs) rs) us
    (λ u. sum_swap (λ c r. one_if (b u r && d c r)) cs rs)
    ∙ sum_swap (λ u r. sum_by (λ c. one_if (b u r && d c r)) cs) us rs in
    let le = sum_le pairs (λ r. 1) rs few in
    omega (arith, turned_about, le, sum_ones rs)

-- counts that differ by two elements alone are at most as far apart as these two count
pub gap_of_two : (m n : ℕ) (p q : Bool) → m + one_if q ≡ n + one_if p → squared_gap m n ≤ one_if p + one_if q
gap_of_two m n true true e = let same : m ≡ n = omega arith in rw same (none n)
  where
    none : (k : ℕ) → squared_gap k k ≤ 1 + 1
    none k = let no : (k - k) + (k - k) ≡ 0 = omega arith in rw no (omega arith)
gap_of_two m n true false e = let same : m ≡ n + 1 = omega arith in rw same (by n)
  where
    by : (k : ℕ) → squared_gap (k + 1) k ≤ 1 + 0
    by k = let one : (k + 1 - k) + (k - (k + 1)) ≡ 1 = omega arith in rw one (omega arith)
gap_of_two m n false true e = let same : n ≡ m + 1 = omega arith in rw same (by m)
  where
    by : (k : ℕ) → squared_gap k (k + 1) ≤ 0 + 1
    by k = let one : (k - (k + 1)) + (k + 1 - k) ≡ 1 = omega arith in rw one (omega arith)
gap_of_two m n false false e = let same : m ≡ n = omega arith in rw same (none n)
  where
    none : (k : ℕ) → squared_gap k k ≤ 0 + 0
    none k = let no : (k - k) + (k - k) ≡ 0 = omega arith in rw no (omega arith)

-- a squared difference of numbers that are at most l
pub gap_limited : (l m n : ℕ) → m ≤ l → n ≤ l → squared_gap m n ≤ l * (m + n)
gap_limited l m n low high = mul-le (abs_diff m n) (abs_diff m n) l (m + n) (omega arith) (omega arith)
