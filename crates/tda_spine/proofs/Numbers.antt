-- What is counted over the numbers of a list's elements.
use Rattle.std.proofs.Common.{◌≡◌, ℕ, ◌+◌, ◌<◌, ◌≤◌, Bool, true, false, cond, List, length, get_or, take, filter, count_by, sym, ap, ◌∙◌, arith}
use Rattle.std.specs.List.{range_with_len}
use Rattle.std.proofs.lemmas.List.{take_all}
use Rattle.std.proofs.lemmas.List.Sums.{length-filter, count_by-le-length, sum_by_more}
use Rattle.std.proofs.lemmas.List.FromFn.{length-range_with_len, get_or-range_with_len}

pub count_more : {X : Type 0} (p : X → Bool) (xs : List X) (i : ℕ) (d : X) → i < length xs
    → count_by p (take (i + 1) xs) ≡ count_by p (take i xs) + cond (p (get_or xs i d)) 1 0
count_more p xs i d below = sum_by_more (λ y. cond (p y) 1 0) xs i d below

-- a count over numbers
pub count_next : (p : ℕ → Bool) (n k : ℕ) → k < n
    → count_by p (take (k + 1) (range_with_len 0 n)) ≡ count_by p (take k (range_with_len 0 n)) + cond (p k) 1 0
count_next p n k below =
    count_more p (range_with_len 0 n) k 0 (omega (arith, length-range_with_len 0 n))
    ∙ ap (λ u. count_by p (take k (range_with_len 0 n)) + cond (p u) 1 0) (get_or-range_with_len 0 n k 0 below ∙ omega arith)

pub count_next-yes : (p : ℕ → Bool) (n k : ℕ) → k < n → p k ≡ true
    → count_by p (take (k + 1) (range_with_len 0 n)) ≡ count_by p (take k (range_with_len 0 n)) + 1
count_next-yes p n k below passes = count_next p n k below ∙ ap (λ b. count_by p (take k (range_with_len 0 n)) + cond b 1 0) passes

pub count_next-no : (p : ℕ → Bool) (n k : ℕ) → k < n → p k ≡ false
    → count_by p (take (k + 1) (range_with_len 0 n)) ≡ count_by p (take k (range_with_len 0 n)) + 0
count_next-no p n k below fails = count_next p n k below ∙ ap (λ b. count_by p (take k (range_with_len 0 n)) + cond b 1 0) fails

pub count_all : (p : ℕ → Bool) (n k : ℕ) → n ≤ k → count_by p (take k (range_with_len 0 n)) ≡ length (filter p (range_with_len 0 n))
count_all p n k all =
    ap (count_by p) (take_all k (range_with_len 0 n) (omega (arith, length-range_with_len 0 n))) ∙ sym (length-filter p (range_with_len 0 n))

-- the numbers that pass are at most all
pub length-kept-le : (p : ℕ → Bool) (n : ℕ) → length (filter p (range_with_len 0 n)) ≤ n
length-kept-le p n =
    omega (arith, length-filter p (range_with_len 0 n), count_by-le-length p (range_with_len 0 n), length-range_with_len 0 n)
