-- Five persons in two blocks of which three and four were measured: two and three are a least split, five and none isn't.
use Rattle.std.proofs.Common.{◌≡◌, ℕ, zero, suc, ◌+◌, ◌*◌, ◌<◌, ◌≤◌, ◌==◌, false, cond, pos, ◌-ℤ◌, [], ◌∷◌, refl, sym, ap, ◌∙◌, subst, inl, inr, arith}
use Rattle.std.proofs.lemmas.List.Elements.{All-from_recursion}
use Rattle.std.proofs.lemmas.List.Sums.{sum_by-cons}
use Rattle.tda_model.specs.Commons.{lcm}
use Rattle.tda_model.specs.Deviation.{square}
use Rattle.tda_model.specs.First.{IsNotLater}
use Rattle.tda_model.specs.Least.{LeastSplit, IsFamily, family_deviation}
use Rattle.tda_model.specs.Release.{Inputs, CanBe, deviation_at}
use Rattle.tda_model.specs.Spine.{children_of}
use Rattle.tda_model.specs.Cells.{is_possible}
use Rattle.tda_model.specs.Tables.{Table, Tables, Published, FitsBlock}
use Rattle.tda_model.proofs.Rows.{one_cell, spine}

abbrev known : Published
known = record { facilities = λ b k. 0; most = λ b k. 0; total = λ u. 5 }

abbrev inputs : Inputs
inputs = record { schema = one_cell; spine = spine; known = known; measured = λ u q c. cond (u == 2) (pos 3) (pos 4) }

-- so many persons in the first block, and so many in the second
abbrev family : ℕ → ℕ → Tables
family a b u j = cond (u == 2) a b

abbrev state : Table
state j = 5

plain : (n : ℕ) → 0 + 1 * n + 0 ≡ n
plain n = omega arith

first_cost : (x : Table) → deviation_at square inputs 2 x ≡ square (pos (x 0) -ℤ pos 3)
unfolding lcm
first_cost x = let e : 0 + x 0 ≡ x 0 = omega arith in ap (λ n. 0 + 1 * square (pos n -ℤ pos 3) + 0) e ∙ plain (square (pos (x 0) -ℤ pos 3))

second_cost : (x : Table) → deviation_at square inputs 3 x ≡ square (pos (x 0) -ℤ pos 4)
unfolding lcm
second_cost x = let e : 0 + x 0 ≡ x 0 = omega arith in ap (λ n. 0 + 1 * square (pos n -ℤ pos 4) + 0) e ∙ plain (square (pos (x 0) -ℤ pos 4))

abbrev cost : ℕ → ℕ → ℕ
cost a b = square (pos a -ℤ pos 3) + square (pos b -ℤ pos 4)

abbrev children_cost : Tables → ℕ
children_cost x = family_deviation (deviation_at square inputs) (children_of spine 1) x

abbrev dev : ℕ → Table → ℕ
dev = deviation_at square inputs

cost_is : (x : Tables) → children_cost x ≡ cost (x 2 0) (x 3 0)
cost_is x =
    sum_by-cons (λ c. dev c (x c)) 2 (3 ∷ []) ∙ ap (λ n. dev 2 (x 2) + n) (sum_by-cons (λ c. dev c (x c)) 3 []) ∙ drop_zero (dev 2 (x 2)) (dev 3 (x 3))
    ∙ ap (λ n. n + dev 3 (x 3)) (first_cost (x 2)) ∙ ap (λ n. square (pos (x 2 0) -ℤ pos 3) + n) (second_cost (x 3))
  where
    drop_zero : (m n : ℕ) → m + (n + 0) ≡ m + n
    drop_zero m n = omega arith

-- of all pairs of numbers that add up to five none costs less than two
least_cost : (a b : ℕ) → a + b ≡ 5 → 2 ≤ cost a b
least_cost zero b e = let is : 5 ≡ b = omega arith in subst (λ n. 2 ≤ cost 0 n) is (omega arith)
least_cost (suc zero) b e = let is : 4 ≡ b = omega arith in subst (λ n. 2 ≤ cost 1 n) is (omega arith)
least_cost (suc (suc zero)) b e = let is : 3 ≡ b = omega arith in subst (λ n. 2 ≤ cost 2 n) is (omega arith)
least_cost (suc (suc (suc zero))) b e = let is : 2 ≡ b = omega arith in subst (λ n. 2 ≤ cost 3 n) is (omega arith)
least_cost (suc (suc (suc (suc zero)))) b e = let is : 1 ≡ b = omega arith in subst (λ n. 2 ≤ cost 4 n) is (omega arith)
least_cost (suc (suc (suc (suc (suc zero))))) b e = let is : 0 ≡ b = omega arith in subst (λ n. 2 ≤ cost 5 n) is (omega arith)
least_cost (suc (suc (suc (suc (suc (suc a)))))) b e = absurd (omega arith)

-- each block can have any number of persons in houses
fits : (b : ℕ) (x : Table) → FitsBlock one_cell known b x
fits b x = record {
  impossible = λ j low never. absurd (possible j low never);
  enough = λ k some low. absurd (omega arith);
  not_more = λ k some low. absurd (omega arith);
}
  where
    possible : (j : ℕ) → j < 1 → is_possible one_cell j ≡ false → ⊥
    possible zero low not_possible = cc
    possible (suc j) low not_possible = omega arith

first_can_be : (a b : ℕ) → CanBe inputs 2 (family a b 2)
first_can_be a b = (
  family a b,
  record {
    fits = All-from_recursion (λ c. FitsBlock one_cell known c (family a b c)) (2 ∷ []) (fits 2 (family a b 2), tt);
    adds = λ j low. omega arith;
    totals = All-from_recursion _ [] tt;
  },
)

second_can_be : (a b : ℕ) → CanBe inputs 3 (family a b 3)
second_can_be a b = (
  family a b,
  record {
    fits = All-from_recursion (λ c. FitsBlock one_cell known c (family a b c)) (3 ∷ []) (fits 3 (family a b 3), tt);
    adds = λ j low. omega arith;
    totals = All-from_recursion _ [] tt;
  },
)

is_family : (a b : ℕ) → a + b ≡ 5 → IsFamily (CanBe inputs) one_cell (children_of spine 1) state (family a b)
is_family a b e = record {
  can_be = All-from_recursion (λ c. CanBe inputs c (family a b c)) (2 ∷ 3 ∷ []) (first_can_be a b, (second_can_be a b, tt));
  adds = λ j low. omega arith;
}

two_and_three : LeastSplit (CanBe inputs) (deviation_at square inputs) one_cell (children_of spine 1) state (family 2 3)
two_and_three = record {
  is_family = is_family 2 3 refl;
  least = λ other is.
      let whole : 5 ≡ 0 + other 2 0 + other 3 0 = is.adds 0 (omega arith) in
      let least = least_cost (other 2 0) (other 3 0) (omega arith) in
      subst (λ n. n ≤ children_cost other) (sym (cost_is (family 2 3))) (subst (λ n. 2 ≤ n) (sym (cost_is other)) least);
}

five_and_none : LeastSplit (CanBe inputs) (deviation_at square inputs) one_cell (children_of spine 1) state (family 5 0) → ⊥
five_and_none is =
    let least : children_cost (family 5 0) ≤ children_cost (family 2 3) = is.least (family 2 3) (is_family 2 3 refl) in
    let known : 20 ≤ 2 = subst (λ n. n ≤ 2) (cost_is (family 5 0)) (subst (λ n. children_cost (family 5 0) ≤ n) (cost_is (family 2 3)) least) in omega arith

-- two and three come before three and two
earlier : IsNotLater (2 ∷ 3 ∷ []) (3 ∷ 2 ∷ [])
earlier = inl (omega arith)

later : IsNotLater (3 ∷ 2 ∷ []) (2 ∷ 3 ∷ []) → ⊥
later h = elim h [ inl less ↦ omega arith | inr same ↦ let e = same.0 in omega arith ]

itself : IsNotLater (3 ∷ 2 ∷ []) (3 ∷ 2 ∷ [])
itself = inr (refl, inr (refl, tt))
