-- A nation of two levels, whose states are blocks, with a prison in the first: no table with all hundred persons in prison can be had,
-- fifty and fifty can, and of all that can be had it's the least, at 5000.
use Rattle.std.proofs.Common.{◌≡◌, ◌==◌, ℕ, ℤ, suc, zero, ◌+◌, ◌*◌, ◌<◌, ◌≤◌, ◌-ℤ◌, nat_abs, false, cond, pos, List, [], ◌∷◌, codes, sum_by, Some, None, refl, sym, ap, ◌∙◌, subst, arith}
use Rattle.std.proofs.lemmas.List.Elements.{All-from_recursion}
use Rattle.std.proofs.lemmas.Int.{ints}
use Rattle.std.proofs.Math.Nat.{mul-le-mul}
use Rattle.tda_model.specs.Schema.{Schema, Query, Attribute_values}
use Rattle.tda_model.specs.Cells.{is_possible}
use Rattle.tda_model.specs.Commons.{lcm}
use Rattle.tda_model.specs.Deviation.{square}
use Rattle.tda_model.specs.Least.{LeastRoot}
use Rattle.tda_model.specs.Release.{Inputs, CanBe, deviation_at}
use Rattle.tda_model.specs.Spine.{Spine, SpineUnit, nation_of, blocks_of, states_of}
use Rattle.tda_model.specs.Tables.{Table, Tables, Published, kind_sum, persons_in, FitsBlock}

abbrev kinds : Query
kinds = record { name = codes "kind"; by = Attribute_values 0 ∷ []; only = []; share = record { num = 1; den = 1 } }

abbrev schema : Schema
schema = record {
  total = record { num = 1; den = 1 };
  attributes = record { name = codes "kind"; values = codes "house" ∷ codes "prison" ∷ [] } ∷ [];
  recodes = [];
  zeros = [];
  levels = record { name = codes "nation"; queries = kinds ∷ [] } ∷ record { name = codes "state"; queries = [] } ∷ [];
}

abbrev state : List ℕ → SpineUnit
state code = record { code = code; level = 1; parent = Some 0 }

abbrev spine : Spine
spine = record { depth = 2; units = record { code = codes "US"; level = 0; parent = None } ∷ state (codes "S1") ∷ state (codes "S2") ∷ [] }

abbrev known : Published
known = record { facilities = λ b k. cond (b == 1) (cond (k == 1) 1 0) 0; most = λ b k. cond (b == 1) (cond (k == 1) 1073741824 0) 0; total = λ u. 50 }

-- nobody was measured in houses, and a hundred in prison
abbrev inputs : Inputs
inputs = record { schema = schema; spine = spine; known = known; measured = λ u q c. cond (c == 0) (pos 0) (pos 100) }

-- so many in houses and so many in prison
abbrev persons : ℕ → ℕ → Table
persons houses prison j = cond (j == 0) houses (cond (j == 1) prison 0)

-- the states are the nation's blocks, and each its own
blocks : blocks_of spine 0 ≡ 1 ∷ 2 ∷ []
blocks = refl

states : states_of spine 0 ≡ 1 ∷ 2 ∷ []
states = refl

first_block : blocks_of spine 1 ≡ 1 ∷ []
first_block = refl

-- ---- what can be had
all_possible : (j : ℕ) → j < 2 → is_possible schema j ≡ false → ⊥
all_possible zero low never = cc
all_possible (suc zero) low never = cc
all_possible (suc (suc j)) low never = omega arith

-- fifty in the prison of the first state, and fifty in houses of the second
abbrev shown : Tables
shown u = cond (u == 1) (persons 0 50) (persons 50 0)

prisoners : (b : ℕ) (x : Table) → x 1 ≤ known.most b 1 → known.facilities b 1 ≤ x 1 → FitsBlock schema known b x
prisoners b x most least = record {
  impossible = λ j low never. absurd (all_possible j low never);
  enough = λ k some low. at_least k some low;
  not_more = λ k some low. at_most k some low;
}
  where
    at_least : (k : ℕ) → 1 ≤ k → k < 2 → known.facilities b k ≤ kind_sum schema k x
    at_least zero some low = absurd (omega arith)
    at_least (suc zero) some low = omega (arith, least)
    at_least (suc (suc k)) some low = absurd (omega arith)

    at_most : (k : ℕ) → 1 ≤ k → k < 2 → kind_sum schema k x ≤ known.most b k
    at_most zero some low = absurd (omega arith)
    at_most (suc zero) some low = omega (arith, most)
    at_most (suc (suc k)) some low = absurd (omega arith)

fifty_can_be : CanBe inputs 0 (persons 50 50)
fifty_can_be = (
  shown,
  record {
    fits = All-from_recursion (λ b. FitsBlock schema known b (shown b)) (1 ∷ 2 ∷ []) (prisoners 1 (shown 1) (omega arith) (omega arith), (prisoners 2 (shown 2) (omega arith) (omega arith), tt));
    adds = adds;
    totals = All-from_recursion (λ st. sum_by (λ b. persons_in schema (shown b)) (blocks_of spine st) ≡ known.total st) (1 ∷ 2 ∷ []) (refl, (refl, tt));
  },
)
  where
    adds : (j : ℕ) → j < 2 → persons 50 50 j ≡ 0 + shown 1 j + shown 2 j
    adds zero low = refl
    adds (suc zero) low = refl
    adds (suc (suc j)) low = absurd (omega arith)

-- ---- what a table that can be had is: a hundred persons, of whom at least fifty live in houses
record IsHad (x : Table) : Type 0 where
  whole : x 0 + x 1 ≡ 100
  free : x 1 ≤ 50

had : (x : Table) → CanBe inputs 0 x → IsHad x
had x (ts, shows) =
    let houses : x 0 ≡ 0 + ts 1 0 + ts 2 0 = shows.adds 0 (omega arith) in
    let prison : x 1 ≡ 0 + ts 1 1 + ts 2 1 = shows.adds 1 (omega arith) in
    let none : 0 + ts 2 1 ≤ 0 = (shows.fits 1 0 (omega arith)).not_more 1 (omega arith) (omega arith) in
    let first : 0 + (0 + ts 1 0 + ts 1 1) ≡ 50 = shows.totals 0 0 (omega arith) in
    let second : 0 + (0 + ts 2 0 + ts 2 1) ≡ 50 = shows.totals 1 0 (omega arith) in
    record { whole = omega arith; free = omega arith }

no_hundred : CanBe inputs 0 (persons 0 100) → ⊥
no_hundred can = let is = had (persons 0 100) can in let free : 100 ≤ 50 = is.free in omega arith

-- ---- the least
cost_is : (x : Table) → deviation_at square inputs 0 x ≡ square (pos (x 0) -ℤ pos 0) + square (pos (x 1) -ℤ pos 100)
unfolding lcm
cost_is x =
    let houses : 0 + x 0 ≡ x 0 = omega arith in
    let prison : 0 + x 1 ≡ x 1 = omega arith in
    ap (λ n. 0 + 1 * square (pos n -ℤ pos 0) + 1 * square (pos (0 + x 1) -ℤ pos 100) + 0) houses
    ∙ ap (λ n. 0 + 1 * square (pos (x 0) -ℤ pos 0) + 1 * square (pos n -ℤ pos 100) + 0) prison
    ∙ plain (square (pos (x 0) -ℤ pos 0)) (square (pos (x 1) -ℤ pos 100))
  where
    plain : (m n : ℕ) → 0 + 1 * m + 1 * n + 0 ≡ m + n
    plain m n = omega arith

fifty_cost : deviation_at square inputs 0 (persons 50 50) ≡ 5000
fifty_cost = cost_is (persons 50 50)

far : (z : ℤ) → 50 ≤ nat_abs z → 2500 ≤ square z
far z h = omega (arith, mul-le-mul h h)

least_is : (x : Table) → IsHad x → 5000 ≤ deviation_at square inputs 0 x
least_is x is =
    let houses : 50 ≤ nat_abs (pos (x 0) -ℤ pos 0) = omega (arith, ints, is.whole, is.free) in
    let prison : 50 ≤ nat_abs (pos (x 1) -ℤ pos 100) = omega (arith, ints, is.free) in
    omega (arith, cost_is x, far (pos (x 0) -ℤ pos 0) houses, far (pos (x 1) -ℤ pos 100) prison)

fifty_is_least : LeastRoot (CanBe inputs) (deviation_at square inputs) (nation_of spine) (persons 50 50)
fifty_is_least = record {
  can_be = fifty_can_be;
  least = λ x can. subst (λ n. n ≤ deviation_at square inputs 0 x) (sym fifty_cost) (least_is x (had x can));
}

-- sixty and forty can be had, and are not the least
forty_cost : deviation_at square inputs 0 (persons 60 40) ≡ 7200
forty_cost = cost_is (persons 60 40)

not_forty : LeastRoot (CanBe inputs) (deviation_at square inputs) (nation_of spine) (persons 60 40) → ⊥
not_forty is =
    let more : 7200 ≤ 5000 = subst (λ n. n ≤ 5000) forty_cost (subst (λ n. deviation_at square inputs 0 (persons 60 40) ≤ n) fifty_cost (is.least (persons 50 50) fifty_can_be)) in omega arith
