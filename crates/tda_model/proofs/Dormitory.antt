-- The release of a dormitory, whose count stays at its facilities, and deviations with weights and with equal classes.
use Rattle.std.proofs.Common.{◌≡◌, ◌==◌, ◌∷◌, [], List, refl, Some, None, codes, cond, pos, neg_ℤ, ℕ, ℤ, sum_by}
use Rattle.tda_model.specs.Schema.{Query, Level, Schema, Attribute_values, Entry}
use Rattle.tda_model.specs.Commons.{lcm, common_of}
use Rattle.tda_model.specs.Deviation.{square, deviation}
use Rattle.tda_model.specs.Bounds.{low, high, needed}
use Rattle.tda_model.specs.Release.{Inputs, deviation_at}
use Rattle.tda_model.specs.Spine.{Spine, SpineUnit, unit_numbers}
use Rattle.tda_model.specs.Tables.{Tables, Published}

abbrev query : List ℕ → List Entry → ℕ → Query
query name by n = record { name = name; by = by; only = []; share = record { num = 1; den = n } }

abbrev kinds : Query
kinds = query (codes "kind") (Attribute_values 0 ∷ []) 2

abbrev schema : Schema
schema = record {
  total = record { num = 1; den = 1 };
  attributes = record { name = codes "kind"; values = codes "house" ∷ codes "dorm" ∷ [] } ∷ [];
  recodes = [];
  zeros = [];
  levels = record { name = codes "nation"; queries = kinds ∷ [] } ∷ record { name = codes "state"; queries = [] } ∷ record { name = codes "block"; queries = kinds ∷ [] } ∷ [];
}

abbrev unit : List ℕ → ℕ → ℕ → SpineUnit
unit code level parent = record { code = code; level = level; parent = Some parent }

abbrev spine : Spine
spine = record { depth = 3; units = record { code = codes "US"; level = 0; parent = None } ∷ unit (codes "S1") 1 0 ∷ unit (codes "B1") 2 1 ∷ unit (codes "B2") 2 1 ∷ [] }

-- two dormitories in the first block, and five persons
abbrev known : Published
known = record {
  facilities = λ b k. cond (b == 2) (cond (k == 1) 2 0) 0;
  most = λ b k. cond (b == 2) (cond (k == 1) 1073741824 0) 0;
  total = λ u. cond (u == 1) 5 0;
}

-- by unit and class: three and two, three and minus ten, two and none
abbrev measured : ℕ → ℕ → ℕ → ℤ
measured u q c = cond (u == 0) (cond (c == 0) (pos 3) (pos 2)) (cond (u == 2) (cond (c == 0) (pos 3) (neg_ℤ (pos 10))) (cond (c == 0) (pos 2) (pos 0)))

abbrev inputs : Inputs
inputs = record { schema = schema; spine = spine; known = known; measured = measured }

-- three in houses and two in dormitories, of whom two and two are in the first block, and one lives in a house of the second
abbrev counts : Tables
counts u j = cond (u == 2) 2 (cond (u == 3) (cond (j == 0) 1 0) (cond (j == 0) 3 2))

common : common_of schema ≡ 2
unfolding lcm
common = refl

nation : deviation_at square inputs 0 (counts 0) ≡ 0
unfolding lcm
nation = refl

state : deviation_at square inputs 1 (counts 1) ≡ 0
state = refl

first_block : deviation_at square inputs 2 (counts 2) ≡ 145
unfolding lcm
first_block = refl

second_block : deviation_at square inputs 3 (counts 3) ≡ 1
unfolding lcm
second_block = refl

all_units : sum_by (λ u. deviation_at square inputs u (counts u)) (unit_numbers spine) ≡ 146
unfolding lcm
all_units = refl

-- no less than the facilities, and nobody in dormitories where none stands
first_low : low spine known 2 1 ≡ 2
first_low = refl

second_high : high spine known 3 1 ≡ 0
second_high = refl

state_needs : needed schema spine known 1 ≡ 2
state_needs = refl

-- two queries of one class each, with measurements of their own: shares of a quarter and an eighth weigh 2 and 1
abbrev both : Level
both = record { name = codes "block"; queries = query (codes "one") [] 4 ∷ query (codes "two") [] 8 ∷ [] }

abbrev weighed : Schema
weighed = record { total = record { num = 1; den = 1 }; attributes = schema.attributes; recodes = []; zeros = []; levels = both ∷ [] }

eighths : common_of weighed ≡ 8
unfolding lcm
eighths = refl

-- five persons, where three and nine were measured: 2 · 4 + 16
weighed_twice : deviation square weighed 8 both (λ q c. cond (q == 0) (pos 3) (pos 9)) (λ j. cond (j == 0) 4 1) ≡ 24
weighed_twice = refl

third : lcm 4 6 ≡ 12
unfolding lcm
third = refl
