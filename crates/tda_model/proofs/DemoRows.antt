-- The demo's schema: its numbers of groups and places, its fits, its common denominator, and a recode.
use Rattle.std.proofs.Common.{◌≡◌, ◌∷◌, [], List, refl, Some, None, codes, map, ℕ}
use Rattle.tda_model.specs.Schema.{Fraction, Query, Schema, Attribute_values, Recode_labels, Entry}
use Rattle.tda_model.specs.Commons.{lcm, common_of, queries_of}
use Rattle.tda_model.specs.Deviation.{weight_of}
use Rattle.tda_model.specs.Groups.{classes_of, class_cells}
use Rattle.tda_model.specs.Sizes.{fit_size, places_at, groups_at}
use Rattle.tda_model.specs.Spine.{Spine, SpineUnit, parents_of}

abbrev part : ℕ → Fraction
part n = record { num = 1; den = n }

abbrev query : List ℕ → List Entry → ℕ → Query
query name by n = record { name = name; by = by; only = []; share = part n }

abbrev kind : ℕ → Query
kind n = query (codes "kind") (Attribute_values 0 ∷ []) n

abbrev total : ℕ → Query
total n = query (codes "total") [] n

abbrev detail : ℕ → Query
detail n = query (codes "detail") (Attribute_values 0 ∷ Attribute_values 1 ∷ Attribute_values 2 ∷ []) n

abbrev kind_age : ℕ → Query
kind_age n = query (codes "kindage") (Attribute_values 0 ∷ Attribute_values 2 ∷ []) n

-- the kinds' recode has one label for dormitories and prisons
abbrev demo : Schema
demo = record {
  total = part 1;
  attributes = record { name = codes "kind"; values = codes "house" ∷ codes "dorm" ∷ codes "prison" ∷ [] }
      ∷ record { name = codes "sex"; values = codes "f" ∷ codes "m" ∷ [] }
      ∷ record { name = codes "age"; values = codes "minor" ∷ codes "adult" ∷ [] } ∷ [];
  recodes = record { name = codes "home"; of = 0; labels = codes "private" ∷ codes "shared" ∷ codes "shared" ∷ [] } ∷ [];
  zeros = (record { attribute = 0; values = 2 ∷ [] } ∷ record { attribute = 2; values = 0 ∷ [] } ∷ []) ∷ [];
  levels = record { name = codes "nation"; queries = kind 16 ∷ detail 16 ∷ [] }
      ∷ record { name = codes "state"; queries = kind 16 ∷ detail 16 ∷ [] }
      ∷ record { name = codes "county"; queries = total 16 ∷ kind_age 16 ∷ [] }
      ∷ record { name = codes "tract"; queries = total 8 ∷ detail 8 ∷ [] }
      ∷ record { name = codes "block"; queries = total 8 ∷ detail 4 ∷ [] } ∷ [];
}

places : map (places_at demo) (0 ∷ 1 ∷ 2 ∷ 3 ∷ 4 ∷ []) ≡ 13 ∷ 13 ∷ 6 ∷ 11 ∷ 11 ∷ []
places = refl

groups : map (groups_at demo) (0 ∷ 1 ∷ 2 ∷ 3 ∷ 4 ∷ []) ≡ 14 ∷ 14 ∷ 8 ∷ 14 ∷ 14 ∷ []
groups = refl

common : common_of demo ≡ 16
unfolding lcm
common = refl

weights : map (weight_of 16) (queries_of demo) ≡ 1 ∷ 1 ∷ 1 ∷ 1 ∷ 1 ∷ 1 ∷ 2 ∷ 2 ∷ 2 ∷ 4 ∷ []
weights = refl

-- two states, and the counties of the first; the second state comes before a county in the file
abbrev unit : List ℕ → ℕ → ℕ → SpineUnit
unit code level parent = record { code = code; level = level; parent = Some parent }

abbrev spine : Spine
spine = record {
  depth = 5;
  units = record { code = codes "US"; level = 0; parent = None } ∷ unit (codes "S1") 1 0 ∷ unit (codes "S1C1") 2 1 ∷ unit (codes "S2") 1 0
      ∷ unit (codes "S1C2") 2 1 ∷ unit (codes "S1C3") 2 1 ∷ unit (codes "S1C1T1") 3 2 ∷ [];
}

root_fit : fit_size demo spine None ≡ record { nodes = 20; arcs = 32 }
root_fit = refl

nation_fit : fit_size demo spine (Some 0) ≡ record { nodes = 39; arcs = 58 }
nation_fit = refl

state_fit : fit_size demo spine (Some 1) ≡ record { nodes = 35; arcs = 64 }
state_fit = refl

-- preorder, children in file order
fit_order : parents_of spine ≡ 0 ∷ 1 ∷ 2 ∷ []
fit_order = refl

-- one class for each label: houses, and dormitories with prisons
abbrev homes : Query
homes = query (codes "home") (Recode_labels 0 ∷ []) 16

recoded : map (class_cells demo homes) (classes_of demo homes) ≡ (0 ∷ 1 ∷ 2 ∷ 3 ∷ []) ∷ (4 ∷ 5 ∷ 6 ∷ 7 ∷ 9 ∷ 11 ∷ []) ∷ []
recoded = refl
