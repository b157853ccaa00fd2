-- The demo's county level, and the tables of a dormitory release, computed.
use Rattle.std.proofs.Common.{◌≡◌, ◌==◌, [], ◌∷◌, refl, Some, None, codes, map, cond, pos, neg_ℤ}
use Rattle.tda_model.specs.Schema.{Fraction, Level, Schema, Attribute_values}
use Rattle.tda_model.specs.Cells.{possible_cells}
use Rattle.std.specs.Fmt.{digits}
use Rattle.tda_model.specs.Deviation.{square, deviation}
use Rattle.tda_model.specs.Tables.{Tables}
use Rattle.tda_model.specs.Sizes.{fit_size, place_count}
use Rattle.tda_model.specs.TablesText.{tables_text}
use Rattle.tda_model.specs.Groups.{group_sets, group_count, classes_of}
use Rattle.tda_model.specs.Spine.{Spine, blocks_of, states_of, preorder_from, nation_of, fit_count}

abbrev sixteenth : Fraction
sixteenth = record { num = 1; den = 16 }

abbrev county : Level
county = record { name = codes "county"; queries = record { name = codes "total"; by = []; only = []; share = sixteenth } ∷ record { name = codes "kindage"; by = Attribute_values 0 ∷ Attribute_values 2 ∷ []; only = []; share = sixteenth } ∷ [] }

abbrev pub demo : Schema
demo = record {
  total = record { num = 1; den = 1 };
  attributes = record { name = codes "kind"; values = codes "house" ∷ codes "dorm" ∷ codes "prison" ∷ [] }
      ∷ record { name = codes "sex"; values = codes "f" ∷ codes "m" ∷ [] }
      ∷ record { name = codes "age"; values = codes "minor" ∷ codes "adult" ∷ [] } ∷ [];
  recodes = [];
  zeros = (record { attribute = 0; values = 2 ∷ [] } ∷ record { attribute = 2; values = 0 ∷ [] } ∷ []) ∷ [];
  levels = county ∷ [];
}

possible : possible_cells demo ≡ 0 ∷ 1 ∷ 2 ∷ 3 ∷ 4 ∷ 5 ∷ 6 ∷ 7 ∷ 9 ∷ 11 ∷ []
possible = refl

classes : map (classes_of demo) county.queries ≡ (0 ∷ []) ∷ (0 ∷ 1 ∷ 4 ∷ 5 ∷ 9 ∷ []) ∷ []
classes = refl

sets : group_sets demo county ≡
    (0 ∷ 1 ∷ 2 ∷ 3 ∷ 4 ∷ 5 ∷ 6 ∷ 7 ∷ 9 ∷ 11 ∷ [])
    ∷ (0 ∷ 1 ∷ 2 ∷ 3 ∷ []) ∷ (4 ∷ 5 ∷ 6 ∷ 7 ∷ []) ∷ (9 ∷ 11 ∷ [])
    ∷ (0 ∷ 1 ∷ 2 ∷ 3 ∷ 4 ∷ 5 ∷ 6 ∷ 7 ∷ 9 ∷ 11 ∷ [])
    ∷ (0 ∷ 2 ∷ []) ∷ (1 ∷ 3 ∷ []) ∷ (4 ∷ 6 ∷ []) ∷ (5 ∷ 7 ∷ []) ∷ (9 ∷ 11 ∷ []) ∷ []
sets = refl

abbrev pub spine : Spine
spine = record { depth = 3; units = record { code = codes "US"; level = 0; parent = None } ∷ record { code = codes "S1"; level = 1; parent = Some 0 } ∷ record { code = codes "B1"; level = 2; parent = Some 1 } ∷ record { code = codes "B2"; level = 2; parent = Some 1 } ∷ [] }

blocks : blocks_of spine 0 ≡ 2 ∷ 3 ∷ []
blocks = refl

block : blocks_of spine 3 ≡ 3 ∷ []
block = refl

states : states_of spine 2 ≡ []
states = refl

order : preorder_from spine 3 0 ≡ 0 ∷ 1 ∷ []
order = refl

-- a query over prisons alone
abbrev prisons : Level
prisons = record { name = codes "county"; queries = record { name = codes "prisonsex"; by = Attribute_values 1 ∷ []; only = record { attribute = 0; values = 2 ∷ [] } ∷ []; share = sixteenth } ∷ [] }

scoped : map (classes_of demo) prisons.queries ≡ (9 ∷ 11 ∷ []) ∷ []
scoped = refl

-- equal sets are one group: eight at the demo's county level
groups : group_count demo county ≡ 8
groups = refl

nation : nation_of spine ≡ 0
nation = refl

fits : fit_count spine ≡ 3
fits = refl

-- a release of one cell: its levels, and five persons in two blocks
abbrev whole_share : Fraction
whole_share = record { num = 1; den = 1 }

abbrev block_level : Level
block_level = record { name = codes "block"; queries = record { name = codes "total"; by = []; only = []; share = whole_share } ∷ [] }

abbrev pub one_cell : Schema
one_cell = record {
  total = whole_share;
  attributes = record { name = codes "kind"; values = codes "house" ∷ [] } ∷ [];
  recodes = [];
  zeros = [];
  levels = record { name = codes "nation"; queries = [] } ∷ record { name = codes "state"; queries = [] } ∷ block_level ∷ [];
}

-- its fits: of the nation, of the nation's children, of the state's children
root_fit : fit_size one_cell spine None ≡ record { nodes = 4; arcs = 4 }
root_fit = refl

nation_fit : fit_size one_cell spine (Some 0) ≡ record { nodes = 3; arcs = 3 }
nation_fit = refl

state_fit : fit_size one_cell spine (Some 1) ≡ record { nodes = 4; arcs = 5 }
state_fit = refl

places : place_count one_cell spine ≡ 2
places = refl

-- two and three persons, where three and four were measured
abbrev counts : Tables
counts u j = cond (u == 2) 2 (cond (u == 3) 3 5)

first_block : deviation square one_cell 1 block_level (λ q c. pos 3) (counts 2) ≡ 1
first_block = refl

second_block : deviation square one_cell 1 block_level (λ q c. pos 4) (counts 3) ≡ 1
second_block = refl

-- a block of nobody, where minus four persons were measured
empty_block : deviation square one_cell 1 block_level (λ q c. neg_ℤ (pos 4)) (λ j. 0) ≡ 16
empty_block = refl

text : tables_text one_cell spine counts ≡ codes "unit,cell,count\nUS,0,5\nS1,0,5\nB1,0,2\nB2,0,3\n"
unfolding digits
text = refl

nobody : tables_text one_cell spine (λ u j. 0) ≡ codes "unit,cell,count\n"
nobody = refl
