-- How many places a release has, how large its fits are, and the limits.
use Rattle.std.specs.Prelude.{ℕ, ◌+◌, ◌*◌, ◌^◌, Option, Some, None, length, sum_by, slice_get}
use Rattle.tda_model.specs.Schema.{Level, Schema}
use Rattle.tda_model.specs.Cells.{possible_cells}
use Rattle.tda_model.specs.Groups.{kind_count, classes_of, group_count}
use Rattle.tda_model.specs.Spine.{Spine, level_of, units_at, unit_numbers, children_of}

-- of a level by its number, and nothing where there is no such level
abbrev pub at_level : (Level → ℕ) → Schema → ℕ → ℕ
at_level f s level = elim (slice_get s.levels level) [ Some l ↦ f l | None ↦ 0 ]

-- how many groups the units of a level have
abbrev pub groups_at : Schema → ℕ → ℕ
groups_at s = at_level (group_count s) s

-- how many places each unit of a level has: one for each class of each query
abbrev pub places_at : Schema → ℕ → ℕ
places_at s = at_level (λ l. sum_by (λ q. length (classes_of s q)) l.queries) s

-- how many places all units have
abbrev pub place_count : Schema → Spine → ℕ
place_count s sp = sum_by (λ u. places_at s (level_of sp u)) (unit_numbers sp)

pub record FitSize : Type 0 where
  pub nodes : ℕ
  pub arcs : ℕ

-- of the fit of the nation, with so many states, kinds, possible cells and groups:
-- a node for the hub and for each state, kind and group, an arc for each state, state and kind, possible cell and group
abbrev pub root_fit_size : ℕ → ℕ → ℕ → ℕ → FitSize
root_fit_size states kinds possible groups = record {
  nodes = 1 + states + kinds + groups;
  arcs = states + states * kinds + possible + groups;
}

-- of the fit of so many children: a node for the hub, for each possible cell, and for each child and group,
-- an arc for each possible cell, child and possible cell, and child and group
abbrev pub split_size : ℕ → ℕ → ℕ → FitSize
split_size children possible groups = record {
  nodes = 1 + possible + children * groups;
  arcs = possible + children * possible + children * groups;
}

-- the fit of the nation where no parent is named, else that of the parent's children
abbrev pub fit_size : Schema → Spine → Option ℕ → FitSize
fit_size s sp None = root_fit_size (length (units_at sp 1)) (kind_count s) (length (possible_cells s)) (groups_at s 0)
fit_size s sp (Some p) = split_size (length (children_of sp p)) (length (possible_cells s)) (groups_at s (level_of sp p + 1))

-- the most units; units times cells; places; nodes and arcs of one fit
abbrev pub units_limit : ℕ
units_limit = 2 ^ 17

abbrev pub counts_limit : ℕ
counts_limit = 2 ^ 22

abbrev pub places_limit : ℕ
places_limit = 2 ^ 21

abbrev pub nodes_limit : ℕ
nodes_limit = 2 ^ 11

abbrev pub arcs_limit : ℕ
arcs_limit = 2 ^ 16
