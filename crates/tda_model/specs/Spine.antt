-- A spine: units in file order, each with its level and, below the nation, its parent.
use Rattle.std.specs.Prelude.{ℕ, zero, suc, ◌≡◌, ◌<◌, ◌≤◌, ◌+◌, ◌-◌, Bool, false, ◌||◌, List, [], ◌∷◌, length, slice_get, filter, ◌==◌, Option, Some, None}
use Rattle.std.specs.List.{range_with_len, flat_map}

pub record SpineUnit : Type 0 where
  pub code : List ℕ
  pub level : ℕ
  pub parent : Option ℕ

pub record Spine : Type 0 where
  pub depth : ℕ  -- how many levels there are
  pub units : List SpineUnit

abbrev pub unit_numbers : Spine → List ℕ
unit_numbers sp = range_with_len 0 (length sp.units)

abbrev pub level_of : Spine → ℕ → ℕ
level_of sp u = elim (slice_get sp.units u) [ Some x ↦ x.level | None ↦ 0 ]

abbrev pub parent_of : Spine → ℕ → Option ℕ
parent_of sp u = elim (slice_get sp.units u) [ Some x ↦ x.parent | None ↦ None ]

abbrev pub is_at : Spine → ℕ → ℕ → Bool
is_at sp level u = level_of sp u == level

abbrev pub is_child : Spine → ℕ → ℕ → Bool
is_child sp p u = elim (parent_of sp u) [ Some q ↦ p == q | None ↦ false ]

abbrev pub units_at : Spine → ℕ → List ℕ
units_at sp level = filter (is_at sp level) (unit_numbers sp)

abbrev pub children_of : Spine → ℕ → List ℕ
children_of sp p = filter (is_child sp p) (unit_numbers sp)

-- u is v, or lies above it by at most so many steps
abbrev pub is_over : Spine → ℕ → ℕ → ℕ → Bool
is_over sp u v zero = u == v
is_over sp u v (suc steps) =
    (u == v) || elim (parent_of sp v) [ Some p ↦ is_over sp u p steps | None ↦ false ]

-- the units of a level that are u or lie below it
abbrev pub under_at : Spine → ℕ → ℕ → List ℕ
under_at sp level u = filter (λ v. is_over sp u v sp.depth) (units_at sp level)

abbrev pub states_of : Spine → ℕ → List ℕ
states_of sp u = under_at sp 1 u

-- the blocks of a unit
abbrev pub blocks_of : Spine → ℕ → List ℕ
blocks_of sp u = under_at sp (sp.depth - 1) u

abbrev pub IsUnit : Spine → ℕ → Type 0
IsUnit sp u = u < length sp.units

pub record HasParent (sp : Spine) (u p : ℕ) : Type 0 where
  pub here : IsUnit sp p
  pub named : parent_of sp u ≡ Some p
  pub above : level_of sp u ≡ level_of sp p + 1

-- the nation alone has level 0 and no parent, each other unit has a parent of the level just above, and each unit above the last level has a child
pub record IsTree (sp : Spine) (nation : ℕ) : Type 0 where
  pub deep : 2 ≤ sp.depth
  pub root : IsUnit sp nation
  pub root_level : level_of sp nation ≡ 0
  pub root_parent : parent_of sp nation ≡ None
  pub root_alone : (u : ℕ) → IsUnit sp u → level_of sp u ≡ 0 → u ≡ nation
  pub within : (u : ℕ) → IsUnit sp u → level_of sp u < sp.depth
  pub parent : (u : ℕ) → IsUnit sp u → 1 ≤ level_of sp u → (p : ℕ) × HasParent sp u p
  pub child : (u : ℕ) → IsUnit sp u → level_of sp u + 1 < sp.depth → (c : ℕ) × IsUnit sp c × HasParent sp c u

-- the units with children at or below u, a unit before its children, children in file order
abbrev pub preorder_from : Spine → ℕ → ℕ → List ℕ
preorder_from sp zero u = []
preorder_from sp (suc steps) u =
    elim (children_of sp u) [ [] ↦ [] | c ∷ cs ↦ u ∷ flat_map (preorder_from sp steps) (c ∷ cs) ]

-- the unit of the first level
abbrev pub nation_of : Spine → ℕ
nation_of sp = elim (units_at sp 0) [ n ∷ rest ↦ n | [] ↦ 0 ]

-- the units with children in fit order: the nation is fitted first, and then the children of each of these
abbrev pub parents_of : Spine → List ℕ
parents_of sp = preorder_from sp sp.depth (nation_of sp)

-- how many fits there are
abbrev pub fit_count : Spine → ℕ
fit_count sp = 1 + length (parents_of sp)

abbrev pub code_of : Spine → ℕ → List ℕ
code_of sp u = elim (slice_get sp.units u) [ Some x ↦ x.code | None ↦ [] ]
