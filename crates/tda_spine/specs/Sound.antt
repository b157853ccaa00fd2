-- What an accepted spine keeps, and its lists.
use Rattle.std.specs.Prelude.{ℕ, true, ◌≡◌, ◌+◌, ◌<◌, ◌≤◌, ◌^◌, length, List, map, [], ◌∷◌, ◌++◌, slice_index_or, take, Contains, Option, Some, position, if◌then◌else◌}
use Rattle.std.specs.List.{range_with_len}
use Rattle.std.specs.Str.{bytes_eq}
use Rattle.tda_io.specs.Texts.{name_test}
use Rattle.tda_model.specs.Spine.{Spine, SpineUnit, IsUnit, IsTree, level_of, parent_of, nation_of, code_of, unit_numbers, is_over, children_of, units_at, blocks_of}

-- the spine of these units
abbrev pub spine_of : ℕ → List SpineUnit → Spine
spine_of depth units = record { depth = depth; units = units }

-- a tree of few units with codes of 1 to 16 bytes, no two of one code
pub record IsSound (sp : Spine) : Type 0 where
  pub tree : IsTree sp (nation_of sp)
  pub distinct : (u v : ℕ) → u < v → IsUnit sp v → code_of sp u ≡ code_of sp v → ⊥
  pub coded : (u : ℕ) → IsUnit sp u → name_test 16 (code_of sp u) ≡ true
  pub few : length sp.units ≤ 2 ^ 17
  pub shallow : sp.depth ≤ 7

-- a unit above the last level
pub record IsInner (sp : Spine) (u : ℕ) : Type 0 where
  pub here : IsUnit sp u
  pub above : level_of sp u + 1 < sp.depth

-- each unit's parent stands before it
abbrev pub FollowParents : Spine → List ℕ → Type 0
FollowParents sp us = (k p : ℕ) → k < length us → parent_of sp (slice_index_or us k 0) ≡ Some p → Contains (take k us) p

-- the first unit of a code
abbrev pub unit_named : Spine → List ℕ → Option ℕ
unit_named sp code = position (λ x. bytes_eq code x.code) sp.units

-- the children of each unit
abbrev pub children_lists : Spine → List (List ℕ)
children_lists sp = map (children_of sp) (unit_numbers sp)

-- the units of each level
abbrev pub level_lists : Spine → List (List ℕ)
level_lists sp = map (units_at sp) (range_with_len 0 sp.depth)

-- the blocks of each unit
abbrev pub block_lists : Spine → List (List ℕ)
block_lists sp = map (blocks_of sp) (unit_numbers sp)

-- a block was appended to the list of each unit over it, and no other list changed
abbrev pub IsClimbed : List SpineUnit → ℕ → List (List ℕ) → List (List ℕ) → Type 0
IsClimbed units block old new =
    (depth : ℕ) → IsTree (spine_of depth units) (nation_of (spine_of depth units))
    → (length new ≡ length old) × ((u : ℕ) → u < length units → slice_index_or new u [] ≡ slice_index_or old u [] ++ (if is_over (spine_of depth units) u block depth then block ∷ [] else []))
