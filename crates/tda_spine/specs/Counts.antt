-- Numbers of children.
use Rattle.std.specs.Prelude.{◌==◌, ℕ, Bool, false, List, length, map, Option, Some, None}
use Rattle.tda_model.specs.Spine.{Spine, children_of, unit_numbers}

-- the unit, kind or value that is named has this number
abbrev pub is_named : ℕ → Option ℕ → Bool
is_named p named = elim named [ Some q ↦ p == q | None ↦ false ]

-- how many children each unit has
abbrev pub child_counts : Spine → List ℕ
child_counts sp = map (λ u. length (children_of sp u)) (unit_numbers sp)
