-- The last units of a regular spine, by their numbers in file order.
use Rattle.std.specs.Prelude.{ℕ, ◌*◌, ◌/◌, ◌%◌, List, [], ◌∷◌}
use Rattle.tda_demo.specs.Preorder.{Branch, child_code}

-- how many stand below a unit
abbrev pub leaf_count : List Branch → ℕ
leaf_count [] = 1
leaf_count (b ∷ bs) = b.count * leaf_count bs

-- the code of the one of a number among these, where the codes below the unit begin with the stem
abbrev pub leaf_code : List Branch → List ℕ → ℕ → List ℕ
leaf_code [] stem i = stem
leaf_code (b ∷ bs) stem i = leaf_code bs (child_code stem b (i / leaf_count bs)) (i % leaf_count bs)
