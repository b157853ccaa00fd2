-- What a spine keeps beside its units.
use Rattle.std.specs.Prelude.{ℕ, ◌≡◌, List, map}
use Rattle.tda_model.specs.Spine.{SpineUnit, parents_of}
use Rattle.tda_spine.specs.Sound.{spine_of, IsSound, children_lists, level_lists, block_lists}
use Rattle.tda_spine.specs.declared.tree.Tree.{Tree}

-- the codes in order, and the tree's lists
pub record Keeps (depth : ℕ) (units : List SpineUnit) (codes : List (List ℕ)) (tree : Tree) : Type 0 where
  pub sound : IsSound (spine_of depth units)
  pub codes_are : codes ≡ map (λ x. x.code) units
  pub children_are : tree.children ≡ children_lists (spine_of depth units)
  pub levels_are : tree.levels ≡ level_lists (spine_of depth units)
  pub blocks_are : tree.blocks ≡ block_lists (spine_of depth units)
  pub parents_are : tree.parents.items ≡ parents_of (spine_of depth units)
