-- A climb from a block to the unit over it.
use Rattle.std.proofs.Common.{◌≡◌, ℕ, ◌+◌, ◌<◌, true, Some, None, refl, arith}
use Rattle.tda_model.specs.Spine.{Spine, level_of, parent_of, is_over, nation_of, IsUnit, IsTree}
use Rattle.tda_model.proofs.Tree.{over_itself, over_up}
use Rattle.tda_spine.proofs.Lookups.{parent_tells}

-- a unit that is reached from the block, a step up for each number from the level on
pub record IsAbove (sp : Spine) (block level unit counter : ℕ) : Type 0 where
  pub here : IsUnit sp unit
  pub level_is : level_of sp unit + counter ≡ level_of sp block + level
  pub over : is_over sp unit block sp.depth ≡ true

module _ (sp : Spine) (t : IsTree sp (nation_of sp)) (block level : ℕ) (in_block : IsUnit sp block) where
  pub above_start : IsAbove sp block level block level
  above_start = record { here = in_block; level_is = refl; over = over_itself sp (nation_of sp) t block in_block }

  module _ (unit counter : ℕ) (h : IsAbove sp block level unit counter) where
    pub above_more : (parent : ℕ) → parent_of sp unit ≡ Some parent → IsAbove sp block level parent (counter + 1)
    above_more parent named =
        let up = parent_tells sp unit (nation_of sp) parent t h.here named in
        let above : level_of sp unit ≡ level_of sp parent + 1 = up.above in
        record {
          here = up.here;
          level_is = omega (arith, above, h.level_is);
          over = over_up sp (nation_of sp) t parent unit block up.here h.here up in_block h.over;
        }

    -- a unit below the nation has a parent
    pub never_none : counter < level_of sp block → parent_of sp unit ≡ None → ⊥
    never_none more none =
        let up = t.parent unit h.here (omega (arith, h.level_is, more)) in
        let named = up.1.named in
        cc
