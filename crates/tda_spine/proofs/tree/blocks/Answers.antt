use Rattle.std.proofs.Common.{◌≡◌, ◌∙◌, ◌+◌, ℕ, List, [], ◌∷◌, ◌++◌, cond, get_or, ap, sym, subst, length, arith}
use Rattle.tda_model.specs.Spine.{level_of}
use Rattle.tda_spine.specs.Sound.{spine_of}
use Rattle.tda_spine.proofs.Climbs.{is_block_of, block_is, block_not, blocks_are}
use Rattle.tda_spine.proofs.Grouped.{Grouped, grouped_none, grouped_more, grouped_skip}
use Rattle.tda_spine.proofs.Lookups.{level_at}
use Rattle.tda_spine.proofs.tree.blocks.Goals.{then-unit-last+in_ok-climb, else-unit-last}
use Rattle.tda_spine.proofs.tree.blocks.Goals as goal

pub loop-number-init : goal.loop-number-init
loop-number-init c = grouped_none _ _ _ c.in_ok-lists.ensures

pub loop-number-preserved : goal.loop-number-preserved
loop-number-preserved c =
    let sp = spine_of c.args.depth c.args.units.now in
    let count = length c.args.units.now in
    let k = c.loop-number.number in
    let level : level_of sp k ≡ c.unit.inside.level =
    level_at sp k c.index-units-number.result c.index-units-number.is c.loop-number-test.true ∙ sym (ap (λ x. x.level) c.unit.view_is) in
    elim c.if-unit-last.branch [
      | then-unit-last+in_ok-climb w ↦
          let climbed = w.in_ok-climb.ensures c.args.depth c.requires.tree in
          let P : List (List ℕ) → Type 0 = Grouped (is_block_of sp) count (k + 1) in
          subst P (sym w.lists-is)
          (grouped_more (is_block_of sp) count k c.loop-number.lists w.climb.new.lists c.loop-number.invariant climbed.0
          (λ p low. climbed.1 p low ∙ ap (λ b. get_or c.loop-number.lists p [] ++ cond b (k ∷ []) []) (sym (block_is sp k p (level ∙ w.if-unit-last.true)))))
      | else-unit-last w ↦
          let P : List (List ℕ) → Type 0 = Grouped (is_block_of sp) count (k + 1) in
          subst P (sym w.lists-is)
          (grouped_skip (is_block_of sp) count k c.loop-number.lists c.loop-number.invariant (λ p. block_not sp k p (λ e. w.if-unit-last.false (sym level ∙ e))))
    ]

pub returns : goal.returns
returns c = blocks_are (spine_of c.args.depth c.args.units.now) c.loop-number.number c.loop-number.lists (omega arith) c.loop-number.invariant
