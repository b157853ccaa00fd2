-- One level more.
use Rattle.std.proofs.Common.{◌≡◌, ℕ, ◌+◌, ◌<◌, subst, sym, inl, inr, arith, get_or}
use Rattle.std.proofs.lemmas.Bool.{cases_lt}
use Rattle.tda_model.specs.Schema.{Schema}
use Rattle.tda_schema.specs.Stated.{level_at}
use Rattle.tda_groups.specs.Tree.{IsTreeOf}
use Rattle.tda_descent.specs.Levels.{IsGrouped}
use Rattle.tda_descent.proofs.Steps.{trees_more}
use Rattle.tda_descent.proofs.trees.level_trees.Goals as goal

grouped_more : (s : Schema) (level : ℕ) → ((k : ℕ) → k < level → IsGrouped s k) → IsGrouped s level → (k : ℕ) → k < level + 1 → IsGrouped s k
grouped_more s level h last k less = elim (cases_lt k level) [
  | inl low ↦ h k low
  | inr high ↦ let e : level ≡ k = omega arith in subst (IsGrouped s) e last
]

pub loop-level-preserved : goal.loop-level-preserved
loop-level-preserved c =
    let s = c.args.schema.now in
    let here : IsGrouped s c.loop-level.level = record {
      few = omega (arith, c.queries.ensures.count, c.queries.ensures.limit);
      over_all = c.queries.ensures.over_all;
      tree = _;
      is_tree = c.in_ok-tree.ensures;
    } in
    record {
      count = omega (arith, c.in_ok-push.ensures.len, c.loop-level.invariant.count);
      each = λ k t less. subst (λ ts. IsTreeOf s (level_at s k) (get_or ts k t)) (sym c.in_ok-push.ensures.items)
          (trees_more s c.loop-level.level c.loop-level.trees.items _ c.loop-level.invariant.count c.loop-level.invariant.each c.in_ok-tree.ensures k t less);
      grouped = grouped_more s c.loop-level.level c.loop-level.invariant.grouped here;
    }
