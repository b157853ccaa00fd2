-- One level more.
use Rattle.std.proofs.Common.{◌≡◌, ℕ, ◌+◌, ◌-◌, ◌<◌, List, [], ◌∷◌, ◌++◌, length, get_or, refl, ap, ◌∙◌, subst, sym, inl, inr, arith}
use Rattle.std.proofs.lemmas.Bool.{cases_lt}
use Rattle.std.proofs.lemmas.List.{get_or_append_left, get_or-append_right}
use Rattle.tda_model.specs.Schema.{Schema}
use Rattle.tda_schema.specs.Stated.{level_at}
use Rattle.tda_groups.specs.Tree.{Tree, IsTreeOf}
use Rattle.tda_audit.specs.Trees.{HasFewQueries}
use Rattle.tda_audit.proofs.trees.level_trees.Goals as goal

trees_more : (s : Schema) (level : ℕ) (trees : List Tree) (more : Tree) → length trees ≡ level
    → ((k : ℕ) (t : Tree) → k < level → IsTreeOf s (level_at s k) (get_or trees k t)) → IsTreeOf s (level_at s level) more
    → (k : ℕ) (t : Tree) → k < level + 1 → IsTreeOf s (level_at s k) (get_or (trees ++ more ∷ []) k t)
trees_more s level trees more count h last k t less = elim (cases_lt k level) [
  | inl low ↦ subst (IsTreeOf s (level_at s k)) (sym (get_or_append_left trees (more ∷ []) t k (omega (arith, count, low)))) (h k t low)
  | inr high ↦
      let same : level ≡ k = omega (arith, less, high) in
      let first : k - length trees ≡ 0 = omega (arith, count, same) in
      let at : get_or (trees ++ more ∷ []) k t ≡ more =
      get_or-append_right trees (more ∷ []) (length trees) k t refl (omega (arith, count, high)) ∙ ap (λ j. get_or (more ∷ []) j t) first in
      subst (IsTreeOf s (level_at s k)) (sym at) (subst (λ j. IsTreeOf s (level_at s j) more) same last)
]

few_more : (s : Schema) (level : ℕ) → ((k : ℕ) → k < level → HasFewQueries s k) → HasFewQueries s level → (k : ℕ) → k < level + 1 → HasFewQueries s k
few_more s level h last k less = elim (cases_lt k level) [
  | inl low ↦ h k low
  | inr high ↦ let e : level ≡ k = omega arith in subst (HasFewQueries s) e last
]

pub loop-level-preserved : goal.loop-level-preserved
loop-level-preserved c =
    let s = c.args.schema.now in
    let here : HasFewQueries s c.loop-level.level = record { few = omega (arith, c.queries.ensures.count, c.queries.ensures.limit); over_all = c.queries.ensures.over_all } in
    record {
      count = omega (arith, c.in_ok-push.ensures.len, c.loop-level.invariant.count);
      each = λ k t less. subst (λ ts. IsTreeOf s (level_at s k) (get_or ts k t)) (sym c.in_ok-push.ensures.items)
          (trees_more s c.loop-level.level c.loop-level.trees.items _ c.loop-level.invariant.count c.loop-level.invariant.each c.in_ok-tree.ensures k t less);
      few = few_more s c.loop-level.level c.loop-level.invariant.few here;
    }
