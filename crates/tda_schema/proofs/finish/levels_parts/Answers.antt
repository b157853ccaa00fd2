use Rattle.std.proofs.Common.{◌≡◌, ◌∙◌, ℕ, ◌<◌, ap, sym, subst, length, get_or, arith}
use Rattle.tda_model.specs.Schema.{Level, Schema}
use Rattle.tda_schema.specs.Stated.{IsLevelOf}
use Rattle.tda_schema.proofs.LevelLemmas.{one_made, one_fails, all_made}
use Rattle.tda_schema.proofs.finish.levels_parts.Goals as goal
use Rattle.tda_schema.proofs.finish.levels_parts.Goals.{After-deref-level-items}

module _ (c : After-deref-level-items) where
  levels : c.deref-level-items.result.now ≡ c.args.stated.now.levels
  levels = c.deref-level-items.ensures.value ∙ ap (λ (s : Schema). s.levels) c.stated.view_is

  module _ (k : ℕ) (l : Level) (test : k < length c.deref-level-items.result.now) (is : l ≡ get_or c.deref-level-items.result.now k l) where
    below : k < length c.args.stated.now.levels
    below = omega (arith, ap length levels, test)

    at : l ≡ get_or c.args.stated.now.levels k l
    at = is ∙ ap (λ ls. get_or ls k l) levels

    of : IsLevelOf c.args.stated.now l
    of = subst (IsLevelOf c.args.stated.now) (sym at) (c.requires.looked_up.levels k l below)

pub level_parts-requires-clause-level : goal.level_parts-requires-clause-level
level_parts-requires-clause-level c = of ((goal.at.level_parts-requires-clause-level c).After-deref-level-items) c.loop-level.level-index c.level-item.result c.loop-level-test.true c.level-item.is

pub returns-in_err-level_parts : goal.returns-in_err-level_parts
returns-in_err-level_parts c = grind (arith, one_fails c.args.stated.now c.args.stated.now.levels c.loop-level.level-index c.level-item.result (below ((goal.at.returns-in_err-level_parts c).After-deref-level-items) c.loop-level.level-index c.level-item.result c.loop-level-test.true c.level-item.is) (at ((goal.at.returns-in_err-level_parts c).After-deref-level-items) c.loop-level.level-index c.level-item.result c.loop-level-test.true c.level-item.is))

pub loop-level-preserved : goal.loop-level-preserved
loop-level-preserved c =
    let s = c.args.stated.now in
    let k = c.loop-level.level-index in
    let l = c.level-item.result in
    let d = (goal.at.loop-level-preserved c).After-deref-level-items in
    let m = one_made s s.levels k l (below d k l c.loop-level-test.true c.level-item.is) (at d k l c.loop-level-test.true c.level-item.is)
    c.in_ok-level_parts.field-0 c.loop-level.parts.items c.push.new.self.items c.in_ok-level_parts.ensures c.in_ok-push.ensures.items
    (record { nested = c.loop-level.invariant.nested; made = c.loop-level.invariant.parts }) in
    record { nested = m.nested; parts = m.made }

pub returns : goal.returns
returns c =
    let s = c.args.stated.now in
    let same = levels ((goal.at.returns c).After-deref-level-items) in
    all_made s s.levels c.loop-level.level-index c.loop-level.parts.items (omega (arith, ap length same, c.loop-level-test.false)) c.loop-level.invariant.nested c.loop-level.invariant.parts
