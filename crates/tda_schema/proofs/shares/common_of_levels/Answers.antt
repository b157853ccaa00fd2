use Rattle.std.proofs.Common.{◌≡◌, ap, ◌∙◌, arith}
use Rattle.tda_model.specs.Schema.{Level}
use Rattle.tda_schema.proofs.Commons.{denominators, le-common_after, within-limited, one_more_level, passes_level}
use Rattle.tda_schema.proofs.shares.common_of_levels.Goals as goal

pub returns-in-None : goal.returns-in-None
returns-in-None c =
    let queries : c.deref.result.now ≡ c.level-item.result.queries = c.deref.ensures.value ∙ ap (λ (l : Level). l.queries) c.level.view_is in
    passes_level 1 (omega arith) c.args.levels.now c.requires c.loop-level.level-index c.level-item.result c.loop-level-test.true c.level-item.is c.loop-level.common c.loop-level.invariant.so_far (rw queries at c.in-None.ensures)

pub loop-level-preserved : goal.loop-level-preserved
loop-level-preserved c =
    let queries : c.deref.result.now ≡ c.level-item.result.queries = c.deref.ensures.value ∙ ap (λ (l : Level). l.queries) c.level.view_is in
    let found = within-limited _ _ (rw queries at c.in-Some.ensures) in
    let l = c.level-item.result in
    let paid = rw (← c.level-item.is) at (c.requires c.loop-level.level-index l c.loop-level-test.true) in
    let some = le-common_after c.loop-level.common l.queries c.loop-level.invariant.some (denominators l.queries paid) in
    record {
      some = omega (arith, found.0, some);
      small = found.1;
      so_far = found.0 ∙ one_more_level 1 (omega arith) c.args.levels.now c.requires c.loop-level.level-index l c.loop-level-test.true c.level-item.is c.loop-level.common c.loop-level.invariant.so_far;
    }
