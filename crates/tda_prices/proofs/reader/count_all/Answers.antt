use Rattle.std.proofs.Common.{◌≡◌, inl, inr, subst, arith, []}
use Rattle.std.proofs.lemmas.Bool.{cases_lt}
use Rattle.std.proofs.lemmas.List.{get_or_default}
use Rattle.tda_model.specs.Groups.{LevelIsNested}
use Rattle.tda_schema.specs.Stated.{level_at}
use Rattle.tda_prices.proofs.reader.count_all.Goals as goal

pub loop-level-preserved : goal.loop-level-preserved
loop-level-preserved c = λ level below. elim (cases_lt level c.loop-level.level) [
  | inl less ↦ c.loop-level.invariant level less
  | inr most ↦
      let e : c.loop-level.level ≡ level = omega arith in
      subst (λ n. LevelIsNested c.args.schema.now (level_at c.args.schema.now n)) e c.groups.ensures.nested
]

pub returns : goal.returns
returns c = record {
  nested = λ k d below.
      let s = c.args.schema.now in
      subst (LevelIsNested s) (get_or_default s.levels k (record { name = []; queries = [] }) d below)
      (c.loop-level.invariant k (omega (arith, c.loop-level-test.false, c.levels-level-end.ensures.count, below)));
}
