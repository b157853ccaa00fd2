use Rattle.std.proofs.Common.{◌<◌, ℕ}
use Rattle.tda_model.specs.Groups.{LevelIsNested}
use Rattle.tda_schema.specs.Stated.{level_at}
use Rattle.tda_prices.proofs.reader.count_all.Given as goal

abbrev pub invariant-loop-level : goal.invariant-loop-level
invariant-loop-level l = (level : ℕ) → level < l.level → LevelIsNested l.schema (level_at l.schema level)
