use Rattle.std.proofs.Common.{◌≡◌, map, length}
use Rattle.std.specs.List.{range_with_len}
use Rattle.tda_model.specs.Groups.{kind_count}
use Rattle.tda_model.specs.Spine.{unit_numbers}
use Rattle.tda_invar.specs.Known.{known_of}
use Rattle.tda_out.specs.Counts.{count_at}
use Rattle.tda_audit.specs.Verdicts.{breaks}
use Rattle.tda_audit.specs.declared.verdict.Verdict.TheVariants.{Kind}
use Rattle.tda_audit.proofs.Walks.{FailsInto}
use Rattle.tda_audit.proofs.rules.wrong_kind.Given as goal

abbrev pub invariant-loop-unit : goal.invariant-loop-unit
invariant-loop-unit l = record {
  size : length l.counts ≡ kind_count l.schema;
  before : FailsInto (breaks l.schema l.spine (known_of l.spine l.inv) (count_at l.tables)) (λ u. map (Kind u) (range_with_len 0 (kind_count l.schema))) (unit_numbers l.spine) l.unit;
}
