use Rattle.std.proofs.Common.{Some}
use Rattle.tda_model.specs.Spine.{parents_of}
use Rattle.tda_out.specs.Counts.{count_at}
use Rattle.tda_fitnet.specs.Inputs.{inputs_of}
use Rattle.tda_prices.specs.Priced.{price_in}
use Rattle.tda_audit.specs.Certified.{level_groups}
use Rattle.tda_audit.specs.Verdicts.{fails, sides_of}
use Rattle.tda_audit.proofs.Walks.{FailsInto}
use Rattle.tda_audit.proofs.fits.wrong_in_splits.Given as goal

abbrev pub invariant-loop-parent : goal.invariant-loop-parent
invariant-loop-parent g l =
    FailsInto (fails (inputs_of l.schema l.spine l.inv l.m) (level_groups l.schema) l.loss.curve (count_at l.tables) (price_in l.schema l.spine l.prices.numbers))
    (λ p. sides_of (inputs_of l.schema l.spine l.inv l.m) (level_groups l.schema) (Some p)) (parents_of l.spine) l.parent-index
