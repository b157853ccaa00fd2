use Rattle.std.proofs.Common.{None, ap, ◌∙◌, map}
use Rattle.tda_flow.specs.Search.{rank_of, last_of}
use Rattle.tda_flow.proofs.Views.{map-replicate}
use Rattle.tda_flow.proofs.work.Work.new.Goals as goal

pub returns-clause-ranks : goal.returns-clause-ranks
returns-clause-ranks c = ap (map rank_of) c.in_ok-marks.ensures ∙ map-replicate rank_of c.args.nodes None

pub returns-clause-lasts : goal.returns-clause-lasts
returns-clause-lasts c = ap (map last_of) c.in_ok-marks.ensures ∙ map-replicate last_of c.args.nodes None
