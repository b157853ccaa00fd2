use Rattle.std.proofs.Common.{ap, sym, ◌∙◌}
use Rattle.std.specs.List.{sum_by}
use Rattle.tda_model.specs.Spine.{unit_numbers}
use Rattle.tda_model.specs.Release.{deviation_at}
use Rattle.tda_out.specs.Counts.{count_at}
use Rattle.tda_fitnet.specs.Fits.{curve_of}
use Rattle.tda_inputs.specs.Reading.{case_in}
use Rattle.tda_release.proofs.Squares.{curve_is_square}
use Rattle.tda_tool.specs.Auditing.{tables_in, prices_in}
use Rattle.tda_tool.proofs.audit.deviation_of.Goals as goal

pub deviation-requires-clause-few : goal.deviation-requires-clause-few
deviation-requires-clause-few c =
    let case = case_in c.args.evidence.now in
    c.requires.tells.few (tables_in case) (prices_in case) (sym c.requires.yes)

pub returns : goal.returns
returns c =
    let case = case_in c.args.evidence.now in
    c.deviation.ensures c.args.evidence.now.inputs.invariants
    ∙ ap (λ k. sum_by (λ u. deviation_at (curve_of k) case.inputs u (tables_in case u)) (unit_numbers case.inputs.spine)) c.new-loss.ensures.curve
    ∙ ap (λ d. sum_by (λ u. deviation_at d case.inputs u (tables_in case u)) (unit_numbers case.inputs.spine)) curve_is_square
