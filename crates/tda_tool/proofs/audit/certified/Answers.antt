use Rattle.std.proofs.Common.{ap, sym, subst, ◌∙◌}
use Rattle.tda_inputs.specs.Reading.{case_in}
use Rattle.tda_tool.specs.Auditing.{yes_ending}
use Rattle.tda_tool.specs.Answer.{AuditsBy}
use Rattle.tda_tool.proofs.Verdicts.{certified_case}
use Rattle.tda_tool.proofs.audit.certified.Goals as goal

pub returns : goal.returns
returns c =
    let case = case_in c.args.evidence.now in
    subst (λ k. AuditsBy k case c.alone.result) (sym c.alone.ensures.cause) (record {
      certified = certified_case case c.requires.tells c.requires.yes;
      alone = record {
        outputs = c.alone.ensures.outputs;
        report = ap (λ v. v.items) c.alone.ensures.report ∙ c.in_ok-report.ensures ∙ ap (λ d. (yes_ending case.inputs.spine d).report) c.deviation_of-deviation.ensures;
      };
    })
