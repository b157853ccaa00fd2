use Rattle.std.proofs.Common.{ap, sym, subst, ◌∙◌, ◌≢◌}
use Rattle.tda_inputs.specs.Reading.{case_in}
use Rattle.tda_audit.specs.declared.verdict.Verdict.TheVariants.{Yes}
use Rattle.tda_refusal.specs.Verdicts.{VerdictIsKnown}
use Rattle.tda_tool.specs.Auditing.{no_ending}
use Rattle.tda_tool.specs.Answer.{AuditsBy}
use Rattle.tda_tool.proofs.Verdicts.{verdict_known, uncertified_case}
use Rattle.tda_tool.proofs.audit.against.Goals as goal

pub failing_line-requires : goal.failing_line-requires
failing_line-requires c =
    let case = case_in c.args.evidence.now in
    subst (VerdictIsKnown case.inputs.schema case.inputs.spine) (sym c.requires.verdict) (verdict_known case c.requires.evidence.inputs.joined.tree)

pub returns : goal.returns
returns c =
    let case = case_in c.args.evidence.now in
    subst (λ k. AuditsBy k case c.alone.result) (sym c.alone.ensures.cause) (record {
      uncertified = uncertified_case case c.requires.tells (subst (λ v. v ≢ Yes) c.requires.verdict c.requires.no);
      alone = record {
        outputs = c.alone.ensures.outputs;
        report = ap (λ v. v.items) c.alone.ensures.report ∙ c.in_ok-report.ensures ∙ ap (λ v. (no_ending case.inputs.schema case.inputs.spine v).report) c.requires.verdict;
      };
    })
