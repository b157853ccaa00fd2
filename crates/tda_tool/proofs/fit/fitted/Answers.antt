use Rattle.std.proofs.Common.{rules, ap, ◌∙◌}
use Rattle.tda_tool.specs.Ending.{fit_ending}
use Rattle.tda_tool.proofs.Answered.{answered_yes}
use Rattle.tda_tool.proofs.fit.fitted.Goals as goal

pub returns-clause-made : goal.returns-clause-made
returns-clause-made c =
    let t = c.in_ok-texts.ensures.texts in
    let tables_are = t.tables_are in
    let prices_are = t.prices_are in
    let back = answered_yes _ c.in_ok-texts.texts _ c.in_ok-texts.ensures.read_back t.deviation in
    record {
      tables = t.tables;
      price = t.price;
      certified = t.certified;
      outputs = record { names_are = search rules; texts_are = search rules };
      report = c.in_ok-report.ensures ∙ ap (λ d. (fit_ending c.args.spine.now d).report) t.deviation;
      answered = rw (← tables_are, ← prices_are) back;
    }
