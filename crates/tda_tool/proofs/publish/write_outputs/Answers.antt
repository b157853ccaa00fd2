use Rattle.std.proofs.Common.{map, string_bytes, rules, ◌∙◌, ap, subst, get_or}
use Rattle.tda_tool.specs.Output.{LeavesPart}
use Rattle.tda_tool.proofs.Writes.{IsOutputAt, report_new, next_new, next_given_up, report_still_new, next_written, all_begun}
use Rattle.tda_tool.proofs.publish.write_outputs.Goals as goal

pub write_whole-requires-clause-new : goal.write_whole-requires-clause-new
write_whole-requires-clause-new g c =
    let at : IsOutputAt c.args.answer.now c.loop-output.output-index c.output-item.result = record {
      within = search rules;
      is = c.output-item.is ∙ ap (λ os. get_or os c.loop-output.output-index c.output-item.result) c.deref-output-items.ensures.value;
    } in
    let new = next_new (map string_bytes c.args.words.now) c.args.answer.now c.requires.names c.loop-output.output-index _ _ c.requires.empty c.loop-output.invariant.0 c.output-item.result at in
    rw c.target_of.ensures new

pub returns-in_err-write_whole-clause-begun : goal.returns-in_err-write_whole-clause-begun
returns-in_err-write_whole-clause-begun g c =
    let at : IsOutputAt c.args.answer.now c.loop-output.output-index c.output-item.result = record {
      within = search rules;
      is = c.output-item.is ∙ ap (λ os. get_or os c.loop-output.output-index c.output-item.result) c.deref-output-items.ensures.value;
    } in
    next_given_up (map string_bytes c.args.words.now) c.args.answer.now c.requires.names c.loop-output.output-index _ _ c.requires.empty c.loop-output.invariant.0 c.output-item.result at _ c.deref.result.now
    (subst (λ path. LeavesPart path c.deref.result.now (g.O.Outbox.told c.loop-output.outbox) (g.O.Outbox.told c.write_whole.new.outbox)) c.target_of.ensures c.in_err-write_whole.ensures.err)

pub returns-in_err-write_whole-clause-new : goal.returns-in_err-write_whole-clause-new
returns-in_err-write_whole-clause-new g c =
    let at : IsOutputAt c.args.answer.now c.loop-output.output-index c.output-item.result = record {
      within = search rules;
      is = c.output-item.is ∙ ap (λ os. get_or os c.loop-output.output-index c.output-item.result) c.deref-output-items.ensures.value;
    } in
    report_still_new (map string_bytes c.args.words.now) c.args.answer.now c.requires.names c.loop-output.output-index _ _ c.requires.empty c.loop-output.invariant.0 c.output-item.result at _ c.deref.result.now
    (subst (λ path. LeavesPart path c.deref.result.now (g.O.Outbox.told c.loop-output.outbox) (g.O.Outbox.told c.write_whole.new.outbox)) c.target_of.ensures c.in_err-write_whole.ensures.err)

pub loop-output-preserved : goal.loop-output-preserved
loop-output-preserved g c =
    let at : IsOutputAt c.args.answer.now c.loop-output.output-index c.output-item.result = record {
      within = search rules;
      is = c.output-item.is ∙ ap (λ os. get_or os c.loop-output.output-index c.output-item.result) c.deref-output-items.ensures.value;
    } in (
      next_written (map string_bytes c.args.words.now) c.args.answer.now c.requires.names c.loop-output.output-index _ _ c.requires.empty c.loop-output.invariant.0 c.output-item.result at _
          (rw (← c.target_of.ensures, ← c.deref.ensures.value) c.in_ok-write_whole.ensures.ok),
      c.in_ok-write_whole.ensures.cause ∙ c.loop-output.invariant.1,
    )

pub returns-clause-begun : goal.returns-clause-begun
returns-clause-begun g c =
    all_begun (map string_bytes c.args.words.now) c.args.answer.now c.requires.names c.loop-output.output-index _ _ c.requires.empty c.loop-output.invariant.0 (search rules)

pub returns-clause-new : goal.returns-clause-new
returns-clause-new g c =
    report_new (map string_bytes c.args.words.now) c.args.answer.now c.requires.names c.loop-output.output-index _ _ c.requires.empty c.loop-output.invariant.0
