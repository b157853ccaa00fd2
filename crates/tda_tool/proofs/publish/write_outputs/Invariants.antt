-- the outputs before this one are written, and no call failed
use Rattle.std.proofs.Common.{◌≡◌, map, string_bytes, take, option_map}
use Rattle.tda_tool.specs.Outcome.{with_all}
use Rattle.tda_tool.specs.Answer.{outputs_of}
use Rattle.tda_tool.proofs.publish.write_outputs.Given as goal

abbrev pub invariant-loop-output : goal.invariant-loop-output
invariant-loop-output g l =
    (g.O.Outbox.told l.outbox ≡ option_map (with_all (take l.output-index (outputs_of (map string_bytes l.words) l.answer))) (g.O.Outbox.told l.initial.outbox))
    × (g.O.Outbox.faults l.outbox ≡ g.O.Outbox.faults l.initial.outbox)
