use Rattle.tda_invar.specs.declared.join_fault.JoinFault.TheVariants.{NoMemory}
use Rattle.tda_invar.specs.Known.{known, join_due, JoinedLists}
use Rattle.tda_refusal.specs.Refusal.{join_text}
use Rattle.tda_inputs.specs.declared.reading.File.TheVariants as file
use Rattle.tda_inputs.proofs.FaultUnits.{join_names}
use Rattle.tda_inputs.proofs.Beside.{judged_well, judged_stop}
use Rattle.tda_inputs.proofs.inputs.joined.Goals as goal

pub join_stop-requires : goal.join_stop-requires
join_stop-requires c =
    join_names c.args.schema.now c.args.spine.now (known c.args.spine.now c.args.facilities c.args.totals) _ c.in-Err.ensures.short

pub returns-in-Ok-clause-given : goal.returns-in-Ok-clause-given
returns-in-Ok-clause-given c =
    let s = c.args.schema.now in
    let sp = c.args.spine.now in
    let due = join_due s sp (known sp c.args.facilities c.args.totals) in
    (c.in-Ok.ensures.kept.0, c.in-Ok.ensures.kept.1, judged_well file.Totals (join_text sp) due c.in-Ok.invariants c.in-Ok.ensures.short)

pub returns-in-Err-clause-given : goal.returns-in-Err-clause-given
returns-in-Err-clause-given c =
    let s = c.args.schema.now in
    let sp = c.args.spine.now in
    let due = join_due s sp (known sp c.args.facilities c.args.totals) in
    judged_stop file.Totals (join_text sp) due JoinedLists NoMemory c.in-Err.fault _ c.in-Err.ensures.short c.join_stop.ensures
