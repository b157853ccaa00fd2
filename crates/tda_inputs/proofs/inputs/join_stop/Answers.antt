use Rattle.std.proofs.Common.{refl, inr}
use Rattle.tda_invar.specs.declared.join_fault.JoinFault.TheVariants.{NoMemory}
use Rattle.tda_refusal.specs.Refusal.{join_text}
use Rattle.tda_inputs.specs.declared.reading.File.TheVariants as file
use Rattle.tda_inputs.proofs.Judged.{stop_by}
use Rattle.tda_inputs.proofs.inputs.join_stop.Goals as goal

pub returns-in_default : goal.returns-in_default
returns-in_default c =
    stop_by NoMemory file.Totals (join_text c.args.spine.now) c.args.fault _ c.in_default.not-NoMemory c.refused_beside.ensures (inr (c.args.spine.now, inr (c.args.fault, c.in_default.not-NoMemory, refl)))
