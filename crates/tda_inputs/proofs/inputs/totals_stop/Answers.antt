use Rattle.std.proofs.Common.{refl, inl, inr}
use Rattle.tda_invar.specs.declared.tot_fault.TotFault.TheVariants.{NoMemory}
use Rattle.tda_refusal.specs.Refusal.{totals_text}
use Rattle.tda_inputs.specs.declared.reading.File.TheVariants as file
use Rattle.tda_inputs.proofs.Judged.{stop_by}
use Rattle.tda_inputs.proofs.inputs.totals_stop.Goals as goal

pub returns-in_default : goal.returns-in_default
returns-in_default c =
    stop_by NoMemory file.Totals (totals_text c.args.spine.now) c.args.fault _ c.in_default.not-NoMemory c.refused_beside.ensures (inr (c.args.spine.now, inl (c.args.fault, c.in_default.not-NoMemory, refl)))
