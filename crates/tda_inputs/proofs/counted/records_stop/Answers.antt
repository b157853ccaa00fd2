use Rattle.std.proofs.Common.{refl, inl, inr}
use Rattle.tda_records.specs.declared.fault.RecFault.TheVariants.{NoMemory}
use Rattle.tda_refusal.specs.Refusal.{records_text}
use Rattle.tda_inputs.specs.declared.reading.File.TheVariants as file
use Rattle.tda_inputs.proofs.Judged.{stop_by}
use Rattle.tda_inputs.proofs.counted.records_stop.Goals as goal

pub returns-in_default : goal.returns-in_default
returns-in_default c = stop_by NoMemory file.Records records_text c.args.fault _ c.in_default.not-NoMemory c.refused.ensures (inr (inl (c.args.fault, c.in_default.not-NoMemory, refl)))
