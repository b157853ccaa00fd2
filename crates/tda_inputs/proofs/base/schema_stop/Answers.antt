use Rattle.std.proofs.Common.{refl, inr}
use Rattle.tda_schema.specs.declared.fault.SchemaFault.TheVariants.{NoMemory}
use Rattle.tda_refusal.specs.Refusal.{schema_text}
use Rattle.tda_inputs.specs.declared.reading.File.TheVariants as file
use Rattle.tda_inputs.proofs.Judged.{stop_by}
use Rattle.tda_inputs.proofs.base.schema_stop.Goals as goal

pub returns-in_default : goal.returns-in_default
returns-in_default c = stop_by NoMemory file.Schema schema_text c.args.fault _ c.in_default.not-NoMemory c.refused.ensures (inr (c.args.fault, c.in_default.not-NoMemory, refl))
