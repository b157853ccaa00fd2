use Rattle.std.proofs.Common.{refl, inr}
use Rattle.tda_prices.specs.declared.fault.PriFault.TheVariants.{NoMemory}
use Rattle.tda_refusal.specs.Refusal.{prices_text}
use Rattle.tda_inputs.specs.declared.reading.File.TheVariants as file
use Rattle.tda_inputs.proofs.Judged.{stop_by}
use Rattle.tda_inputs.proofs.evidence.prices_stop.Goals as goal

pub returns-in_default : goal.returns-in_default
returns-in_default c = stop_by NoMemory file.Prices prices_text c.args.fault _ c.in_default.not-NoMemory c.refused.ensures (inr (c.args.fault, c.in_default.not-NoMemory, refl))
