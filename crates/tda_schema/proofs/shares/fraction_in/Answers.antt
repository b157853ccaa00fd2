use Rattle.tda_schema.proofs.FractionTexts.{parsed}
use Rattle.tda_schema.proofs.shares.fraction_in.Goals as goal

pub returns : goal.returns
returns c = rw (← c.as_bytes.ensures.value) (parsed c.as_bytes.result.now c.parse.result c.parse.ensures.valid c.parse.ensures.value)
