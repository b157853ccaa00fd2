use Rattle.tda_schema.proofs.Named.{text_named}
use Rattle.tda_schema.proofs.readers.Schema.value_name.Goals as goal

pub returns-clause-name : goal.returns-clause-name
returns-clause-name c = text_named c.attribute.result.now.values c.from.result c.value.result.now c.attribute.ensures.named c.value.ensures
