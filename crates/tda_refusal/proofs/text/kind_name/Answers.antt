use Rattle.std.proofs.Common.{[], sym}
use Rattle.std.proofs.lemmas.Option.{get_or_from_slice_get}
use Rattle.tda_schema.specs.Readers.{values_of}
use Rattle.tda_refusal.proofs.text.kind_name.Goals as goal

pub returns-clause-value : goal.returns-clause-value
returns-clause-value c = sym (get_or_from_slice_get (values_of c.args.schema.now 0) c.args.kind _ [] c.value_name.ensures.value)
