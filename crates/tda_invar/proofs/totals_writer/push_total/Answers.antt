use Rattle.std.proofs.Common.{subst, sym}
use Rattle.tda_io.specs.Texts.{IsPlain}
use Rattle.tda_io.proofs.PlainNames.{plain_name}
use Rattle.tda_invar.proofs.totals_writer.push_total.Goals as goal

pub push_field-requires : goal.push_field-requires
push_field-requires c = subst IsPlain (sym c.as_bytes.ensures.value) (plain_name 16 _ c.requires)
