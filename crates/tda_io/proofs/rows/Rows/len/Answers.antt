use Rattle.std.proofs.Common.{sym}
use Rattle.tda_io.proofs.Tables.{length-rows_by}
use Rattle.tda_io.proofs.rows.Rows.len.Goals as goal

pub returns : goal.returns
returns c = rw (← c.self.view_is) (sym (length-rows_by _ _ _))
