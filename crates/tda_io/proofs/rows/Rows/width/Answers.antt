use Rattle.std.proofs.Common.{◌∙◌, sym}
use Rattle.csv.proofs.RecordFacts.{cut-length}
use Rattle.tda_io.proofs.Tables.{width-rows_by}
use Rattle.tda_io.proofs.rows.Rows.width.Goals as goal

pub returns : goal.returns
returns c = rw (← c.self.view_is) (sym (width-rows_by _ _ _ (cut-length _ _ _ ∙ c.self.invariant.whole) c.self.invariant.none))
