use Rattle.tda_io.proofs.Gather.{Gathers, left_size}
use Rattle.tda_io.proofs.rows.read_rows.Given as goal

abbrev pub invariant-loop-found : goal.invariant-loop-found
invariant-loop-found l = Gathers l.bytes l.reader l.width l.count l.ends.items l.text.items

abbrev pub decreases-loop-found : goal.decreases-loop-found
decreases-loop-found l = left_size l.reader
