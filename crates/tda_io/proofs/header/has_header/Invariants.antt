use Rattle.std.proofs.Common.{◌≡◌, drop, map, slice_index_or, []}
use Rattle.tda_io.specs.Csv.{same_row, has_header}
use Rattle.tda_io.proofs.header.has_header.Given as goal

abbrev pub invariant-loop-col : goal.invariant-loop-col
invariant-loop-col l =
    let header = map (λ n. n.now) l.names in
    same_row (drop l.col header) (drop l.col (slice_index_or l.rows 0 [])) ≡ has_header header l.rows
