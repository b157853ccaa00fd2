use Rattle.std.proofs.Common.{ℕ, ◌/◌, ◌%◌, refl}
use Rattle.tda_sets.proofs.Ranges.{map_range_push}
use Rattle.tda_schema.proofs.columns.column.Goals as goal

pub loop-cell-preserved : goal.loop-cell-preserved
loop-cell-preserved c =
    let f : ℕ → ℕ = λ cell. cell / c.args.stride % c.args.size in
    map_range_push f c.loop-cell.cell c.loop-cell.values.items c.push.new.self.items (f c.loop-cell.cell) c.in_ok-push.ensures.items c.loop-cell.invariant refl
