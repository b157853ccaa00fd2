use Rattle.std.proofs.Common.{◌≡◌, ◌∙◌, ◌*◌, ap, arith, get_or}
use Rattle.std.specs.Int.{abs_diff}
use Rattle.std.proofs.lemmas.List.Sums.{sum_by_more_le}
use Rattle.tda_out.specs.Counts.{count_at}
use Rattle.tda_hist.specs.Distance.{squared_gap}
use Rattle.tda_hist.proofs.distance.unit_distance.Goals as goal

pub overflow_add-sum : goal.overflow_add-sum
overflow_add-sum c =
    let cell = get_or c.args.cells.now c.loop-cell.cell-index 0 in
    let gap : c.abs_diff-gap.result ≡ abs_diff (count_at c.args.first.now c.args.unit cell) (count_at c.args.second.now c.args.unit cell) =
    c.abs_diff-gap.ensures ∙ ap (λ n. abs_diff n c.get-in-loop-cell.result) c.get.ensures.count ∙ ap (abs_diff (count_at c.args.first.now c.args.unit cell)) c.get-in-loop-cell.ensures.count in
    let squared = ap (λ n. n * n) gap in
    let room = sum_by_more_le (λ j. squared_gap (count_at c.args.first.now c.args.unit j) (count_at c.args.second.now c.args.unit j)) c.args.cells.now c.loop-cell.cell-index 0 c.loop-cell-test.true in
    omega (arith, squared, room, c.loop-cell.invariant, c.requires.room)
