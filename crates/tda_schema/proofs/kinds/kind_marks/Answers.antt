use Rattle.std.proofs.Common.{◌≡◌, ◌∙◌, ◌+◌, ◌<◌, ap, sym, subst, length, get_or, set, Bool, true, List, map, arith}
use Rattle.std.specs.List.{list_any, range_with_len}
use Rattle.tda_schema.proofs.KindMarks.{has_kind, AreKindMarks, mark_skips, mark_sets, marks_all}
use Rattle.tda_schema.proofs.kinds.kind_marks.Goals as goal
use Rattle.tda_schema.proofs.kinds.kind_marks.Goals.{then-possible-cell, else-possible-cell}

pub loop-cell-preserved : goal.loop-cell-preserved
loop-cell-preserved c =
    let possible = c.args.possible.now in
    let kinds = c.args.kinds.now in
    let i = c.loop-cell.cell in
    let marks = c.loop-cell.marks.items in
    let m = c.loop-cell.invariant in
    elim c.if-possible-cell.branch [
      | then-possible-cell w ↦
          let low : get_or kinds i 0 < c.args.count = c.requires.kinds i 0 c.loop-cell-test.true in
          let is : c.if-possible-cell.marks.items ≡ set marks (get_or kinds i 0) true = ap (λ v. v.items) w.marks-is ∙ ap (λ k. set marks k true) w.from.ensures in
          mark_sets possible kinds c.args.count i marks m c.if-possible-cell.marks.items w.if-possible-cell.true low is
      | else-possible-cell w ↦
          subst (λ (bs : List Bool). AreKindMarks possible kinds c.args.count (i + 1) bs) (sym (ap (λ v. v.items) w.marks-is)) (mark_skips possible kinds c.args.count i marks m w.if-possible-cell.false)
    ]

pub returns : goal.returns
returns c =
    let possible = c.args.possible.now in
    let kinds = c.args.kinds.now in
    let at : c.loop-cell.cell ≡ length kinds = omega arith in
    subst (λ n. c.loop-cell.marks.items ≡ map (λ k. list_any (has_kind possible kinds k) (range_with_len 0 n)) (range_with_len 0 c.args.count)) at
    (marks_all possible kinds c.args.count c.loop-cell.cell c.loop-cell.marks.items c.loop-cell.invariant)
