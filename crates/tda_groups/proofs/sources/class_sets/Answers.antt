use Rattle.std.proofs.Common.{◌≡◌, ◌==◌, ◌∙◌, ap, sym, arith, length, map, filter}
use Rattle.std.proofs.lemmas.List.FromFn.{length-map-range_with_len}
use Rattle.tda_model.specs.Cells.{cell_count, is_possible, all_cells}
use Rattle.tda_schema.specs.Stated.{query_at, class_of}
use Rattle.tda_groups.proofs.Buckets.{bucket, buckets, buckets_skip, buckets_put, buckets_all}
use Rattle.tda_groups.proofs.Classes.{class_below, scope_is}
use Rattle.tda_groups.proofs.sources.class_sets.Goals as goal
use Rattle.tda_groups.proofs.sources.class_sets.Goals.{then-possible+in_ok-push, else-possible}

pub index_mut-requires : goal.index_mut-requires
index_mut-requires c =
    let s = c.args.schema.now in
    let q = query_at s c.args.level c.args.query in
    let size = length-map-range_with_len (bucket (is_possible s) (class_of s q) c.loop-cell.cell) 0 (cell_count s) in
    let below = class_below s q c.loop-cell.cell (omega (arith, c.cells-cell-end.ensures.count)) in
    omega (arith, c.loop-cell.sets.ok.0, ap length c.loop-cell.invariant, size, below, c.class_of.ensures)

pub loop-cell-preserved : goal.loop-cell-preserved
loop-cell-preserved c =
    let s = c.args.schema.now in
    let q = query_at s c.args.level c.args.query in
    let n = cell_count s in
    let i = c.loop-cell.cell in
    let can = c.possible.ensures in
    let below = class_below s q i (omega (arith, c.cells-cell-end.ensures.count)) in
    elim c.if-possible.branch [
      | then-possible+in_ok-push w ↦
          buckets_put (is_possible s) (class_of s q) n i w.class_of.result c.loop-cell.sets.items c.if-possible.sets.items w.index_mut.result.now w.push.new.self
          (sym can ∙ w.if-possible.true) w.class_of.ensures below c.loop-cell.invariant w.index_mut.ensures.value w.in_ok-push.ensures (ap (λ v. v.items) w.sets-is)
      | else-possible w ↦ ap (λ v. v.items) w.sets-is ∙ c.loop-cell.invariant ∙ buckets_skip (is_possible s) (class_of s q) n i (sym can ∙ w.if-possible.false)
    ]

pub returns : goal.returns
returns c =
    let s = c.args.schema.now in
    let q = query_at s c.args.level c.args.query in
    let all : c.loop-cell.cell ≡ cell_count s = omega (arith, c.cells-cell-end.ensures.count) in
    c.loop-cell.invariant ∙ ap (buckets (is_possible s) (class_of s q) (cell_count s)) all ∙ buckets_all (is_possible s) (class_of s q) (cell_count s) (cell_count s)
    ∙ ap (λ cells. map (λ k. filter (λ j. class_of s q j == k) cells) (all_cells s)) (sym (scope_is s q c.requires.over_all))
