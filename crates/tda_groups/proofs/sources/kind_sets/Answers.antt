use Rattle.std.proofs.Common.{◌≡◌, ◌∙◌, ap, sym, arith, length}
use Rattle.std.proofs.lemmas.List.FromFn.{length-map-range_with_len}
use Rattle.tda_model.specs.Cells.{cell_count, is_possible, kind_of}
use Rattle.tda_model.specs.Groups.{kind_count}
use Rattle.tda_groups.proofs.Buckets.{bucket, buckets, buckets_skip, buckets_put, buckets_all}
use Rattle.tda_groups.proofs.sources.kind_sets.Goals as goal
use Rattle.tda_groups.proofs.sources.kind_sets.Goals.{then-possible+in_ok-push, else-possible}

pub index_mut-requires : goal.index_mut-requires
index_mut-requires c =
    let s = c.args.schema.now in
    let size = length-map-range_with_len (bucket (is_possible s) (kind_of s) c.loop-cell.cell) 0 (kind_count s) in
    omega (arith, c.loop-cell.sets.ok.0, ap length c.loop-cell.invariant, size, c.kind_of.ensures.in_range)

pub loop-cell-preserved : goal.loop-cell-preserved
loop-cell-preserved c =
    let s = c.args.schema.now in
    let i = c.loop-cell.cell in
    let can = c.possible.ensures in
    elim c.if-possible.branch [
      | then-possible+in_ok-push w ↦
          buckets_put (is_possible s) (kind_of s) (kind_count s) i w.from-then-possible.result c.loop-cell.sets.items c.if-possible.sets.items w.index_mut.result.now w.push.new.self
          (sym can ∙ w.if-possible.true) (w.from-then-possible.ensures ∙ w.kind_of.ensures.kind) (omega (arith, w.kind_of.ensures.kind, w.kind_of.ensures.in_range)) c.loop-cell.invariant
          w.index_mut.ensures.value w.in_ok-push.ensures (ap (λ v. v.items) w.sets-is)
      | else-possible w ↦ ap (λ v. v.items) w.sets-is ∙ c.loop-cell.invariant ∙ buckets_skip (is_possible s) (kind_of s) (kind_count s) i (sym can ∙ w.if-possible.false)
    ]

pub returns-clause-value : goal.returns-clause-value
returns-clause-value c =
    let s = c.args.schema.now in
    let all : c.loop-cell.cell ≡ cell_count s = omega (arith, c.cells-cell-end.ensures.count) in
    c.loop-cell.invariant ∙ ap (buckets (is_possible s) (kind_of s) (kind_count s)) all ∙ buckets_all (is_possible s) (kind_of s) (kind_count s) (cell_count s)
