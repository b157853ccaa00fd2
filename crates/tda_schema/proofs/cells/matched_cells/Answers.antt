use Rattle.std.proofs.Common.{◌≡◌, ◌∙◌, ◌+◌, ap, sym, length, take}
use Rattle.std.proofs.lemmas.List.{with_items_is}
use Rattle.tda_model.specs.Cells.{cell_count, is_listed}
use Rattle.tda_schema.proofs.ColumnLemmas.{column_length}
use Rattle.tda_schema.proofs.Possible.{nothing_out, marks_length, listed_more}
use Rattle.tda_schema.proofs.cells.matched_cells.Goals as goal
use Rattle.tda_schema.proofs.cells.matched_cells.Goals.{After-deref_mut}

pub loop-listed-init : goal.loop-listed-init
loop-listed-init c =
    let s = c.args.stated.now in
    let cells : length c.of.result.now ≡ cell_count s = ap length c.of.ensures ∙ column_length s.attributes c.args.columns.now c.requires.columns 0 c.requires.looked_up.limits.some_attribute in
    nothing_out s (length c.of.result.now) c.in_ok-matched.matched.items cells (c.in_ok-matched.ensures.items_if_clones_equal (λ y e. e))

cells : (c : After-deref_mut) → length c.deref_mut.result.now ≡ cell_count c.args.stated.now
cells c = ap length c.deref_mut.ensures.value ∙ marks_length c.args.stated.now (is_listed c.args.stated.now (take c.loop-listed.listed-index c.args.row.now)) c.loop-listed.matched.items c.loop-listed.invariant

pub keep_listed-requires-clause-cells : goal.keep_listed-requires-clause-cells
keep_listed-requires-clause-cells c = cells c

pub loop-listed-preserved : goal.loop-listed-preserved
loop-listed-preserved c =
    let s = c.args.stated.now in
    let old = c.deref_mut.result.now in
    let new = c.keep_listed.new.cells in
    let so_far = c.deref_mut.ensures.value ∙ c.loop-listed.invariant in
    let more = listed_more s c.args.row.now c.loop-listed.listed-index c.listed-item.result c.loop-listed-test.true c.listed-item.is old new so_far c.in_ok-keep_listed.ensures in
    let many : length new ≡ c.loop-listed.matched.len =
    marks_length s (is_listed s (take (c.loop-listed.listed-index + 1) c.args.row.now)) new more ∙ sym (cells ((goal.at.loop-listed-preserved c).After-deref_mut)) ∙ ap length c.deref_mut.ensures.value
    ∙ sym c.loop-listed.matched.ok.0 in
    with_items_is c.loop-listed.matched new many ∙ more
