use Rattle.std.proofs.Common.{◌≡◌, ◌∙◌, ◌+◌, ◌<◌, ◌≤◌, All, ap, sym, subst, length, get_or, map, arith}
use Rattle.std.proofs.lemmas.List.{length-map, get_or-map, with_items_is}
use Rattle.tda_model.specs.Schema.{Schema}
use Rattle.tda_model.specs.Cells.{cell_count, is_listed, all_cells}
use Rattle.tda_schema.specs.Stated.{IsListedOf}
use Rattle.tda_schema.proofs.ColumnLemmas.{column_length}
use Rattle.tda_schema.proofs.Possible.{none_matches, nothing_out, marks_length, possible_more, possible_all}
use Rattle.tda_schema.proofs.cells.possible_cells.Goals as goal
use Rattle.tda_schema.proofs.cells.possible_cells.Goals.{After-deref-row-items, After-deref}

rows : (c : After-deref-row-items) → c.args.stated.now.zeros ≡ map (λ r. r.items) c.deref-row-items.result.now
rows c = sym (ap (λ (s : Schema). s.zeros) c.stated.view_is) ∙ ap (map (λ r. r.items)) (sym c.deref-row-items.ensures.value)

pub loop-row-init : goal.loop-row-init
loop-row-init c =
    let s = c.args.stated.now in
    let cells : length c.of.result.now ≡ cell_count s = ap length c.of.ensures ∙ column_length s.attributes c.args.columns.now c.requires.columns 0 c.requires.looked_up.limits.some_attribute in
    nothing_out s (length c.of.result.now) c.in_ok-possible.possible.items cells (c.in_ok-possible.ensures.items_if_clones_equal (λ y e. e))

below : (c : After-deref) → c.loop-row.row-index < length c.args.stated.now.zeros
below c = omega (arith, ap length (rows ((goal.at.After-deref c).After-deref-row-items)), length-map c.deref-row-items.result.now (λ r. r.items), c.loop-row-test.true)

at : (c : After-deref) → c.row-item.result.items ≡ get_or c.args.stated.now.zeros c.loop-row.row-index c.row-item.result.items
at c =
    let row = c.row-item.result in
    ap (λ r. r.items) c.row-item.is ∙ sym (get_or-map (λ r. r.items) c.deref-row-items.result.now c.loop-row.row-index row row.items c.loop-row-test.true)
    ∙ ap (λ rs. get_or rs c.loop-row.row-index row.items) (sym (rows ((goal.at.After-deref c).After-deref-row-items)))

pub matched_cells-requires-clause-row : goal.matched_cells-requires-clause-row
matched_cells-requires-clause-row c =
    let s = c.args.stated.now in
    let row = c.row-item.result.items in
    subst (λ r. All (IsListedOf s) r) (sym (c.deref.ensures.value ∙ at c)) (c.requires.looked_up.zeros c.loop-row.row-index row (below c))

pub loop-row-preserved : goal.loop-row-preserved
loop-row-preserved c =
    let s = c.args.stated.now in
    let k = c.loop-row.row-index in
    let row = c.row-item.result.items in
    let d = (goal.at.loop-row-preserved c).After-deref in
    let old = c.deref_mut.result.now in
    let new = c.leave_out.new.cells in
    let so_far = c.deref_mut.ensures.value ∙ c.loop-row.invariant in
    let matched = c.deref-in-loop-row.ensures.value ∙ c.in_ok-matched.ensures ∙ ap (λ r. map (is_listed s r) (all_cells s)) c.deref.ensures.value in
    let more = possible_more s k row (below d) (at d) old c.deref-in-loop-row.result.now new so_far matched c.leave_out.ensures in
    let many : length new ≡ c.loop-row.possible.len =
    marks_length s (none_matches s (k + 1)) new more ∙ sym (marks_length s (none_matches s k) old so_far) ∙ ap length c.deref_mut.ensures.value ∙ sym c.loop-row.possible.ok.0 in
    with_items_is c.loop-row.possible new many ∙ more

pub returns : goal.returns
returns c =
    let s = c.args.stated.now in
    let all : length s.zeros ≤ c.loop-row.row-index =
    omega (arith, ap length (rows ((goal.at.returns c).After-deref-row-items)), length-map c.deref-row-items.result.now (λ r. r.items), c.loop-row-test.false) in
    possible_all s c.loop-row.row-index c.loop-row.possible.items all c.loop-row.invariant
