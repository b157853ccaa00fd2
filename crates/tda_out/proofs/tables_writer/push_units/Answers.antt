use Rattle.std.proofs.Common.{ℕ, List, ◌+◌, ◌*◌, ◌∙◌, get_or, length, refl, ap}
use Rattle.std.specs.List.{flat_map, range_with_len, between}
use Rattle.tda_model.specs.Cells.{cell_count}
use Rattle.tda_model.specs.Spine.{code_of}
use Rattle.tda_model.specs.TablesText.{table_rows, count_row}
use Rattle.tda_out.specs.Written.{table_at}
use Rattle.tda_io.proofs.Appends.{kept_start, on_err}
use Rattle.tda_out.proofs.WrittenRows.{one_more, part_rows, part_fits}
use Rattle.tda_out.proofs.tables_writer.push_units.Goals as goal

pub returns-in_err-push_unit-clause-err : goal.returns-in_err-push_unit-clause-err
returns-in_err-push_unit-clause-err c =
    on_err c.from_residual.result
    (kept_start c.args.out.now.items c.loop-place.out.items c.push_unit.new.out.items _ c.loop-place.invariant c.in_err-push_unit.ensures.err)

pub loop-place-preserved : goal.loop-place-preserved
loop-place-preserved c =
    let s = c.args.schema.now in
    let counts = c.args.counts.now in
    let units = c.args.units.now in
    let place = c.loop-place.place in
    let cells = c.cells-cells.result in
    let code = code_of c.args.spine.now (get_or units place 0) in
    let f : ℕ → List ℕ = λ p. table_rows s (code_of c.args.spine.now (get_or units p 0)) (table_at s counts p) in
    let part = between (place * cells) (place * cells + cells) counts in
    let fits = part_fits cells (cell_count s) place (length units) (length counts) c.cells-cells.ensures.count c.requires.counts c.loop-place-test.true in
    one_more f place c.args.out.now.items c.loop-place.out.items c.push_unit.new.out.items _ c.loop-place.invariant c.in_ok-push_unit.ensures.ok
    (ap (λ text. flat_map (λ j. count_row text j (get_or part j 0)) (range_with_len 0 (length part))) c.code.ensures.code
    ∙ part_rows s code counts place (place * cells) cells c.cells-cells.ensures.count refl fits)
