use Rattle.std.proofs.Common.{◌++◌, [], None, refl, sym, subst}
use Rattle.std.specs.Prelude.{IfErr, OnOk}
use Rattle.std.proofs.lemmas.List.{append-nil}
use Rattle.std.proofs.lemmas.Result.{err_from_is_err_and, on_ok_weaker}
use Rattle.tda_model.specs.Spine.{nation_of}
use Rattle.tda_prices.specs.Left.{Reads, Stops}
use Rattle.tda_prices.specs.Parts.{state_rows, kind_rows, group_rows}
use Rattle.tda_prices.specs.PricesText.{fit_places}
use Rattle.tda_prices.proofs.PartRows.{root_rows}
use Rattle.tda_prices.proofs.Reading.{err_weaker, read_part, reads_none, stop_part}
use Rattle.tda_prices.proofs.reader.read_root.Goals as goal

pub returns-in_err-read_states-clause-err : goal.returns-in_err-read_states-clause-err
returns-in_err-read_states-clause-err c =
    let s = c.args.schema.now in
    let sp = c.args.spine.now in
    let whole = fit_places s sp None in
    let split = root_rows s sp in
    let why = c.in_err-read_states.field-0.0 in
    let p = err_from_is_err_and c.from_residual.result c.from_residual.ensures.1 in
    rw (p.1, p.2)
    (stop_part whole (whole) (state_rows sp) (kind_rows s sp ++ (group_rows s sp None (nation_of sp))) c.args.rows.now c.args.rows.now c.args.prices.now.items c.args.prices.now.items split (reads_none whole c.args.rows.now c.args.prices.now.items c.requires.some) why c.in_err-read_states.ensures.err)

pub returns-in_err-read_kinds-clause-err : goal.returns-in_err-read_kinds-clause-err
returns-in_err-read_kinds-clause-err c =
    let s = c.args.schema.now in
    let sp = c.args.spine.now in
    let whole = fit_places s sp None in
    let split = root_rows s sp in
    let step0 = read_part whole (whole) (state_rows sp) (kind_rows s sp ++ (group_rows s sp None (nation_of sp))) c.args.rows.now c.args.rows.now c.args.prices.now.items c.args.prices.now.items split (reads_none whole c.args.rows.now c.args.prices.now.items c.requires.some) c.read_states.new.rows c.read_states.new.prices.items c.in_ok-read_states.ensures.ok in
    let why = c.in_err-read_kinds.field-0.0 in
    let p = err_from_is_err_and c.from_residual-in_err-read_kinds.result c.from_residual-in_err-read_kinds.ensures.1 in
    rw (p.1, p.2)
    (stop_part whole (kind_rows s sp ++ (group_rows s sp None (nation_of sp))) (kind_rows s sp) (group_rows s sp None (nation_of sp)) c.args.rows.now c.read_states.new.rows c.args.prices.now.items c.read_states.new.prices.items refl step0 why c.in_err-read_kinds.ensures.err)

pub returns-clause-ok : goal.returns-clause-ok
returns-clause-ok c =
    let s = c.args.schema.now in
    let sp = c.args.spine.now in
    let whole = fit_places s sp None in
    let split = root_rows s sp in
    let step0 = read_part whole (whole) (state_rows sp) (kind_rows s sp ++ (group_rows s sp None (nation_of sp))) c.args.rows.now c.args.rows.now c.args.prices.now.items c.args.prices.now.items split (reads_none whole c.args.rows.now c.args.prices.now.items c.requires.some) c.read_states.new.rows c.read_states.new.prices.items c.in_ok-read_states.ensures.ok in
    let step1 = read_part whole (kind_rows s sp ++ (group_rows s sp None (nation_of sp))) (kind_rows s sp) (group_rows s sp None (nation_of sp)) c.args.rows.now c.read_states.new.rows c.args.prices.now.items c.read_states.new.prices.items refl step0 c.read_kinds.new.rows c.read_kinds.new.prices.items c.in_ok-read_kinds.ensures.ok in
    on_ok_weaker c.read_groups.result
    (λ last. read_part whole (group_rows s sp None (nation_of sp)) (group_rows s sp None (nation_of sp)) [] c.args.rows.now c.read_kinds.new.rows c.args.prices.now.items c.read_kinds.new.prices.items (sym (append-nil (group_rows s sp None (nation_of sp)))) step1 c.read_groups.new.rows c.read_groups.new.prices.items last)
    (subst (λ u. OnOk c.read_groups.result (Reads (group_rows s sp None u) [] c.read_kinds.new.rows c.read_groups.new.rows c.read_kinds.new.prices.items c.read_groups.new.prices.items)) c.nation.ensures.nation c.read_groups.ensures.ok)

pub returns-clause-err : goal.returns-clause-err
returns-clause-err c =
    let s = c.args.schema.now in
    let sp = c.args.spine.now in
    let whole = fit_places s sp None in
    let split = root_rows s sp in
    let step0 = read_part whole (whole) (state_rows sp) (kind_rows s sp ++ (group_rows s sp None (nation_of sp))) c.args.rows.now c.args.rows.now c.args.prices.now.items c.args.prices.now.items split (reads_none whole c.args.rows.now c.args.prices.now.items c.requires.some) c.read_states.new.rows c.read_states.new.prices.items c.in_ok-read_states.ensures.ok in
    let step1 = read_part whole (kind_rows s sp ++ (group_rows s sp None (nation_of sp))) (kind_rows s sp) (group_rows s sp None (nation_of sp)) c.args.rows.now c.read_states.new.rows c.args.prices.now.items c.read_states.new.prices.items refl step0 c.read_kinds.new.rows c.read_kinds.new.prices.items c.in_ok-read_kinds.ensures.ok in
    err_weaker c.read_groups.result
    (λ why stops. stop_part whole (group_rows s sp None (nation_of sp)) (group_rows s sp None (nation_of sp)) [] c.args.rows.now c.read_kinds.new.rows c.args.prices.now.items c.read_kinds.new.prices.items (sym (append-nil (group_rows s sp None (nation_of sp)))) step1 why stops)
    (subst (λ u. IfErr c.read_groups.result (Stops (group_rows s sp None u) c.read_kinds.new.rows)) c.nation.ensures.nation c.read_groups.ensures.err)
