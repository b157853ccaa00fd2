use Rattle.std.proofs.Common.{◌≡◌, ◌∙◌, sym, ap, take, get_or, Some, []}
use Rattle.tda_io.specs.Csv.{after_header}
use Rattle.tda_model.specs.Bounds.{persons_limit}
use Rattle.tda_invar.specs.Fields.{IsNamed, count_named}
use Rattle.tda_invar.specs.Totals.{state_in, count_in}
use Rattle.tda_invar.specs.declared.tot_fault.TotFault.TheVariants.{Repeated, BadCount}
use Rattle.tda_invar.proofs.RowNumbers.{number_is}
use Rattle.tda_invar.proofs.TotalRows.{is_repeated_by, no_fault, fault_again, fault_count, says}
use Rattle.tda_invar.proofs.totals_reader.judge.Goals as goal

pub returns-then-has_entry-clause-err : goal.returns-then-has_entry-clause-err
returns-then-has_entry-clause-err c =
    let sp = c.args.spine.now in
    let earlier = take c.args.row (after_header c.args.rows.now) in
    let row = get_or (after_header c.args.rows.now) c.args.row [] in
    let state : IsNamed sp 1 (state_in row) c.in-Some.state = rw c.field.ensures at c.in-Some.ensures.some in
    let same = is_repeated_by sp earlier row c.args.entries.now c.in-Some.state c.requires.gathered state in
    fault_again sp earlier row c.in-Some.state state (sym same ∙ sym c.if-has_entry.ensures)
    ∙ ap (λ n. Some (Repeated n)) (number_is c.args.rows.now c.args.row c.requires.row)

pub returns-in_default-count_named-clause-err : goal.returns-in_default-count_named-clause-err
returns-in_default-count_named-clause-err c =
    let sp = c.args.spine.now in
    let earlier = take c.args.row (after_header c.args.rows.now) in
    let row = get_or (after_header c.args.rows.now) c.args.row [] in
    let state : IsNamed sp 1 (state_in row) c.in-Some.state = rw c.field.ensures at c.in-Some.ensures.some in
    let same = is_repeated_by sp earlier row c.args.entries.now c.in-Some.state c.requires.gathered state in
    fault_count sp earlier row c.in-Some.state state (sym same ∙ sym c.if-has_entry.ensures)
    (ap (count_named persons_limit) (sym c.field-2.ensures) ∙ sym c.in_default-count_named.ensures)
    ∙ ap (λ n. Some (BadCount n)) (number_is c.args.rows.now c.args.row c.requires.row)

pub returns-clause-ok : goal.returns-clause-ok
returns-clause-ok c =
    let sp = c.args.spine.now in
    let earlier = take c.args.row (after_header c.args.rows.now) in
    let row = get_or (after_header c.args.rows.now) c.args.row [] in
    let state : IsNamed sp 1 (state_in row) c.in-Some.state = rw c.field.ensures at c.in-Some.ensures.some in
    let same = is_repeated_by sp earlier row c.args.entries.now c.in-Some.state c.requires.gathered state in
    says sp earlier row c.in-Some.state state c.requires.sound c.in-Some-count_named.count (sym same ∙ sym c.if-has_entry.ensures)
    (ap (count_named persons_limit) (sym c.field-2.ensures) ∙ sym c.in-Some-count_named.ensures)

pub returns-clause-fine : goal.returns-clause-fine
returns-clause-fine c =
    let sp = c.args.spine.now in
    let earlier = take c.args.row (after_header c.args.rows.now) in
    let row = get_or (after_header c.args.rows.now) c.args.row [] in
    let state : IsNamed sp 1 (state_in row) c.in-Some.state = rw c.field.ensures at c.in-Some.ensures.some in
    let same = is_repeated_by sp earlier row c.args.entries.now c.in-Some.state c.requires.gathered state in
    no_fault sp earlier row c.in-Some.state state c.in-Some-count_named.count (sym same ∙ sym c.if-has_entry.ensures)
    (ap (count_named persons_limit) (sym c.field-2.ensures) ∙ sym c.in-Some-count_named.ensures)
