use Rattle.std.proofs.Common.{◌≡◌, ◌∙◌, ◌+◌, ◌*◌, ◌-◌, is_some, sym, ap, take, get_or, Some, None, [], arith}
use Rattle.tda_io.specs.Csv.{after_header}
use Rattle.tda_invar.specs.Fields.{IsNamed, count_named}
use Rattle.tda_invar.specs.Facilities.{block_in, kind_in, kind_named, facilities_limit}
use Rattle.tda_invar.specs.declared.fac_fault.FacFault.TheVariants.{UnknownKind, Household, BadCount, Repeated}
use Rattle.tda_invar.proofs.RowNumbers.{number_is}
use Rattle.tda_invar.proofs.TotalRows.{count_small}
use Rattle.tda_invar.proofs.FacilityRows.{is_repeated_by, says, fault_kind, fault_household, fault_count, fault_again, no_fault}
use Rattle.tda_invar.proofs.facilities_reader.judge.Goals as goal

pub returns-in_default-find_kind-clause-err : goal.returns-in_default-find_kind-clause-err
returns-in_default-find_kind-clause-err c =
    let s = c.args.schema.now in
    let sp = c.args.spine.now in
    let earlier = take c.args.row (after_header c.args.rows.now) in
    let row = get_or (after_header c.args.rows.now) c.args.row [] in
    let last : c.levels.result ≡ sp.depth = c.levels.ensures.count ∙ sym c.requires.belong in
    let block : IsNamed sp (sp.depth - 1) (block_in row) c.in-Some.block = rw (c.field.ensures, last) at c.in-Some.ensures.some in
    fault_kind s sp row earlier c.in-Some.block block (ap (kind_named s) (sym c.field-2.ensures) ∙ sym c.in_default-find_kind.ensures.value)
    ∙ ap (λ n. Some (UnknownKind n)) (number_is c.args.rows.now c.args.row c.requires.row)

pub returns-then-kind-eq-HOUSEHOLD-clause-err : goal.returns-then-kind-eq-HOUSEHOLD-clause-err
returns-then-kind-eq-HOUSEHOLD-clause-err c =
    let s = c.args.schema.now in
    let sp = c.args.spine.now in
    let earlier = take c.args.row (after_header c.args.rows.now) in
    let row = get_or (after_header c.args.rows.now) c.args.row [] in
    let last : c.levels.result ≡ sp.depth = c.levels.ensures.count ∙ sym c.requires.belong in
    let block : IsNamed sp (sp.depth - 1) (block_in row) c.in-Some.block = rw (c.field.ensures, last) at c.in-Some.ensures.some in
    let named : kind_named s (kind_in row) ≡ Some c.in-Some-find_kind.kind = ap (kind_named s) (sym c.field-2.ensures) ∙ sym c.in-Some-find_kind.ensures.value in
    fault_household s sp row earlier c.in-Some.block block (named ∙ ap Some c.if-kind-eq-HOUSEHOLD.true)
    ∙ ap (λ n. Some (Household n)) (number_is c.args.rows.now c.args.row c.requires.row)

pub returns-in_default-count_named-clause-err : goal.returns-in_default-count_named-clause-err
returns-in_default-count_named-clause-err c =
    let s = c.args.schema.now in
    let sp = c.args.spine.now in
    let earlier = take c.args.row (after_header c.args.rows.now) in
    let row = get_or (after_header c.args.rows.now) c.args.row [] in
    let last : c.levels.result ≡ sp.depth = c.levels.ensures.count ∙ sym c.requires.belong in
    let block : IsNamed sp (sp.depth - 1) (block_in row) c.in-Some.block = rw (c.field.ensures, last) at c.in-Some.ensures.some in
    let named : kind_named s (kind_in row) ≡ Some c.in-Some-find_kind.kind = ap (kind_named s) (sym c.field-2.ensures) ∙ sym c.in-Some-find_kind.ensures.value in
    fault_count s sp row earlier c.in-Some.block block c.in-Some-find_kind.kind named c.if-kind-eq-HOUSEHOLD.false
    (ap (count_named facilities_limit) (sym c.field-3.ensures) ∙ sym c.in_default-count_named.ensures)
    ∙ ap (λ n. Some (BadCount n)) (number_is c.args.rows.now c.args.row c.requires.row)

pub returns-then-has_entry-clause-err : goal.returns-then-has_entry-clause-err
returns-then-has_entry-clause-err c =
    let s = c.args.schema.now in
    let sp = c.args.spine.now in
    let earlier = take c.args.row (after_header c.args.rows.now) in
    let row = get_or (after_header c.args.rows.now) c.args.row [] in
    let last : c.levels.result ≡ sp.depth = c.levels.ensures.count ∙ sym c.requires.belong in
    let block : IsNamed sp (sp.depth - 1) (block_in row) c.in-Some.block = rw (c.field.ensures, last) at c.in-Some.ensures.some in
    let named : kind_named s (kind_in row) ≡ Some c.in-Some-find_kind.kind = ap (kind_named s) (sym c.field-2.ensures) ∙ sym c.in-Some-find_kind.ensures.value in
    let counts = ap (count_named facilities_limit) (sym c.field-3.ensures) ∙ sym c.in-Some-count_named.ensures in
    let k = c.in-Some-find_kind.kind in
    let again = is_repeated_by s sp row c.in-Some.block k (sp.depth - 1) block named c.in-Some-find_kind.ensures.in_range earlier c.args.entries.now c.requires.gathered in
    let entry = ap (λ p. is_some (get_or c.args.entries.now p None)) c.place_of-place.ensures.place in
    fault_again s sp row earlier c.in-Some.block block k named c.if-kind-eq-HOUSEHOLD.false c.in-Some-count_named.count counts
    (sym again ∙ sym entry ∙ sym c.if-has_entry.ensures)
    ∙ ap (λ n. Some (Repeated n)) (number_is c.args.rows.now c.args.row c.requires.row)

pub overflow_cast-result : goal.overflow_cast-result
overflow_cast-result c =
    let small = count_small facilities_limit c.field-3.result.now c.in-Some-count_named.count (sym c.in-Some-count_named.ensures) in
    omega (arith, small)

pub returns-clause-ok : goal.returns-clause-ok
returns-clause-ok c =
    let s = c.args.schema.now in
    let sp = c.args.spine.now in
    let earlier = take c.args.row (after_header c.args.rows.now) in
    let row = get_or (after_header c.args.rows.now) c.args.row [] in
    let last : c.levels.result ≡ sp.depth = c.levels.ensures.count ∙ sym c.requires.belong in
    let block : IsNamed sp (sp.depth - 1) (block_in row) c.in-Some.block = rw (c.field.ensures, last) at c.in-Some.ensures.some in
    let named : kind_named s (kind_in row) ≡ Some c.in-Some-find_kind.kind = ap (kind_named s) (sym c.field-2.ensures) ∙ sym c.in-Some-find_kind.ensures.value in
    let counts = ap (count_named facilities_limit) (sym c.field-3.ensures) ∙ sym c.in-Some-count_named.ensures in
    let k = c.in-Some-find_kind.kind in
    let again = is_repeated_by s sp row c.in-Some.block k (sp.depth - 1) block named c.in-Some-find_kind.ensures.in_range earlier c.args.entries.now c.requires.gathered in
    let entry = ap (λ p. is_some (get_or c.args.entries.now p None)) c.place_of-place.ensures.place in
    rw c.place_of-place.ensures.place
    (says s sp row c.in-Some.block k (sp.depth - 1) block named c.in-Some-find_kind.ensures.in_range c.requires.sound earlier c.in-Some-count_named.count
    (sym again ∙ sym entry ∙ sym c.if-has_entry.ensures) counts)

pub returns-clause-fine : goal.returns-clause-fine
returns-clause-fine c =
    let s = c.args.schema.now in
    let sp = c.args.spine.now in
    let earlier = take c.args.row (after_header c.args.rows.now) in
    let row = get_or (after_header c.args.rows.now) c.args.row [] in
    let last : c.levels.result ≡ sp.depth = c.levels.ensures.count ∙ sym c.requires.belong in
    let block : IsNamed sp (sp.depth - 1) (block_in row) c.in-Some.block = rw (c.field.ensures, last) at c.in-Some.ensures.some in
    let named : kind_named s (kind_in row) ≡ Some c.in-Some-find_kind.kind = ap (kind_named s) (sym c.field-2.ensures) ∙ sym c.in-Some-find_kind.ensures.value in
    let counts = ap (count_named facilities_limit) (sym c.field-3.ensures) ∙ sym c.in-Some-count_named.ensures in
    let k = c.in-Some-find_kind.kind in
    let again = is_repeated_by s sp row c.in-Some.block k (sp.depth - 1) block named c.in-Some-find_kind.ensures.in_range earlier c.args.entries.now c.requires.gathered in
    let entry = ap (λ p. is_some (get_or c.args.entries.now p None)) c.place_of-place.ensures.place in
    no_fault s sp row earlier c.in-Some.block block k named c.if-kind-eq-HOUSEHOLD.false c.in-Some-count_named.count counts
    (sym again ∙ sym entry ∙ sym c.if-has_entry.ensures)
