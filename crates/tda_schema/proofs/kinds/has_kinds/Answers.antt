use Rattle.std.proofs.Common.{◌∙◌, ap, sym, length, map, arith}
use Rattle.std.specs.List.{list_all, list_any, range_with_len}
use Rattle.tda_schema.proofs.ColumnLemmas.{columns_length, column_values}
use Rattle.tda_schema.proofs.KindMarks.{has_kind, kinds_length, possible_length, marks_tell}
use Rattle.tda_schema.proofs.kinds.has_kinds.Goals as goal

pub count_values-count-requires : goal.count_values-count-requires
count_values-count-requires c = c.requires.looked_up.limits.some_attribute

pub of-requires : goal.of-requires
of-requires c =
    let few = columns_length c.args.stated.now.attributes c.args.columns.now c.requires.columns in
    omega (arith, few, c.requires.looked_up.limits.some_attribute)

pub kind_marks-requires-clause-one_each : goal.kind_marks-requires-clause-one_each
kind_marks-requires-clause-one_each c =
    let s = c.args.stated.now in
    let limits = c.requires.looked_up.limits in
    possible_length s limits c.args.columns.now c.requires.columns c.args.possible.now c.requires.possible
    ∙ sym (ap length c.of.ensures ∙ kinds_length s limits c.args.columns.now c.requires.columns c.args.possible.now c.requires.possible)

pub kind_marks-requires-clause-kinds : goal.kind_marks-requires-clause-kinds
kind_marks-requires-clause-kinds c =
    let limits = c.requires.looked_up.limits in
    rw (c.of.ensures, c.count_values-count.ensures) (column_values c.args.stated.now 0 limits.some_attribute limits c.args.columns.now c.requires.columns)

pub returns : goal.returns
returns c =
    let s = c.args.stated.now in
    let possible = c.args.possible.now in
    let count = c.count_values-count.result in
    let tells = marks_tell s c.requires.looked_up.limits c.args.columns.now c.requires.columns possible c.requires.possible count c.in_ok-marks.marks.items c.count_values-count.ensures in
    c.all_marked.ensures ∙ ap (list_all (λ m. m)) c.deref.ensures.value
    ∙ tells (c.in_ok-marks.ensures ∙ ap (λ kinds. map (λ k. list_any (has_kind possible kinds k) (range_with_len 0 (length kinds))) (range_with_len 0 count)) c.of.ensures)
