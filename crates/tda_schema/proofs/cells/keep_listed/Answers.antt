use Rattle.std.proofs.Common.{◌≡◌, ◌==◌, ◌∙◌, ◌&&◌, ap, sym, length, get_or, false, arith, [], map}
use Rattle.std.specs.List.{list_any, range_with_len}
use Rattle.std.proofs.lemmas.List.FromFn.{length-map-range_with_len}
use Rattle.tda_model.specs.Schema.{Listed}
use Rattle.tda_schema.specs.Readers.{values_of}
use Rattle.tda_schema.proofs.ColumnLemmas.{columns_length, column_length, column_values, listed_kept}
use Rattle.tda_schema.proofs.cells.keep_listed.Goals as goal
use Rattle.tda_schema.proofs.cells.keep_listed.Goals.{In_ok-marks, After-deref-2}

attribute : (c : In_ok-marks) → c.listed.inside.attribute ≡ c.args.listed.now.attribute
attribute c = ap (λ (l : Listed). l.attribute) c.listed.view_is

counted : (c : In_ok-marks) → c.count_values-count.result ≡ length (values_of c.args.stated.now c.args.listed.now.attribute)
counted c = c.count_values-count.ensures ∙ ap (λ a. length (values_of c.args.stated.now a)) (attribute c)

marked : (c : In_ok-marks) → c.in_ok-marks.marks.items ≡ map (λ v. list_any (λ w. w == v) c.args.listed.now.values) (range_with_len 0 c.count_values-count.result)
marked c =
    c.in_ok-marks.ensures
    ∙ ap (λ vs. map (λ v. list_any (λ w. w == v) vs) (range_with_len 0 c.count_values-count.result)) (c.deref.ensures.value ∙ ap (λ (l : Listed). l.values) c.listed.view_is)

column : (c : After-deref-2) → c.of.result.now ≡ get_or c.args.columns.now c.args.listed.now.attribute []
column c = c.of.ensures ∙ ap (λ a. get_or c.args.columns.now a []) (attribute ((goal.at.After-deref-2 c).In_ok-marks))

pub of-requires : goal.of-requires
of-requires c =
    let s = c.args.stated.now in
    let few = columns_length s.attributes c.args.columns.now c.requires.columns in
    omega (arith, few, attribute ((goal.at.of-requires c).In_ok-marks), c.requires.listed.attribute)

pub keep_marked-requires-clause-one_each : goal.keep_marked-requires-clause-one_each
keep_marked-requires-clause-one_each c =
    let s = c.args.stated.now in
    ap length (column c) ∙ column_length s.attributes c.args.columns.now c.requires.columns c.args.listed.now.attribute c.requires.listed.attribute ∙ sym c.requires.cells

pub keep_marked-requires-clause-values : goal.keep_marked-requires-clause-values
keep_marked-requires-clause-values c =
    let s = c.args.stated.now in
    let a = c.args.listed.now.attribute in
    let d = (goal.at.After-deref-2 c).In_ok-marks in
    let marks : length c.deref-2.result.now ≡ length (values_of s a) =
    ap length (c.deref-2.ensures.value ∙ marked d) ∙ length-map-range_with_len (λ v. list_any (λ w. w == v) c.args.listed.now.values) 0 c.count_values-count.result ∙ counted d in
    rw (column c, marks) (column_values s a c.requires.listed.attribute c.requires.looked_up.limits c.args.columns.now c.requires.columns)

pub returns : goal.returns
returns c =
    let s = c.args.stated.now in
    let a = c.args.listed.now.attribute in
    let cells = c.args.cells.now in
    let d = (goal.at.returns c).After-deref-2 in
    let e = (goal.at.After-deref-2 d).In_ok-marks in
    c.keep_marked.ensures
    ∙ ap (λ col. map (λ i. get_or cells i false && get_or c.deref-2.result.now (get_or col i 0) false) (range_with_len 0 (length cells))) (column d)
    ∙ ap (λ ms. map (λ i. get_or cells i false && get_or ms (get_or (get_or c.args.columns.now a []) i 0) false) (range_with_len 0 (length cells))) c.deref-2.ensures.value
    ∙ listed_kept s a c.requires.listed.attribute c.requires.looked_up.limits c.args.columns.now c.requires.columns
    c.args.listed.now.values c.count_values-count.result c.in_ok-marks.marks.items cells (counted e) (marked e) c.requires.cells
