use Rattle.std.proofs.Common.{◌≡◌, ◌∙◌, ap, sym, subst, length, get_or, map, string_bytes, arith, [], IfOk}
use Rattle.std.proofs.lemmas.List.{length-map}
use Rattle.tda_model.specs.Schema.{Recode, Schema, Recode_labels}
use Rattle.tda_sets.specs.Family.{family_of, is_member, are_alike}
use Rattle.tda_schema.specs.Digits.{AreDigits, labelled_alike}
use Rattle.tda_schema.specs.Readers.{values_of}
use Rattle.tda_schema.specs.Stated.{IsRecodeOf}
use Rattle.tda_schema.proofs.ColumnLemmas.{columns_length, column_length, column_values}
use Rattle.tda_schema.proofs.DigitLemmas.{split_is, labels_tell, few_values}
use Rattle.tda_schema.proofs.classes.split_by_labels.Goals as goal
use Rattle.tda_schema.proofs.classes.split_by_labels.Goals.{In_ok-digits, After-deref-2}

-- the recode of the number
is : (c : In_ok-digits) → c.index-recode.result.now ≡ get_or c.args.stated.now.recodes c.args.recode c.index-recode.result.now
is c = c.index-recode.ensures ∙ ap (λ (s : Schema). get_or s.recodes c.args.recode c.index-recode.result.now) c.stated.view_is

known : (c : In_ok-digits) → IsRecodeOf c.args.stated.now c.index-recode.result.now
known c = subst (IsRecodeOf c.args.stated.now) (sym (is c)) (c.requires.looked_up.recodes c.args.recode c.index-recode.result.now c.requires.recode)

of : (c : In_ok-digits) → c.recode.inside.of ≡ c.index-recode.result.now.of
of c = ap (λ (r : Recode). r.of) c.recode.view_is

labels : (c : In_ok-digits) → map string_bytes c.deref.result.now ≡ c.index-recode.result.now.labels
labels c = ap (map string_bytes) c.deref.ensures.value ∙ ap (λ (r : Recode). r.labels) c.recode.view_is

digits : (c : In_ok-digits) → AreDigits (length (values_of c.args.stated.now c.index-recode.result.now.of)) (labelled_alike c.index-recode.result.now.labels) c.in_ok-digits.digits.items
digits c =
    let counted : length c.deref.result.now ≡ length (values_of c.args.stated.now c.index-recode.result.now.of) =
    sym (length-map c.deref.result.now string_bytes) ∙ ap length (labels c) ∙ (known c).labels in
    subst (λ n. AreDigits n (labelled_alike c.index-recode.result.now.labels) c.in_ok-digits.digits.items) counted
    (subst (λ ls. AreDigits (length c.deref.result.now) (labelled_alike ls) c.in_ok-digits.digits.items) (labels c) c.in_ok-digits.ensures)

column : (c : After-deref-2) → c.of.result.now ≡ get_or c.args.columns.now c.index-recode.result.now.of []
column c = c.of.ensures ∙ ap (λ a. get_or c.args.columns.now a []) (of ((goal.at.After-deref-2 c).In_ok-digits))

pub of-requires : goal.of-requires
of-requires c =
    let few = columns_length c.args.stated.now.attributes c.args.columns.now c.requires.columns in
    omega (arith, few, of c, (known c).of)

pub split-requires-clause-one_each : goal.split-requires-clause-one_each
split-requires-clause-one_each c =
    let s = c.args.stated.now in
    ap length (column c) ∙ column_length s.attributes c.args.columns.now c.requires.columns c.index-recode.result.now.of (known ((goal.at.split-requires-clause-one_each c).In_ok-digits)).of ∙ sym c.requires.cells

pub split-requires-clause-values : goal.split-requires-clause-values
split-requires-clause-values c =
    let s = c.args.stated.now in
    let d = (goal.at.split-requires-clause-values c).In_ok-digits in
    rw (column c, c.deref-2.ensures.value, (digits d).room) (column_values s c.index-recode.result.now.of (known d).of c.requires.looked_up.limits c.args.columns.now c.requires.columns)

pub split-requires-clause-few : goal.split-requires-clause-few
split-requires-clause-few c =
    let d = (goal.at.split-requires-clause-few c).In_ok-digits in
    omega (arith, ap length c.deref-2.ensures.value, (digits d).room, few_values c.args.stated.now c.requires.looked_up.limits c.index-recode.result.now.of (known d).of)

pub returns : goal.returns
returns c =
    let s = c.args.stated.now in
    let names = c.args.family.now in
    let x = c.index-recode.result.now in
    let e = (goal.at.returns c).After-deref-2 in
    let d = (goal.at.After-deref-2 e).In_ok-digits in
    let columns = c.args.columns.now in
    let made = split_is s x.of (known d).of c.requires.looked_up.limits columns c.requires.columns names c.requires.cells c.in_ok-digits.digits.items (labelled_alike x.labels) (Recode_labels c.args.recode) (digits d)
    (labels_tell s c.args.recode x c.requires.recode (is d) (known d) (known d).of c.requires.looked_up.limits) in
    subst (λ y. IfOk c.split.result (λ f. f ≡ y))
    (ap (λ col. family_of (length names) (is_member names) (are_alike names col c.deref-2.result.now)) (column e)
    ∙ ap (λ ds. family_of (length names) (is_member names) (are_alike names (get_or columns x.of []) ds)) c.deref-2.ensures.value ∙ made) c.split.ensures
