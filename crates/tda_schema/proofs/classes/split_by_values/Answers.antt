use Rattle.std.proofs.Common.{◌≡◌, ◌∙◌, ◌==◌, ap, sym, subst, length, arith, refl, IfOk}
use Rattle.tda_model.specs.Schema.{Attribute_values}
use Rattle.tda_sets.specs.Family.{family_of, is_member, are_alike}
use Rattle.tda_schema.specs.Digits.{AreDigits}
use Rattle.tda_schema.specs.Readers.{values_of}
use Rattle.tda_schema.proofs.ColumnLemmas.{columns_length, column_length, column_values}
use Rattle.tda_schema.proofs.DigitLemmas.{split_is, few_values}
use Rattle.tda_schema.proofs.classes.split_by_values.Goals as goal
use Rattle.tda_schema.proofs.classes.split_by_values.Goals.{In_ok-digits, After-deref}

pub value_digits-requires : goal.value_digits-requires
value_digits-requires c = omega (arith, c.count_values.ensures, few_values c.args.stated.now c.requires.looked_up.limits c.args.attribute c.requires.attribute)

pub of-requires : goal.of-requires
of-requires c = omega (arith, columns_length c.args.stated.now.attributes c.args.columns.now c.requires.columns, c.requires.attribute)

digits : (c : After-deref) → AreDigits (length (values_of c.args.stated.now c.args.attribute)) (λ v w. v == w) c.deref.result.now
digits c =
    subst (λ ds. AreDigits (length (values_of c.args.stated.now c.args.attribute)) (λ v w. v == w) ds) (sym c.deref.ensures.value)
    (subst (λ n. AreDigits n (λ v w. v == w) c.in_ok-digits.digits.items) c.count_values.ensures c.in_ok-digits.ensures)

pub split-requires-clause-one_each : goal.split-requires-clause-one_each
split-requires-clause-one_each c =
    let s = c.args.stated.now in
    ap length c.of.ensures ∙ column_length s.attributes c.args.columns.now c.requires.columns c.args.attribute c.requires.attribute ∙ sym c.requires.cells

pub split-requires-clause-values : goal.split-requires-clause-values
split-requires-clause-values c =
    let s = c.args.stated.now in
    rw (c.of.ensures, (digits c).room) (column_values s c.args.attribute c.requires.attribute c.requires.looked_up.limits c.args.columns.now c.requires.columns)

pub split-requires-clause-few : goal.split-requires-clause-few
split-requires-clause-few c = omega (arith, (digits c).room, few_values c.args.stated.now c.requires.looked_up.limits c.args.attribute c.requires.attribute)

pub returns : goal.returns
returns c =
    let s = c.args.stated.now in
    let names = c.args.family.now in
    let a = c.args.attribute in
    let d = (goal.at.returns c).After-deref in
    let is = split_is s a c.requires.attribute c.requires.looked_up.limits c.args.columns.now c.requires.columns names c.requires.cells c.deref.result.now (λ v w. v == w) (Attribute_values a) (digits d) (λ i j low high. refl) in
    subst (λ x. IfOk c.split.result (λ f. f ≡ x)) (ap (λ col. family_of (length names) (is_member names) (are_alike names col c.deref.result.now)) c.of.ensures ∙ is) c.split.ensures
