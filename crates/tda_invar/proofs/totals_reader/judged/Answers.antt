use Rattle.std.proofs.Common.{◌≡◌, ◌∙◌, ◌≤◌, Bool, true, false, not, is_some, find, get_or, None, length, map, unwrap_or, sum, sum_by, nat_lt, ltb, sym, ap, Ok, arith}
use Rattle.std.proofs.lemmas.Bool.{lt-ltb, le-ltb}
use Rattle.std.proofs.lemmas.List.{length-map}
use Rattle.tda_io.specs.Csv.{after_header}
use Rattle.tda_model.specs.Bounds.{persons_limit}
use Rattle.tda_model.specs.Spine.{units_at}
use Rattle.tda_invar.specs.Totals.{first_missing, has_too_many, persons_of}
use Rattle.tda_invar.proofs.TotalRows.{states_entered, missing_is, totals_are, sum_small, totals_within, judged_missing, judged_many, judged_ok}
use Rattle.tda_invar.proofs.totals_reader.judged.Goals as goal

pub first_missing-requires : goal.first_missing-requires
first_missing-requires c =
    rw (c.at_level-states.ensures, c.deref.ensures.value)
    (states_entered c.args.spine.now (after_header c.args.rows.now) c.in_ok-entries.entries.items c.in_ok-entries.ensures.ok)

pub returns-in-Some-clause-given : goal.returns-in-Some-clause-given
returns-in-Some-clause-given c = λ _.
    let sp = c.args.spine.now in
    let rows = after_header c.args.rows.now in
    let first = rw (c.deref.ensures.value, c.at_level-states.ensures) at c.in-Some.ensures in
    judged_missing sp c.args.rows.now (sym c.if-not-has_header.ensures.header) c.in_ok-entries.ensures.fine c.in-Some.state
    (sym (missing_is sp rows c.in_ok-entries.entries.items c.in_ok-entries.ensures.ok) ∙ sym first)

pub sum_of-requires : goal.sum_of-requires
sum_of-requires c =
    let small = sum_small c.args.spine.now (after_header c.args.rows.now) c.in_ok-entries.entries.items c.in_ok-entries.ensures.ok in
    rw c.deref-2.ensures.value (omega (arith, small, c.in_ok-entries.ensures.sound.few))

pub returns-then-sum_of-gt-PERSONS-clause-given : goal.returns-then-sum_of-gt-PERSONS-clause-given
returns-then-sum_of-gt-PERSONS-clause-given c = λ _.
    let sp = c.args.spine.now in
    let rows = after_header c.args.rows.now in
    let entries = c.in_ok-entries.entries.items in
    let none = rw (c.deref.ensures.value, c.at_level-states.ensures) at c.in_default.ensures in
    let sums : c.sum_of.result ≡ sum_by persons_of rows = rw c.deref-2.ensures.value at c.sum_of.ensures ∙ c.in_ok-entries.ensures.ok.whole in
    judged_many sp c.args.rows.now (sym c.if-not-has_header.ensures.header) c.in_ok-entries.ensures.fine
    (sym (missing_is sp rows entries c.in_ok-entries.ensures.ok) ∙ sym none)
    (lt-ltb persons_limit (sum_by persons_of rows) (omega (arith, sums, c.if-sum_of-gt-PERSONS.true)))

pub numbers_of-requires : goal.numbers_of-requires
numbers_of-requires c =
    rw (c.at_level-states.ensures, c.deref-3.ensures.value)
    (states_entered c.args.spine.now (after_header c.args.rows.now) c.in_ok-entries.entries.items c.in_ok-entries.ensures.ok)

pub from_list-requires : goal.from_list-requires
from_list-requires c =
    let sp = c.args.spine.now in
    let rows = after_header c.args.rows.now in
    let entries = c.in_ok-entries.entries.items in
    let numbers = rw (c.deref-3.ensures.value, c.at_level-states.ensures) at c.in_ok-numbers.ensures in
    let sums : c.sum_of.result ≡ sum_by (λ e. unwrap_or e 0) entries = rw c.deref-2.ensures.value at c.sum_of.ensures in
    let within = totals_within sp rows entries c.in_ok-entries.ensures.ok in
    record {
      size = ap length numbers ∙ length-map (units_at sp 1) (λ u. unwrap_or (get_or entries u None) 0);
      few = rw numbers (omega (arith, within, sums, c.if-sum_of-gt-PERSONS.false));
    }

pub returns-clause-given : goal.returns-clause-given
returns-clause-given c =
    let sp = c.args.spine.now in
    let rows = after_header c.args.rows.now in
    let entries = c.in_ok-entries.entries.items in
    let none = rw (c.deref.ensures.value, c.at_level-states.ensures) at c.in_default.ensures in
    let numbers = rw (c.deref-3.ensures.value, c.at_level-states.ensures) at c.in_ok-numbers.ensures in
    let sums : c.sum_of.result ≡ sum_by persons_of rows = rw c.deref-2.ensures.value at c.sum_of.ensures ∙ c.in_ok-entries.ensures.ok.whole in
    judged_ok sp c.args.rows.now (sym c.if-not-has_header.ensures.header) c.in_ok-entries.ensures.fine
    (sym (missing_is sp rows entries c.in_ok-entries.ensures.ok) ∙ sym none)
    (le-ltb persons_limit (sum_by persons_of rows) (omega (arith, sums, c.if-sum_of-gt-PERSONS.false)))
    ∙ ap Ok (sym (c.from_list.ensures ∙ numbers ∙ totals_are sp rows entries c.in_ok-entries.ensures.ok))
