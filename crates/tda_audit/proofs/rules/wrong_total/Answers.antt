use Rattle.std.proofs.Common.{◌≡◌, ◌==◌, ◌∙◌, true, false, not, get_or, sym, ap, option_map, arith}
use Rattle.tda_model.specs.Spine.{units_at}
use Rattle.tda_invar.proofs.StatePlaces.{states_are}
use Rattle.tda_invar.specs.Known.{known_of}
use Rattle.tda_spine.proofs.Firsts.{fails_here, passes_here, none_pass, find-map}
use Rattle.tda_out.specs.Counts.{count_at}
use Rattle.tda_audit.specs.Verdicts.{breaks}
use Rattle.tda_audit.specs.declared.verdict.Verdict.TheVariants.{Total}
use Rattle.tda_audit.proofs.Passes.{total_test}
use Rattle.tda_audit.proofs.Rows.{row_here, row_long}
use Rattle.tda_audit.proofs.rules.wrong_total.Goals as goal

pub total-requires : goal.total-requires
total-requires c =
    let below = rw c.at_level-state-items.ensures at c.loop-state-test.true in
    let here = (states_are c.args.spine.now c.loop-state.state-index 0 below).here in
    rw c.at_level-state-items.ensures (omega (arith, here, c.requires.joined.total_units))

pub persons-requires-clause-unit : goal.persons-requires-clause-unit
persons-requires-clause-unit c =
    let below = rw c.at_level-state-items.ensures at c.loop-state-test.true in
    rw c.at_level-state-items.ensures
    (row_here c.args.schema.now c.args.spine.now c.args.tables.now c.requires.counts _ (states_are c.args.spine.now c.loop-state.state-index 0 below).here)

pub persons-requires-clause-cells : goal.persons-requires-clause-cells
persons-requires-clause-cells c =
    let below = rw c.at_level-state-items.ensures at c.loop-state-test.true in
    rw c.at_level-state-items.ensures
    (sym (row_long c.args.schema.now c.args.spine.now c.args.tables.now c.requires.counts _ (states_are c.args.spine.now c.loop-state.state-index 0 below).here))

pub returns-then-ne : goal.returns-then-ne
returns-then-ne c =
    let sp = c.args.spine.now in
    let p = breaks c.args.schema.now sp (known_of sp c.args.inv.now) (count_at c.args.tables.now) in
    let k = c.loop-state.state-index in
    let below = rw c.at_level-state-items.ensures at c.loop-state-test.true in
    let test = total_test sp (known_of sp c.args.inv.now) (get_or (units_at sp 1) k 0) c.persons.result (states_are sp k 0 below).at c.total.result
    (rw c.at_level-state-items.ensures at c.total.ensures.total c.args.schema.now sp c.requires.joined) in
    let persons = rw c.at_level-state-items.ensures at c.persons.ensures in
    let fails : p (Total (get_or (units_at sp 1) k 0)) ≡ true =
    ap (λ n. not (n == (known_of sp c.args.inv.now).total (get_or (units_at sp 1) k 0))) (sym persons) ∙ sym test ∙ sym c.ne.ensures ∙ c.if-ne.true in
    rw c.at_level-state-items.ensures
    (ap (option_map Total) (passes_here (λ st. p (Total st)) (units_at sp 1) k c.loop-state.invariant 0 below fails) ∙ sym (find-map Total p (units_at sp 1)))

pub loop-state-preserved : goal.loop-state-preserved
loop-state-preserved c =
    let sp = c.args.spine.now in
    let p = breaks c.args.schema.now sp (known_of sp c.args.inv.now) (count_at c.args.tables.now) in
    let k = c.loop-state.state-index in
    let below = rw c.at_level-state-items.ensures at c.loop-state-test.true in
    let test = total_test sp (known_of sp c.args.inv.now) (get_or (units_at sp 1) k 0) c.persons.result (states_are sp k 0 below).at c.total.result
    (rw c.at_level-state-items.ensures at c.total.ensures.total c.args.schema.now sp c.requires.joined) in
    let persons = rw c.at_level-state-items.ensures at c.persons.ensures in
    let fine : p (Total (get_or (units_at sp 1) k 0)) ≡ false =
    ap (λ n. not (n == (known_of sp c.args.inv.now).total (get_or (units_at sp 1) k 0))) (sym persons) ∙ sym test ∙ sym c.ne.ensures ∙ c.if-ne.false in
    fails_here (λ st. p (Total st)) (units_at sp 1) k c.loop-state.invariant 0 below fine

pub returns : goal.returns
returns c =
    let sp = c.args.spine.now in
    let p = breaks c.args.schema.now sp (known_of sp c.args.inv.now) (count_at c.args.tables.now) in
    let all = rw c.at_level-state-items.ensures at c.loop-state-test.false in
    ap (option_map Total) (none_pass (λ st. p (Total st)) (units_at sp 1) c.loop-state.state-index c.loop-state.invariant all) ∙ sym (find-map Total p (units_at sp 1))
