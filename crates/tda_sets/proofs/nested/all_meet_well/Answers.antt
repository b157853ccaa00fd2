use Rattle.std.proofs.Common.{◌≡◌, ◌∙◌, ◌+◌, true, false, ap, sym, length}
use Rattle.std.specs.List.{list_all, range_with_len}
use Rattle.tda_sets.specs.Nested.{meets_well}
use Rattle.tda_sets.proofs.Ranges.{all_more, all_fails}
use Rattle.tda_sets.proofs.nested.all_meet_well.Goals as goal

pub returns-then-not-meets_well : goal.returns-then-not-meets_well
returns-then-not-meets_well c =
    let one = c.args.one.now in
    sym (all_fails (meets_well one c.args.other.now) (length one) c.loop-number.number c.loop-number-test.true (sym c.meets_well.ensures ∙ c.if-not-meets_well.true))

pub loop-number-preserved : goal.loop-number-preserved
loop-number-preserved c =
    all_more (meets_well c.args.one.now c.args.other.now) c.loop-number.number c.loop-number.invariant (sym c.meets_well.ensures ∙ c.if-not-meets_well.false)
