use Rattle.std.proofs.Common.{◌≡◌, Some, sym, subst}
use Rattle.tda_frac.specs.Fraction.{Fraction, IsReduced}
use Rattle.tda_frac.proofs.Fractions.{same_fraction}
use Rattle.tda_frac.proofs.Narrow.{SomeIff-result_ok}
use Rattle.tda_frac.proofs.frac.Frac.from_lowest_terms.Goals as goal

pub invariant_of-result : goal.invariant_of-result
invariant_of-result c =
    let given : Fraction = record { num = c.args.num; den = c.args.den } in
    let made : Fraction = record { num = c.in_ok-ok.field-0; den = c.in_ok-ok-2.field-0 } in
    let num : c.in_ok-ok.field-0 ≡ c.args.num = (SomeIff-result_ok c.try_from.result (Some c.in_ok-ok.field-0) c.args.num c.try_from.ensures c.in_ok-ok.ensures.value).1 in
    let den : c.in_ok-ok-2.field-0 ≡ c.args.den = (SomeIff-result_ok c.try_from-2.result (Some c.in_ok-ok-2.field-0) c.args.den c.try_from-2.ensures c.in_ok-ok-2.ensures.value).1 in
    subst IsReduced (sym (same_fraction made given num den)) c.requires
