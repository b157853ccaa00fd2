use Rattle.std.proofs.Common.{◌<◌, ◌^◌, arith}
use Rattle.std.proofs.lemmas.Bool.{false≢true}
use Rattle.tda_frac.proofs.Texts.{parts_of_text, whole_of_text, valid_of_parts, value_of_parts, valid_of_whole, value_of_whole}
use Rattle.tda_frac.proofs.frac.Frac.parse.Goals as goal

pub returns-in_err-read_whole-in-Some-clause-valid : goal.returns-in_err-read_whole-in-Some-clause-valid
returns-in_err-read_whole-in-Some-clause-valid c = (
  λ some. absurd (false≢true (rw c.from_residual.ensures at some)),
  λ found.
      let parts = parts_of_text c.args.bytes.now c.in-Some.num.now c.in-Some.den.now found.0 c.in-Some.ensures.whole c.in-Some.ensures.first found.1 in
      let none = c.in_err-read_whole-in-Some.ensures.found found.0.num found.1.fits.num parts.0 in
      absurd cc,
)

pub returns-in_err-read_whole-in-Some-2-clause-valid :
    goal.returns-in_err-read_whole-in-Some-2-clause-valid
returns-in_err-read_whole-in-Some-2-clause-valid c = (
  λ some. absurd (false≢true (rw c.from_residual-in_err-read_whole-in-Some-2.ensures at some)),
  λ found.
      let parts = parts_of_text c.args.bytes.now c.in-Some.num.now c.in-Some.den.now found.0 c.in-Some.ensures.whole c.in-Some.ensures.first found.1 in
      let none = c.in_err-read_whole-in-Some-2.ensures.found found.0.den found.1.fits.den parts.1 in
      absurd cc,
)

pub returns-in_err-read_whole-in-None-clause-valid :
    goal.returns-in_err-read_whole-in-None-clause-valid
returns-in_err-read_whole-in-None-clause-valid c = (
  λ some. absurd (false≢true (rw c.from_residual-in_err-read_whole-in-None.ensures at some)),
  λ found.
      let parts = whole_of_text c.args.bytes.now found.0 c.in-None.ensures.none found.1 in
      let none = c.in_err-read_whole-in-None.ensures.found found.0.num found.1.fits.num parts.0 in
      absurd cc,
)

pub returns-in_ok-read_whole-in-Some-2-clause-valid :
    goal.returns-in_ok-read_whole-in-Some-2-clause-valid
returns-in_ok-read_whole-in-Some-2-clause-valid c =
    let num : c.in_ok-read_whole-in-Some.field-0 < 2 ^ 64 = omega arith in
    let den : c.in_ok-read_whole-in-Some-2.field-0 < 2 ^ 64 = omega arith in
    valid_of_parts c.args.bytes.now c.in-Some.num.now c.in-Some.den.now c.in_ok-read_whole-in-Some.field-0 c.in_ok-read_whole-in-Some-2.field-0 c.new.result c.in-Some.ensures.whole c.in-Some.ensures.first c.in_ok-read_whole-in-Some.ensures.text c.in_ok-read_whole-in-Some-2.ensures.text num den c.new.ensures.none

pub returns-in_ok-read_whole-in-Some-2-clause-value :
    goal.returns-in_ok-read_whole-in-Some-2-clause-value
returns-in_ok-read_whole-in-Some-2-clause-value c =
    let num : c.in_ok-read_whole-in-Some.field-0 < 2 ^ 64 = omega arith in
    let den : c.in_ok-read_whole-in-Some-2.field-0 < 2 ^ 64 = omega arith in
    value_of_parts c.args.bytes.now c.in-Some.num.now c.in-Some.den.now c.in_ok-read_whole-in-Some.field-0 c.in_ok-read_whole-in-Some-2.field-0 c.new.result c.in-Some.ensures.whole c.in-Some.ensures.first c.in_ok-read_whole-in-Some.ensures.text c.in_ok-read_whole-in-Some-2.ensures.text num den c.new.ensures.value

pub returns-in_ok-read_whole-in-None-clause-valid :
    goal.returns-in_ok-read_whole-in-None-clause-valid
returns-in_ok-read_whole-in-None-clause-valid c =
    let num : c.in_ok-read_whole-in-None.field-0 < 2 ^ 64 = omega arith in
    valid_of_whole c.args.bytes.now c.in_ok-read_whole-in-None.field-0 c.new-in-None.result c.in-None.ensures.none c.in_ok-read_whole-in-None.ensures.text num c.new-in-None.ensures.none

pub returns-in_ok-read_whole-in-None-clause-value :
    goal.returns-in_ok-read_whole-in-None-clause-value
returns-in_ok-read_whole-in-None-clause-value c =
    let num : c.in_ok-read_whole-in-None.field-0 < 2 ^ 64 = omega arith in
    value_of_whole c.args.bytes.now c.in_ok-read_whole-in-None.field-0 c.new-in-None.result c.in-None.ensures.none c.in_ok-read_whole-in-None.ensures.text num c.new-in-None.ensures.value
