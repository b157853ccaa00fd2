use Rattle.std.proofs.Common.{◌≡◌, ◌∙◌, Some, ap, arith, of_z, pos, to_z}
use Rattle.std.proofs.lemmas.Int.{ints, to_z-of_z}
use Rattle.std.specs.Int.{w128}
use Rattle.std.specs.Option.{option_eq}
use Rattle.std.specs.Ordering.{int_eq}
use Rattle.tda_prices.proofs.Fields.{tells_decimal}
use Rattle.tda_prices.proofs.judge.is_decimal.Goals as goal

pub returns : goal.returns
returns c =
    let n = c.args.number in
    let whole : to_z w128 (of_z w128 (pos n)) ≡ pos n = to_z-of_z w128 (pos n) (omega (arith, ints, c.ranges.number.fits)) in
    c.eq.ensures
    ∙ ap (λ z. option_eq int_eq c.read_int.result (Some (to_z w128 (of_z w128 z)))) c.from.ensures
    ∙ ap (λ z. option_eq int_eq c.read_int.result (Some z)) whole
    ∙ tells_decimal n (omega (arith, c.ranges.number.fits)) c.args.text.now c.read_int.result c.read_int.ensures.value
