use Rattle.std.proofs.Common.{◌^◌, ◌-ℤ◌, ap, sym, ◌∙◌, arith}
use Rattle.std.proofs.lemmas.Int.{ints}
use Rattle.tda_loss.specs.Curve.{IsWithin}
use Rattle.tda_cancel.specs.Rows.{cost_at}
use Rattle.tda_cancel.proofs.Signed.{plain, plain-sub, prices-more}
use Rattle.tda_cancel.proofs.cancel.write_prices.Goals as goal

pub loop-v-preserved : goal.loop-v-preserved
loop-v-preserved c =
    let hub = c.requires.near 0 (omega arith) in
    let near : IsWithin (2 ^ 74) (cost_at c.args.costs.now 0) = record { low = omega (arith, ints, hub.low); high = omega (arith, ints, hub.high) } in
    prices-more c.loop-v.prices c.args.costs.now _ _ c.loop-v.v (omega arith)
    (plain-sub (cost_at c.args.costs.now c.loop-v.v) (cost_at c.args.costs.now 0) (c.requires.near c.loop-v.v (omega arith)) hub
    ∙ ap (λ z. cost_at c.args.costs.now c.loop-v.v -ℤ z) (sym (plain (cost_at c.args.costs.now 0) near))) c.loop-v.invariant
