use Rattle.std.proofs.Common.{◌^◌, ◌∙◌, ap, refl, arith}
use Rattle.tda_scale.specs.Spots.{is_found}
use Rattle.tda_scale.proofs.Warming.{priced_within, priced_tracked}
use Rattle.tda_scale.proofs.Solved.{wider_at}
use Rattle.tda_scale.proofs.warm.warm.Goals as goal

pub settle_all-requires-clause-tracked : goal.settle_all-requires-clause-tracked
settle_all-requires-clause-tracked c =
    priced_tracked c.args.body.now.net.now c.args.flow.now c.args.prices.now _ c.args.spots.now c.set_prices.new.spots c.set_prices.ensures c.requires.tracked

pub settle_all-requires-clause-small : goal.settle_all-requires-clause-small
settle_all-requires-clause-small c v =
    wider_at (2 ^ 88) (2 ^ 92) _ (omega arith)
    (priced_within (2 ^ 88) c.args.prices.now c.args.spots.now c.set_prices.new.spots c.set_prices.new.spots c.set_prices.ensures c.requires.count c.requires.small (λ v. refl) v)

pub returns-clause-small : goal.returns-clause-small
returns-clause-small c =
    priced_within (2 ^ 88) c.args.prices.now c.args.spots.now c.set_prices.new.spots c.settle_all.new.spots c.set_prices.ensures c.requires.count c.requires.small c.settle_all.ensures.same.price

pub returns-clause-fresh : goal.returns-clause-fresh
returns-clause-fresh c v = ap is_found (c.settle_all.ensures.same.mark v ∙ c.set_prices.ensures.mark v) ∙ c.requires.fresh v
