-- One more price.
use Rattle.std.proofs.Common.{ap, ◌∙◌, arith, length, length-append}
use Rattle.tda_guess.proofs.Pushed.{near_pushed}
use Rattle.tda_guess.proofs.prices.write_prices.Goals as goal

pub loop-node-preserved : goal.loop-node-preserved
loop-node-preserved c =
    let old = c.loop-node.invariant in
    record {
      count = ap length c.in_ok-push.ensures.items ∙ length-append c.loop-node.prices.items _ ∙ omega (arith, old.count);
      near = near_pushed c.loop-node.prices.items _ c.bounded.result c.in_ok-push.ensures.items old.near c.bounded.ensures;
    }
