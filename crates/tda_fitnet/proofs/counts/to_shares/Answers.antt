use Rattle.std.proofs.Common.{◌+◌, ◌*◌, slice_index, ap, ◌∙◌, arith}
use Rattle.tda_fitnet.specs.Layout.{share_place}
use Rattle.tda_fitnet.proofs.Ranges.{place_below}
use Rattle.tda_fitnet.proofs.Counted.{rows_are}
use Rattle.tda_fitnet.proofs.counts.to_shares.Goals as goal

pub returns : goal.returns
returns c =
    let l = c.args.fit.now.layout in
    let size = c.loop-k.auto.shares ∙ c.requires.shares in
    rows_are c.loop-k.shares l.states l.kinds (λ n k. slice_index c.args.flow.now (share_place l n k)) size
    (λ n k low lk.
    let b = place_below l.states l.kinds n k low lk in
    c.loop-k.invariant (n * l.kinds + k) (omega (arith, b, size, c.loop-k-test.false, c.requires.shares)) ∙ ap (λ s. slice_index c.args.flow.now (s.sources + (n * l.kinds + k))) c.layout-layout.ensures.value)
