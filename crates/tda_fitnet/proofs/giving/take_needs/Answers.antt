use Rattle.std.proofs.Common.{◌-◌, slice_index, length-set, ap, ◌∙◌, arith}
use Rattle.tda_model.specs.Bounds.{low}
use Rattle.tda_invar.specs.Known.{known_of}
use Rattle.tda_fitnet.proofs.Writing.{write_more, write_later}
use Rattle.tda_fitnet.proofs.giving.take_needs.Goals as goal

pub overflow_sub-sums : goal.overflow_sub-sums
overflow_sub-sums c =
    let r = c.requires.enough in
    let e = c.low.ensures.low r.0 r.1 r.2 in
    let enough = r.3 c.loop-kind.kind c.loop-kind-test.true in
    omega (arith, e, enough, c.loop-kind.invariant.2 c.loop-kind.kind (omega arith))

pub loop-kind-preserved : goal.loop-kind-preserved
loop-kind-preserved c =
    let at = c.loop-kind.kind in
    let own = c.loop-kind.invariant.2 at (omega arith) in (
      length-set _ _ _ ∙ c.loop-kind.invariant.0,
      λ s sp j. write_more c.loop-kind.sums at (slice_index c.loop-kind.sums at - c.low.result) (λ k. slice_index c.args.sums.now k - low sp (known_of sp c.args.inv.now) c.args.unit k)
          (omega (arith, c.loop-kind.invariant.0, c.requires.sums, c.loop-kind-test.true)) (c.loop-kind.invariant.1 s sp j)
          (ap (λ n. slice_index c.loop-kind.sums at - n) (c.low.ensures.low s sp j) ∙ ap (λ n. n - low sp (known_of sp c.args.inv.now) c.args.unit at) own),
      write_later c.loop-kind.sums at (slice_index c.loop-kind.sums at - c.low.result) (slice_index c.args.sums.now) c.loop-kind.invariant.2,
    )

pub returns-clause-sums : goal.returns-clause-sums
returns-clause-sums c = λ s sp j k l. c.loop-kind.invariant.1 s sp j k (omega (arith, l, c.loop-kind-test.false))
