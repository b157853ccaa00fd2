use Rattle.std.proofs.Common.{◌≡◌, ℕ, ◌+◌, ◌-◌, ◌<◌, min, slice_index, length-set, ◌∙◌, arith}
use Rattle.tda_model.specs.Bounds.{low, high}
use Rattle.tda_invar.specs.Known.{known_of}
use Rattle.tda_fitnet.proofs.Writing.{write_more, write_later}
use Rattle.tda_fitnet.proofs.giving.set_quotas.Goals as goal

pub loop-kind-preserved : goal.loop-kind-preserved
loop-kind-preserved c =
    let inv = c.args.inv.now in
    let spare = c.args.spare.now in
    let at = c.loop-kind.kind in
    let low_kind : at < c.args.kinds = c.loop-kind-test.true in
    let own : slice_index c.loop-kind.spare at ≡ slice_index spare at = c.loop-kind.invariant.4 at (omega arith) in (
      length-set _ _ _ ∙ c.loop-kind.invariant.0,
      length-set _ _ _ ∙ c.loop-kind.invariant.1,
      λ s sp j.
          let known = known_of sp inv in
          write_more c.loop-kind.quotas at (c.low-low.result + c.min-more.result) (λ k. low sp known c.args.child k + min (slice_index spare k) (high sp known c.args.child k - low sp known c.args.child k))
          (omega (arith, c.loop-kind.invariant.1, c.requires.quotas)) (c.loop-kind.invariant.2 s sp j)
          (value _ _ _ _ _ _ _ (c.low-low.ensures.low s sp j) c.min-more.ensures own (c.high.ensures.high s sp j)),
      λ s sp j.
          let known = known_of sp inv in
          write_more c.loop-kind.spare at (slice_index c.loop-kind.spare at - c.min-more.result) (λ k. slice_index spare k - min (slice_index spare k) (high sp known c.args.child k - low sp known c.args.child k))
          (omega (arith, c.loop-kind.invariant.0, c.requires.spare)) (c.loop-kind.invariant.3 s sp j)
          (rest _ _ _ _ _ _ _ (c.low-low.ensures.low s sp j) c.min-more.ensures own (c.high.ensures.high s sp j)),
      write_later c.loop-kind.spare at (slice_index c.loop-kind.spare at - c.min-more.result) (slice_index spare) c.loop-kind.invariant.4,
    )
  where
    value : (l l2 more spare spare2 h h2 : ℕ) → l ≡ l2 → more ≡ min spare (h - l) → spare ≡ spare2 → h ≡ h2 → l + more ≡ l2 + min spare2 (h2 - l2)
    value l l2 more spare spare2 h h2 a b c d = omega arith

    rest : (l l2 more spare spare2 h h2 : ℕ) → l ≡ l2 → more ≡ min spare (h - l) → spare ≡ spare2 → h ≡ h2 → spare - more ≡ spare2 - min spare2 (h2 - l2)
    rest l l2 more spare spare2 h h2 a b c d = omega arith

pub returns-clause-quotas : goal.returns-clause-quotas
returns-clause-quotas c = λ s sp j k l. c.loop-kind.invariant.2 s sp j k (omega (arith, l, c.loop-kind-test.false))

pub returns-clause-spare : goal.returns-clause-spare
returns-clause-spare c = λ s sp j k l. c.loop-kind.invariant.3 s sp j k (omega (arith, l, c.loop-kind-test.false))
