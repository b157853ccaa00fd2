use Rattle.std.proofs.Common.{◌||◌, nat_lt, length, get_or, refl, arith}
use Rattle.tda_model.specs.Bounds.{low, high}
use Rattle.tda_spine.proofs.Firsts.{number_fails, number_passes, no_number}
use Rattle.tda_invar.specs.Known.{known_of}
use Rattle.tda_audit.proofs.Passes.{too_few, too_many, within}
use Rattle.tda_audit.proofs.rules.unbounded_kind.Goals as goal
use Rattle.tda_audit.proofs.rules.unbounded_kind.Goals.{then-count-low-via-then-count-low, then-count-low-via-else-count-low+then-high-count}

pub loop-kind-init : goal.loop-kind-init
loop-kind-init c = λ s sp joined. refl

pub returns-then-count-low : goal.returns-then-count-low
returns-then-count-low c = λ s sp joined.
    let counts = c.args.counts.now in
    let known = known_of sp c.args.inv.now in
    let u = c.args.unit in
    let k = c.loop-kind.kind in
    let least = c.low.ensures.low s sp joined in
    number_passes (λ j. nat_lt (get_or counts j 0) (low sp known u j) || nat_lt (high sp known u j) (get_or counts j 0)) (length counts) k (c.loop-kind.invariant s sp joined) (omega arith)
    (elim c.then-count-low.branch [
      | then-count-low-via-then-count-low w ↦ too_few (low sp known u k) (high sp known u k) (get_or counts k 0) (omega (arith, least, w.if-count-low.true))
      | then-count-low-via-else-count-low+then-high-count w ↦
          let most = w.high.ensures.high s sp joined in
          too_many (low sp known u k) (high sp known u k) (get_or counts k 0) (omega (arith, most, w.if-high-count.true))
    ])

pub loop-kind-preserved : goal.loop-kind-preserved
loop-kind-preserved c = λ s sp joined.
    let counts = c.args.counts.now in
    let known = known_of sp c.args.inv.now in
    let u = c.args.unit in
    let k = c.loop-kind.kind in
    let least = c.low.ensures.low s sp joined in
    let most = c.high.ensures.high s sp joined in
    number_fails (λ j. nat_lt (get_or counts j 0) (low sp known u j) || nat_lt (high sp known u j) (get_or counts j 0)) (length counts) k (c.loop-kind.invariant s sp joined) (omega arith)
    (within (low sp known u k) (high sp known u k) (get_or counts k 0) (omega (arith, least, c.if-count-low.false)) (omega (arith, most, c.if-high-count.false)))

pub returns : goal.returns
returns c = λ s sp joined.
    let counts = c.args.counts.now in
    let known = known_of sp c.args.inv.now in
    let u = c.args.unit in
    no_number (λ j. nat_lt (get_or counts j 0) (low sp known u j) || nat_lt (high sp known u j) (get_or counts j 0)) (length counts) c.loop-kind.kind (c.loop-kind.invariant s sp joined) (omega arith)
