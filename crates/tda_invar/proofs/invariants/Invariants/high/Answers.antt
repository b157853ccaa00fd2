use Rattle.std.proofs.Common.{◌≡◌, ◌≤◌, ◌∙◌, sym, arith}
use Rattle.tda_model.specs.Bounds.{low}
use Rattle.tda_invar.specs.Known.{known_of}
use Rattle.tda_invar.proofs.Existence.{high_by_low, high_none, high_some, high_first}
use Rattle.tda_invar.proofs.invariants.Invariants.high.Goals as goal
use Rattle.tda_invar.proofs.invariants.Invariants.high.Goals.{else-kind-ne-HOUSEHOLD-via-then-kind-ne-HOUSEHOLD+else-low-eq0, else-kind-ne-HOUSEHOLD-via-else-kind-ne-HOUSEHOLD}

pub returns-then-low-eq0-clause-high : goal.returns-then-low-eq0-clause-high
returns-then-low-eq0-clause-high c = λ s sp j.
    let inv = c.args.self.now in
    let least = low sp (known_of sp inv) c.args.unit c.args.kind in
    sym (high_by_low sp inv.facilities inv.totals c.args.unit c.args.kind
    ∙ high_none c.args.kind least c.if-kind-ne-HOUSEHOLD.true (sym (c.low-low.ensures.low s sp j) ∙ c.if-low-eq0.true))

pub returns-else-kind-ne-HOUSEHOLD-clause-high : goal.returns-else-kind-ne-HOUSEHOLD-clause-high
returns-else-kind-ne-HOUSEHOLD-clause-high c = λ s sp j.
    let inv = c.args.self.now in
    let least = low sp (known_of sp inv) c.args.unit c.args.kind in
    sym (high_by_low sp inv.facilities inv.totals c.args.unit c.args.kind
    ∙ elim c.else-kind-ne-HOUSEHOLD.branch [
      | else-kind-ne-HOUSEHOLD-via-then-kind-ne-HOUSEHOLD+else-low-eq0 w ↦ high_some c.args.kind least (λ e. w.if-low-eq0.false (c.low-low.ensures.low s sp j ∙ e))
      | else-kind-ne-HOUSEHOLD-via-else-kind-ne-HOUSEHOLD w ↦ high_first c.args.kind least w.if-kind-ne-HOUSEHOLD.false
    ])

pub returns-else-kind-ne-HOUSEHOLD-clause-least : goal.returns-else-kind-ne-HOUSEHOLD-clause-least
returns-else-kind-ne-HOUSEHOLD-clause-least c = omega (arith, c.low-low.ensures.number, c.low-low.ensures.limit)
