-- A cell that isn't possible.
use Rattle.std.proofs.Common.{◌≡◌, ◌++◌, List, ℕ, OnOk, sym, ap, subst}
use Rattle.std.specs.Prelude.{codes}
use Rattle.tda_refusal.specs.Refusal.{coded, numbered}
use Rattle.tda_refusal.specs.Verdicts as spec
use Rattle.tda_refusal.proofs.verdict.push_failure.Goals as goal

pub returns-in-Impossible-clause-ok : goal.returns-in-Impossible-clause-ok
returns-in-Impossible-clause-ok c =
    let text = ap (spec.verdict_text c.args.schema.now c.args.spine.now) c.in-Impossible.is in
    let old : List ℕ = c.args.out.now.items in
    let new : List ℕ = c.push_cell-in-Impossible.new.out.items in
    let r = c.push_cell-in-Impossible.result in
    subst (λ t. OnOk r (new ≡ old ++ t)) (sym text)
    (subst (λ code. OnOk r (new ≡ old ++ numbered (coded (codes "no impossible") code) c.in-Impossible.cell)) c.code-in-Impossible.ensures.code c.push_cell-in-Impossible.ensures.ok)
