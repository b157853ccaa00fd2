use Rattle.std.proofs.Common.{◌∙◌, sym}
use Rattle.tda_invar.proofs.UnitLemmas.{no_unit, other_level}
use Rattle.tda_invar.proofs.fields.unit_at.Goals as goal

pub returns-in_err-unit-clause-none : goal.returns-in_err-unit-clause-none
returns-in_err-unit-clause-none c =
    rw c.from_residual.ensures (no_unit c.args.spine.now c.args.level c.args.code.now c.in_err-unit.ensures.absent)

pub returns-else-level-clause-none : goal.returns-else-level-clause-none
returns-else-level-clause-none c =
    let found = c.in_ok-unit.ensures.found in
    other_level c.args.spine.now c.args.level c.args.code.now c.in_ok-unit.unit c.requires found.0 found.1 (λ e. c.if-level.false (c.level.ensures ∙ e))
