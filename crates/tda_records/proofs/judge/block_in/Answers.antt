use Rattle.std.proofs.Common.{◌+◌, ◌∙◌, ap, sym}
use Rattle.tda_records.proofs.RowLemmas.{block_is, no_block, other_level}
use Rattle.tda_records.proofs.judge.block_in.Goals as goal

pub returns-in_default-clause-value : goal.returns-in_default-clause-value
returns-in_default-clause-value c =
    sym (no_block c.args.spine.now c.args.row.now.row (λ u here named. c.in_default.ensures.absent u here (named ∙ sym c.field.ensures)))

pub returns-then-level-levels-clause-value : goal.returns-then-level-levels-clause-value
returns-then-level-levels-clause-value c =
    let found = c.in-Some.ensures.found in
    let last = ap (λ l. l + 1) (sym c.level.ensures) ∙ c.if-level-levels.true ∙ c.levels.ensures.count ∙ sym c.requires.belong in
    sym (block_is c.args.spine.now c.args.row.now.row c.units.ensures.sound c.in-Some.unit found.0 (found.1 ∙ c.field.ensures) last)

pub returns-else-level-levels-clause-value : goal.returns-else-level-levels-clause-value
returns-else-level-levels-clause-value c =
    let found = c.in-Some.ensures.found in
    sym (other_level c.args.spine.now c.args.row.now.row c.units.ensures.sound c.in-Some.unit found.0 (found.1 ∙ c.field.ensures) (λ last.
    c.if-level-levels.false (ap (λ l. l + 1) c.level.ensures ∙ last ∙ c.requires.belong ∙ sym c.levels.ensures.count)))
