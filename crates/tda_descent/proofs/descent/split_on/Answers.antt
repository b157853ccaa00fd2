use Rattle.std.proofs.Common.{ℕ, List, get_or, subst}
use Rattle.std.specs.Fn.{CalledAt}
use Rattle.tda_fitnet.specs.Inputs.{inputs_of}
use Rattle.tda_descent.specs.Made.{IsSplitOf}
use Rattle.tda_descent.proofs.Steps.{split_handed, split_length, split_units, split_formed, split_counts_here}
use Rattle.tda_descent.proofs.descent.split_on.Goals as goal

pub pass_on-requires-clause-units : goal.pass_on-requires-clause-units
pass_on-requires-clause-units g c =
    let i = inputs_of c.args.schema.now c.args.spine.now c.args.inv.now c.args.m.now in
    let made = c.in_ok-fit.ensures.split in
    split_units c.args.loss.now.curve i c.in_ok-fit.fit c.args.parent _ made.0 made.1

pub pass_on-requires-clause-counts : goal.pass_on-requires-clause-counts
pass_on-requires-clause-counts g c =
    let i = inputs_of c.args.schema.now c.args.spine.now c.args.inv.now c.args.m.now in
    let made = c.in_ok-fit.ensures.split in
    split_length c.args.loss.now.curve i c.in_ok-fit.fit c.args.parent _ made.0 made.1

pub pass_on-requires-clause-takes : goal.pass_on-requires-clause-takes
pass_on-requires-clause-takes g c =
    let i = inputs_of c.args.schema.now c.args.spine.now c.args.inv.now c.args.m.now in
    let made = c.in_ok-fit.ensures.split in
    c.requires.keep c.in_ok-fit.fit (split_formed c.args.loss.now.curve i c.in_ok-fit.fit c.args.parent _ made.0 c.requires.parent made.1)

pub returns-clause-handed : goal.returns-clause-handed
returns-clause-handed g c =
    let i = inputs_of c.args.schema.now c.args.spine.now c.args.inv.now c.args.m.now in
    let curve = c.args.loss.now.curve in
    let made = c.in_ok-fit.ensures.split in
    let Is : List ℕ → Type 0 = λ t. IsSplitOf curve i c.args.parent (λ j. get_or t j 0) made.0 c.in_ok-fit.fit in
    let split = subst Is c.get-table.ensures made.1 in
    split_handed (CalledAt g.K.FnMut) c.in_ok-fit.fit c.args.keep.now _ curve i c.args.parent _ made.0 split c.args.tables.now _
    c.pass_on.result c.pass_on.ensures.goes_on c.pass_on.ensures.ends (c.pass_on.ensures.stored made.0 (split_counts_here curve i c.in_ok-fit.fit c.args.parent _ made.0 made.1))
