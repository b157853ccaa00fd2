use Rattle.std.proofs.lemmas.Grind.{common_steps}
use Rattle.std.proofs.Common.{rules, get_or}
use Rattle.tda_fitnet.specs.Inputs.{inputs_of}
use Rattle.tda_descent.proofs.Solving.{split_found}
use Rattle.tda_descent.proofs.split.fit_split.Goals as goal

pub returns-clause-split : goal.returns-clause-split
returns-clause-split g c =
    let s = c.args.schema.now in
    let sp = c.args.spine.now in
    let joined = c.requires.joined in
    split_found c.args.loss.now.curve (inputs_of s sp c.args.inv.now c.args.m.now) joined.tree joined.kinds joined.most c.requires.belong
    c.args.parent c.requires.parent c.args.tree.now c.requires.tree (λ j. get_or c.args.table.now j 0) c.requires.can_be c.requires.few
    c.in_ok-fit.fit c.in_ok-fit.ensures.fit c.net.result.now c.net.ensures.value c.net.ensures.sound c.net.ensures.layout
    c.solve.new.flow c.deref.result.now c.in_ok-prices.prices.items c.in_ok-prices.ensures.solved (search (rules, common_steps))
    c.read_split.result c.read_split.ensures.parent c.read_split.ensures.units c.read_split.ensures.counts c.read_split.ensures.made
