use Rattle.std.proofs.lemmas.Grind.{common_steps}
use Rattle.std.proofs.Common.{rules}
use Rattle.tda_fitnet.specs.Inputs.{inputs_of}
use Rattle.tda_invar.proofs.Existence.{always}
use Rattle.tda_descent.proofs.Solving.{root_found}
use Rattle.tda_descent.proofs.root.fit_root.Goals as goal

pub returns-clause-root : goal.returns-clause-root
returns-clause-root g c =
    let s = c.args.schema.now in
    let sp = c.args.spine.now in
    let joined = c.requires.joined in
    root_found c.args.loss.now.curve (inputs_of s sp c.args.inv.now c.args.m.now) joined.tree joined.kinds joined.most c.requires.belong
    (always s sp c.args.inv.now joined).few c.args.tree.now c.requires.tree c.in_ok-fit.fit c.in_ok-fit.ensures.fit
    c.net.result.now c.net.ensures.value c.net.ensures.sound c.net.ensures.layout
    c.solve.new.flow c.deref.result.now c.in_ok-prices.prices.items c.in_ok-prices.ensures.solved (search (rules, common_steps))
    c.read_root.result c.read_root.ensures.parent c.read_root.ensures.units c.read_root.ensures.counts c.read_root.ensures.made c.read_root.ensures.shares
