use Rattle.std.proofs.Common.{arith, ◌≡◌, Some}
use Rattle.std.proofs.lemmas.Grind.{common_steps}
use Rattle.tda_groups.specs.Tree.{class_at}
use Rattle.tda_groups.proofs.Callers.{class_group_at}
use Rattle.tda_groups.proofs.group_tree.GroupTree.class_group.Goals as goal

pub returns-clause-cells : goal.returns-clause-cells
returns-clause-cells c =
    let value : class_at c.args.self.now c.args.query c.args.class ≡ Some c.unwrap.result = grind (arith, common_steps) in
    λ s l q is at found. class_group_at s l c.args.self.now is c.args.query c.args.class c.unwrap.result q value at found
