use Rattle.std.proofs.Common.{arith, ◌≡◌, Some}
use Rattle.std.proofs.lemmas.Grind.{common_steps}
use Rattle.tda_groups.specs.Tree.{kind_at}
use Rattle.tda_groups.proofs.Callers.{kind_group_at}
use Rattle.tda_groups.proofs.group_tree.GroupTree.kind_group.Goals as goal

pub returns-clause-cells : goal.returns-clause-cells
returns-clause-cells c =
    let value : kind_at c.args.self.now c.args.kind ≡ Some c.unwrap.result = grind (arith, common_steps) in
    λ s l is low. kind_group_at s l c.args.self.now is c.args.kind c.unwrap.result value low
