use Rattle.std.proofs.Common.{◌*◌, length, ap, ◌∙◌, arith}
use Rattle.tda_model.specs.Spine.{children_of}
use Rattle.tda_descent.proofs.Solving.{flow_length, counts_fit}
use Rattle.tda_descent.proofs.split.read_split.Goals as goal

pub flow_counts-requires-clause-flow : goal.flow_counts-requires-clause-flow
flow_counts-requires-clause-flow g c = flow_length c.args.fit.now c.args.flow.now c.net-net.ensures.layout c.requires.solved.circulates.count

pub overflow_mul-children : goal.overflow_mul-children
overflow_mul-children g c =
    let few = counts_fit c.args.schema.now c.args.spine.now c.args.parent c.requires.belong in
    let same = ap (λ xs. length xs * c.cells.result) c.children-children.ensures ∙ ap (λ n. length (children_of c.args.spine.now c.args.parent) * n) c.cells.ensures.count in
    omega (arith, few, same)
