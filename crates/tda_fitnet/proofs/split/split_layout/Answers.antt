-- The layout is small, by the limits of spines.
use Rattle.tda_fitnet.proofs.Ready.{split_layout_is}
use Rattle.tda_fitnet.proofs.split.split_layout.Goals as goal

pub returns-clause-layout : goal.returns-clause-layout
returns-clause-layout c inv m =
    split_layout_is c.args.schema.now c.args.spine.now c.requires.belong inv m c.args.parent c.requires.parent c.args.tree.now c.requires.tree _ _ _ c.members.ensures.value c.children.ensures c.len.ensures.count
