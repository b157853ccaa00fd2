-- The kind by the group's first cell.
use Rattle.std.proofs.Common.{Some, None, cond, sym, ap, ◌∙◌, eq-eqb, ne_eqb}
use Rattle.tda_groups.proofs.Callers.{kind_known}
use Rattle.tda_fitnet.proofs.FirstKind.{first_in, kind_answer}
use Rattle.tda_audit.proofs.bounds.kind_of_group.Goals as goal

pub kind_of-kind-requires : goal.kind_of-kind-requires
kind_of-kind-requires c =
    let t = c.requires.tree in
    first_in c.args.schema.now c.requires.kinds t.0 c.args.tree.now t.1 c.args.group c.requires.group c.members.result.now c.members.ensures.value

pub kind_group-requires : goal.kind_group-requires
kind_group-requires c = kind_known c.args.schema.now c.requires.tree.0 c.args.tree.now c.requires.tree.1 c.kind_of-kind.result c.kind_of-kind.ensures.in_range

pub returns-then-kind_group-group : goal.returns-then-kind_group-group
returns-then-kind_group-group c =
    let t = c.requires.tree in
    sym (kind_answer c.args.schema.now c.requires.kinds t.0 c.args.tree.now t.1 c.args.group c.requires.group c.members.result.now c.members.ensures.value
    c.kind_of-kind.result c.kind_group.result c.kind_of-kind.ensures.kind c.kind_of-kind.ensures.in_range
    (c.kind_group.ensures.cells c.args.schema.now t.0 t.1 c.kind_of-kind.ensures.in_range)
    ∙ ap (λ b. cond b (Some c.kind_of-kind.result) None) (eq-eqb _ _ c.if-kind_group-group.true))

pub returns-else-kind_group-group : goal.returns-else-kind_group-group
returns-else-kind_group-group c =
    let t = c.requires.tree in
    sym (kind_answer c.args.schema.now c.requires.kinds t.0 c.args.tree.now t.1 c.args.group c.requires.group c.members.result.now c.members.ensures.value
    c.kind_of-kind.result c.kind_group.result c.kind_of-kind.ensures.kind c.kind_of-kind.ensures.in_range
    (c.kind_group.ensures.cells c.args.schema.now t.0 t.1 c.kind_of-kind.ensures.in_range)
    ∙ ap (λ b. cond b (Some c.kind_of-kind.result) None) (ne_eqb _ _ c.if-kind_group-group.false))
