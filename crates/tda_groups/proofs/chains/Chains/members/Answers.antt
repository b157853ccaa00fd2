use Rattle.std.proofs.Common.{◌∙◌, ◌<◌, [], length, sym, subst}
use Rattle.std.proofs.lemmas.List.{get_or_read}
use Rattle.tda_groups.specs.Order.{IsCellSet}
use Rattle.tda_groups.proofs.chains.Chains.members.Goals as goal

pub returns-clause-set : goal.returns-clause-set
returns-clause-set c =
    let groups = c.self.inside.groups.items in
    let below : c.args.group < length groups = subst (λ gs. c.args.group < length gs) (sym c.self.view_is) c.requires in
    let is = c.as_slice.ensures ∙ get_or_read groups c.args.group c.index.result.now below c.index.ensures [] in
    subst IsCellSet (sym is) (c.self.invariant.in_order.sets c.args.group [] below)
