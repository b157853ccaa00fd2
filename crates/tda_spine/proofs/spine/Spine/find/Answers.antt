use Rattle.std.proofs.Common.{◌∙◌, sym}
use Rattle.tda_spine.proofs.CodeLists.{named_by, named_is, unnamed}
use Rattle.tda_spine.proofs.spine.Spine.find.Goals as goal

pub returns-in_default-clause-value : goal.returns-in_default-clause-value
returns-in_default-clause-value c =
    rw (← c.self.view_is)
    (sym c.in_default.is ∙ c.find.ensures ∙ named_by c.self.inside.depth c.self.inside.units.items c.args.bytes.now c.self.inside.codes c.self.invariant.codes_are)

pub returns-in_default-clause-absent : goal.returns-in_default-clause-absent
returns-in_default-clause-absent c =
    let none = sym (named_by c.self.inside.depth c.self.inside.units.items c.args.bytes.now c.self.inside.codes c.self.invariant.codes_are) ∙ sym c.find.ensures ∙ c.in_default.is in
    rw (← c.self.view_is) (unnamed c.self.inside.depth c.self.inside.units.items c.args.bytes.now none)

pub returns-clause-value : goal.returns-clause-value
returns-clause-value c =
    rw (← c.self.view_is)
    (sym c.in-Some.is ∙ c.find.ensures ∙ named_by c.self.inside.depth c.self.inside.units.items c.args.bytes.now c.self.inside.codes c.self.invariant.codes_are)

pub returns-clause-found : goal.returns-clause-found
returns-clause-found c =
    let some = sym (named_by c.self.inside.depth c.self.inside.units.items c.args.bytes.now c.self.inside.codes c.self.invariant.codes_are) ∙ sym c.find.ensures ∙ c.in-Some.is in
    rw (← c.self.view_is) (named_is c.self.inside.depth c.self.inside.units.items c.args.bytes.now c.in-Some.unit some)
