use Rattle.std.proofs.Common.{◌≤◌, ◌∙◌, ℕ, Option, ap, sym, subst, get_or, None}
use Rattle.std.specs.Prelude.{IfSome}
use Rattle.std.proofs.lemmas.List.{get_or_default}
use Rattle.tda_model.specs.Bounds.{persons_limit}
use Rattle.tda_invar.proofs.Existence.{unit_total_is, unit_total_small}
use Rattle.tda_invar.proofs.invariants.Invariants.total.Goals as goal

pub returns-clause-total : goal.returns-clause-total
returns-clause-total c = λ s sp j.
    c.index.ensures
    ∙ ap (λ v. get_or v.unit_totals c.args.unit c.index.result.now) c.self.view_is
    ∙ get_or_default c.args.self.now.unit_totals c.args.unit c.index.result.now None c.requires.unit
    ∙ unit_total_is s sp c.args.self.now j c.args.unit c.requires.unit

pub returns-clause-limit : goal.returns-clause-limit
returns-clause-limit c = λ s sp j.
    let P : Option ℕ → Type 0 = λ o. IfSome o (λ n. n ≤ persons_limit) in
    let is =
    c.index.ensures
    ∙ ap (λ v. get_or v.unit_totals c.args.unit c.index.result.now) c.self.view_is
    ∙ get_or_default c.args.self.now.unit_totals c.args.unit c.index.result.now None c.requires.unit
    ∙ unit_total_is s sp c.args.self.now j c.args.unit c.requires.unit in
    subst P (sym is) (unit_total_small s sp c.args.self.now j c.args.unit)
