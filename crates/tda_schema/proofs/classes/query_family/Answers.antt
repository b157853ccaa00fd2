use Rattle.std.proofs.Common.{◌≡◌, ◌∙◌, ap, subst, IfOk, map}
use Rattle.tda_model.specs.Schema.{Query}
use Rattle.tda_schema.specs.Classes as spec
use Rattle.tda_schema.specs.Stated.{entry_of}
use Rattle.tda_schema.proofs.classes.query_family.Goals as goal

pub returns : goal.returns
returns c =
    subst (λ x. IfOk c.entries_family.result (λ f. f ≡ x))
    (ap (λ es. spec.entries_family c.args.stated.now (map entry_of es)) c.deref.ensures.value ∙ ap (λ (q : Query). spec.entries_family c.args.stated.now q.by) c.query.view_is)
    c.entries_family.ensures
