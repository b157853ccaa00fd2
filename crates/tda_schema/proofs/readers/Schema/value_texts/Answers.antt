use Rattle.std.proofs.Common.{◌<◌, ◌≤◌, ◌∙◌, [], length, get_or, ap, arith}
use Rattle.std.proofs.lemmas.List.{get_or-map}
use Rattle.tda_model.specs.Schema.{Attribute, Schema}
use Rattle.tda_schema.proofs.readers.Schema.value_texts.Goals as goal

pub returns-clause-few : goal.returns-clause-few
returns-clause-few c =
    let attributes = c.self.inside.stated.attributes in
    let a = c.args.a in
    let none : Attribute = record { name = []; values = [] } in
    let below : a < length attributes = omega (arith, c.requires, ap (λ (s : Schema). length s.attributes) c.self.view_is) in
    let same = c.index.ensures ∙ ap (λ ts. get_or ts a c.index.result.now) c.self.invariant.values ∙ get_or-map (λ x. x.values) attributes a none c.index.result.now below in
    let few : length (get_or attributes a none).values ≤ 128 = c.self.invariant.looked_up.limits.values a none below in
    omega (arith, few, ap length same)
