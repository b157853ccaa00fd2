use Rattle.std.proofs.Common.{◌≡◌, ◌≤◌, length, string_bytes, inl, inr, refl, sym, ap, ◌∙◌, arith}
use Rattle.std.proofs.lemmas.List.{length-map}
use Rattle.tda_model.specs.Schema.{Attribute, Schema}
use Rattle.tda_model.specs.Cells.{cells_in}
use Rattle.tda_schema.proofs.CellOf.{AreValues, are_values, room_for, reached, no_attribute_left, no_value_left, IsCellOf, cell_is}
use Rattle.tda_schema.proofs.readers.Schema.cell_of.Goals as goal

given : (c : goal.After-into_iter-attribute-iterator) → AreValues c.args.self.now.attributes c.args.values.now
given c = are_values c.args.self.now.attributes c.args.values.now c.requires.one_each c.requires.in_range

pub loop-attribute-init : goal.loop-attribute-init
loop-attribute-init c =
    let attributes : c.into_iter-attribute-iterator.result.a.rest.now ≡ c.args.self.now.attributes =
    ap (λ z. z.a.rest.now) c.into_iter-attribute-iterator.ensures.into_iter_gives ∙ ap (λ i. i.rest.now) c.zip-attribute-items.ensures.first ∙ c.iter.ensures.rest ∙ c.deref.ensures.value ∙ ap (λ (s : Schema). s.attributes) (c.behind-self.view_is ∙ c.stated.ensures.value) in
    let values : c.into_iter-attribute-iterator.result.b.rest.now ≡ c.args.values.now = ap (λ z. z.b.rest.now) c.into_iter-attribute-iterator.ensures.into_iter_gives ∙ c.zip-attribute-items.ensures.second.0 in
    let cells : cells_in c.args.self.now.attributes ≤ 4096 = c.stated.ensures.limits.cells in
    rw (attributes, values) (record { are_values = given c; reaches = refl; room = omega (arith, cells) })

ended : (c : goal.In-None) → IsCellOf c.args.self.now.attributes c.args.values.now c.loop-attribute.cell
ended c =
    let cell = c.loop-attribute.cell in
    let attributes = c.loop-attribute.attribute-iterator.a.rest.now in
    let values = c.loop-attribute.attribute-iterator.b.rest.now in
    let last : reached cell attributes values ≡ cell =
    elim c.in-None.ensures.steps [ inl w ↦ no_attribute_left cell attributes values w.1.0 | inr w ↦ no_value_left cell attributes values w.1.0 ] in
    cell_is c.args.self.now.attributes c.args.values.now cell (are_values c.args.self.now.attributes c.args.values.now c.requires.one_each c.requires.in_range) (sym last ∙ c.loop-attribute.invariant.reaches)

pub returns-clause-in_range : goal.returns-clause-in_range
returns-clause-in_range c = (ended c).in_range

pub returns-clause-values : goal.returns-clause-values
returns-clause-values c = (ended c).values_are

pub overflow_mul-cell : goal.overflow_mul-cell
overflow_mul-cell c =
    let steps = c.in-Some.ensures.steps in
    let keeps = c.loop-attribute.invariant in
    let room = room_for c.loop-attribute.cell c.loop-attribute.attribute-iterator.a.rest.now c.loop-attribute.attribute-iterator.b.rest.now c.in-Some.attribute.now _ c.in-Some.value.now _ steps.0 steps.1 keeps.are_values keeps.room in
    let items : c.len.result ≡ length c.attribute.inside.values.items = grind arith in
    let len : c.len.result ≡ length c.in-Some.attribute.now.values = items ∙ sym (length-map c.attribute.inside.values.items (λ t. string_bytes t)) ∙ ap (λ (a : Attribute). length a.values) c.attribute.view_is in
    rw len (grind (arith, room))

pub overflow_add-cell : goal.overflow_add-cell
overflow_add-cell c =
    let steps = c.in-Some.ensures.steps in
    let keeps = c.loop-attribute.invariant in
    let room = room_for c.loop-attribute.cell c.loop-attribute.attribute-iterator.a.rest.now c.loop-attribute.attribute-iterator.b.rest.now c.in-Some.attribute.now _ c.in-Some.value.now _ steps.0 steps.1 keeps.are_values keeps.room in
    let items : c.len.result ≡ length c.attribute.inside.values.items = grind arith in
    let len : c.len.result ≡ length c.in-Some.attribute.now.values = items ∙ sym (length-map c.attribute.inside.values.items (λ t. string_bytes t)) ∙ ap (λ (a : Attribute). length a.values) c.attribute.view_is in
    rw (len, c.from.ensures) (grind (arith, room))
