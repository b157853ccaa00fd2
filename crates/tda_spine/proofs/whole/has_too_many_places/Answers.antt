use Rattle.std.proofs.Common.{◌∙◌, ap, arith}
use Rattle.tda_model.specs.Sizes.{places_at}
use Rattle.tda_spine.specs.Rows.{spine_in}
use Rattle.tda_spine.proofs.Limits.{too_many, one_more, not_many}
use Rattle.tda_spine.proofs.UnitRows.{many}
use Rattle.tda_spine.proofs.whole.has_too_many_places.Goals as goal

pub returns-then-places-left : goal.returns-then-places-left
returns-then-places-left c =
    let s = c.args.schema.now in
    let rows = c.args.rows.now in
    let here = c.places-places.ensures ∙ ap (places_at s) c.level.ensures.level in
    too_many s (spine_in s rows) c.loop-unit.unit c.loop-unit.left c.loop-unit.invariant (omega (arith, many s rows)) (omega (arith, here, c.if-places-left.true))

pub loop-unit-preserved : goal.loop-unit-preserved
loop-unit-preserved c =
    let s = c.args.schema.now in
    let rows = c.args.rows.now in
    let here = c.places-places.ensures ∙ ap (places_at s) c.level.ensures.level in
    one_more s (spine_in s rows) c.loop-unit.unit c.loop-unit.left c.loop-unit.invariant _ (omega (arith, many s rows)) (omega (arith, here, c.if-places-left.false))

pub returns : goal.returns
returns c =
    let s = c.args.schema.now in
    let rows = c.args.rows.now in
    not_many s (spine_in s rows) c.loop-unit.unit c.loop-unit.left c.loop-unit.invariant (omega (arith, many s rows))
