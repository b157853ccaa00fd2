use Rattle.tda_model.specs.Spine.{level_of}
use Rattle.tda_schema.specs.Stated.{query_at}
use Rattle.tda_places.proofs.Indexes.{unit_among}
use Rattle.tda_places.proofs.Rising.{classes_rise, units_rise}
use Rattle.tda_places.proofs.index.spot_of.Goals as goal

pub find-requires-clause-rise : goal.find-requires-clause-rise
find-requires-clause-rise c = rw c.at_level.ensures (units_rise c.args.spine.now c.level-level.result)

pub find-requires-clause-there : goal.find-requires-clause-there
find-requires-clause-there c =
    rw (c.at_level.ensures, c.level-level.ensures) (unit_among c.args.spine.now c.args.place.unit c.requires.place.unit)

pub find-requires-2-clause-rise : goal.find-requires-2-clause-rise
find-requires-2-clause-rise c =
    rw c.classes.ensures.value (classes_rise c.args.schema.now (query_at c.args.schema.now c.level-level.result c.args.place.query))
