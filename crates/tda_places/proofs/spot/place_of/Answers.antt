use Rattle.tda_places.proofs.Spots.{is_one}
use Rattle.tda_places.proofs.spot.place_of.Goals as goal

pub returns-clause-is : goal.returns-clause-is
returns-clause-is c =
    rw (c.at_level.ensures, c.classes.ensures.value)
    (is_one c.args.schema.now c.args.spine.now c.args.spot c.requires.unit c.requires.query c.requires.class)
