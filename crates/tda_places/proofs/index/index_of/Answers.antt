use Rattle.std.proofs.Common.{◌∙◌, Some, ap, sym}
use Rattle.tda_places.specs.Places.{index_of}
use Rattle.tda_places.proofs.Indexes.{index_there}
use Rattle.tda_places.proofs.Spots.{index_below, place_got}
use Rattle.tda_places.proofs.index.index_of.Goals as goal

pub returns-clause-index : goal.returns-clause-index
returns-clause-index c =
    let s = c.args.schema.now in
    let sp = c.args.spine.now in
    ap (index_of s sp) (sym c.spot_of.ensures.is) ∙ index_there s sp c.index_of_spot.result c.spot_of.result c.index_of_spot.ensures

pub returns-clause-there : goal.returns-clause-there
returns-clause-there c =
    place_got c.args.schema.now c.args.spine.now c.index_of_spot.result c.spot_of.result c.index_of_spot.ensures ∙ ap Some c.spot_of.ensures.is

pub returns-clause-within : goal.returns-clause-within
returns-clause-within c = index_below c.args.schema.now c.args.spine.now c.index_of_spot.result c.spot_of.result c.index_of_spot.ensures
