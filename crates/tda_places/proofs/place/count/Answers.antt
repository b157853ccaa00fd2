use Rattle.std.proofs.Common.{◌∙◌, ap, sym}
use Rattle.tda_places.specs.Spots.{before_level}
use Rattle.tda_places.proofs.Sizes.{all_are, count_is}
use Rattle.tda_places.proofs.place.count.Goals as goal

pub returns-clause-places : goal.returns-clause-places
returns-clause-places c =
    c.before_level.ensures.count ∙ ap (before_level c.args.schema.now c.args.spine.now) c.levels.ensures.count ∙ sym (all_are c.args.schema.now c.args.spine.now)

pub returns-clause-count : goal.returns-clause-count
returns-clause-count c =
    c.before_level.ensures.count ∙ ap (before_level c.args.schema.now c.args.spine.now) c.levels.ensures.count ∙ sym (all_are c.args.schema.now c.args.spine.now)
    ∙ count_is c.args.schema.now c.args.spine.now c.units.ensures.sound c.requires.belong
