use Rattle.std.proofs.Common.{◌∙◌, Some, ap, sym}
use Rattle.tda_places.proofs.Spots.{place_got}
use Rattle.tda_places.proofs.place.place_at.Goals as goal

pub returns-clause-value : goal.returns-clause-value
returns-clause-value c =
    place_got c.args.schema.now c.args.spine.now c.args.index c.spot_at.result c.spot_at.ensures ∙ ap Some (sym c.place_of.ensures.value)
