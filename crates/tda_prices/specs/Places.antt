-- The fields of a row before its price, as they are compared and written.
use Rattle.std.specs.Prelude.{[], ◌∷◌}
use Rattle.std.specs.Fmt.{decimal}
use Rattle.tda_io.specs.Csv.{Row}
use Rattle.tda_prices.specs.declared.place.Place.{Place}

abbrev pub fields_of : Place → Row
fields_of place = place.fit.now ∷ place.part.now ∷ place.unit.now ∷ decimal place.item ∷ []
