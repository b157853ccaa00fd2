use Rattle.std.proofs.Common.{◌≡◌, [], Some, drop, length, map}
use Rattle.std.specs.List.{flat_map}
use Rattle.tda_prices.specs.Left.{Reads}
use Rattle.tda_prices.specs.PricesText.{fit_places, places_of}
use Rattle.tda_prices.proofs.Splits.{BeginTo}
use Rattle.tda_prices.proofs.reader.read_fits.Given as goal

abbrev pub invariant-loop-parent : goal.invariant-loop-parent
invariant-loop-parent l = record {
  reads : Reads (places_of l.schema l.spine) (flat_map (fit_places l.schema l.spine) (map Some (drop l.parent-index l.parent-items))) l.fn.rows l.rows [] l.numbers.items;
  units : length l.starts.items ≡ length l.spine.units;
  begin : BeginTo l.schema l.spine l.starts.items l.parent-items l.parent-index;
}
