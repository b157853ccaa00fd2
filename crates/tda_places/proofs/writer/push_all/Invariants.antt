use Rattle.std.proofs.Common.{◌≡◌, ◌++◌, take}
use Rattle.std.specs.List.{flat_map, zip}
use Rattle.tda_io.specs.Texts.{row_text}
use Rattle.tda_places.specs.Measurements.{header, measurement_row}
use Rattle.tda_places.specs.Places.{places_of}
use Rattle.tda_places.proofs.Gathering.{StandsBefore}
use Rattle.tda_places.proofs.writer.push_all.Given as goal

abbrev pub invariant-loop-index : goal.invariant-loop-index
invariant-loop-index l = record {
  text : l.out.items ≡ l.fn.out.items ++ row_text header ++ flat_map (λ x. row_text (measurement_row l.schema l.spine x.0 x.1)) (take l.index (zip (places_of l.schema l.spine) l.m));
  last : StandsBefore l.schema l.spine l.index l.last;
}
