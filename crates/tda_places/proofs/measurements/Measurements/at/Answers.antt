use Rattle.std.proofs.Common.{◌≡◌, ◌<◌, ◌≤◌, ◌^◌, ◌∙◌, ℤ, Some, ap, sym, arith, length, to_z, of_z}
use Rattle.std.specs.Prelude.{pos, nat_abs, slice_get}
use Rattle.std.proofs.lemmas.Int.{ints, to_z-of_z}
use Rattle.std.proofs.lemmas.Option.{slice_get-get_or}
use Rattle.std.specs.Int.{w64}
use Rattle.tda_places.proofs.measurements.Measurements.at.Goals as goal

-- a number that is small enough is kept as it is
kept : (z : ℤ) → nat_abs z ≤ 2 ^ 31 → to_z w64 (of_z w64 z) ≡ z
kept z small = to_z-of_z w64 z (omega (arith, ints, small))

pub get-requires : goal.get-requires
get-requires c = omega (arith, c.index_of.ensures.within, c.requires.measured.size)

pub returns-clause-beside : goal.returns-clause-beside
returns-clause-beside c =
    let m = c.args.self.now in
    let below : c.index_of.result < length m = omega (arith, c.index_of.ensures.within, c.requires.measured.size) in
    record {
      index = c.index_of.result;
      place = c.index_of.ensures.there;
      number = slice_get-get_or m c.index_of.result (pos 0) below ∙ ap Some (sym (kept c.get.result c.get.ensures.limit ∙ c.get.ensures.value));
    }
