-- How many places the units of a spine have.
use Rattle.std.proofs.Common.{◌≡◌, ℕ, ◌+◌, ◌<◌, ◌≤◌, ◌^◌, true, false, nat_lt, length, get_or, take, sum_by, ap, ◌∙◌, arith}
use Rattle.std.proofs.lemmas.Bool.Decides.{nat_tests}
use Rattle.std.proofs.lemmas.List.{take_all}
use Rattle.std.proofs.lemmas.List.Sums.{sum_by_more, sum_by_more_le}
use Rattle.std.proofs.lemmas.List.FromFn.{length-range_with_len, get_or-range_with_len}
use Rattle.tda_model.specs.Schema.{Schema}
use Rattle.tda_model.specs.Spine.{Spine, level_of, unit_numbers}
use Rattle.tda_model.specs.Sizes.{places_at, place_count, places_limit}

module _ (s : Schema) (sp : Spine) where
  abbrev pub places_of : ℕ → ℕ
  places_of u = places_at s (level_of sp u)

  module _ (k left : ℕ) (so_far : left + sum_by places_of (take k (unit_numbers sp)) ≡ 2 ^ 21) where
    long : length (unit_numbers sp) ≡ length sp.units
    long = length-range_with_len 0 (length sp.units)

    here : k < length sp.units → places_of (get_or (unit_numbers sp) k 0) ≡ places_of k
    here below = ap places_of (get_or-range_with_len 0 (length sp.units) k 0 below ∙ omega arith)

    pub too_many : k < length sp.units → left < places_of k → true ≡ nat_lt places_limit (place_count s sp)
    too_many below more =
        let part = sum_by_more_le places_of (unit_numbers sp) k 0 (omega (arith, long)) in
        let over : 2 ^ 21 < place_count s sp = omega (arith, part, here below, so_far, more) in
        grind (arith, nat_tests)

    pub one_more : (next : ℕ) → k < length sp.units → next + places_of k ≡ left → next + sum_by places_of (take (k + 1) (unit_numbers sp)) ≡ 2 ^ 21
    one_more next below less = omega (arith, sum_by_more places_of (unit_numbers sp) k 0 (omega (arith, long)), here below, so_far, less)

    pub not_many : length sp.units ≤ k → false ≡ nat_lt places_limit (place_count s sp)
    not_many all =
        let whole = ap (sum_by places_of) (take_all k (unit_numbers sp) (omega (arith, long))) in
        let under : place_count s sp ≤ 2 ^ 21 = omega (arith, whole, so_far) in
        grind (arith, nat_tests)
