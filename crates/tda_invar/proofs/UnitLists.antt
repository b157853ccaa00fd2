-- The children and the blocks of a unit are units, and not too many.
use Rattle.std.proofs.Common.{◌≡◌, ℕ, ◌+◌, ◌-◌, ◌*◌, ◌<◌, ◌≤◌, ◌^◌, List, [], ◌∷◌, length, All, filter, Bool, true, false, cond, refl, arith}
use Rattle.std.proofs.lemmas.List.Elements.{All-from_recursion}
use Rattle.tda_model.specs.Spine.{Spine, is_over, is_child, children_of, blocks_of, units_at, unit_numbers, is_at}
use Rattle.tda_model.proofs.Sums.{each_filter, each_range}
use Rattle.tda_spine.specs.Sound.{IsSound}
use Rattle.tda_spine.proofs.Numbers.{length-kept-le}

filter_le : (p : ℕ → Bool) (xs : List ℕ) → length (filter p xs) ≤ length xs
filter_le p [] = omega arith
filter_le p (x ∷ xs) = by (p x) (filter_le p xs)
  where
    by : (b : Bool) → length (filter p xs) ≤ length xs → length (cond b (x ∷ filter p xs) (filter p xs)) ≤ length (x ∷ xs)
    by true le = omega arith
    by false le = omega arith

module _ (sp : Spine) (u : ℕ) where
  pub children_within : All (λ c. c < length sp.units) (children_of sp u)
  children_within =
      All-from_recursion (λ c. c < length sp.units) (children_of sp u)
      (each_filter (λ c. c < length sp.units) (is_child sp u) (unit_numbers sp) (each_range _ 0 (length sp.units) (λ c from to is. omega arith)))

  pub few_children : IsSound sp → length (children_of sp u) ≤ 2 ^ 17
  few_children sound =
      let all = length-kept-le (is_child sp u) (length sp.units) in
      omega (arith, all, sound.few)

  pub few_blocks : IsSound sp → length (blocks_of sp u) ≤ 2 ^ 17
  few_blocks sound =
      let among = filter_le (λ v. is_over sp u v sp.depth) (units_at sp (sp.depth - 1)) in
      let all = length-kept-le (is_at sp (sp.depth - 1)) (length sp.units) in
      omega (arith, among, all, sound.few)
