-- Sets that have a cell, sorted: what holds of them follows from the sets they were taken from.
use Rattle.std.proofs.Common.{◌≡◌, ◌↔◌, ◌==◌, ℕ, ◌≤◌, true, List, length, filter, All, Contains, sym, ap, subst, arith}
use Rattle.std.specs.List.Sorted.{IsPermutation, IsStrictlyIncreasing}
use Rattle.std.proofs.lemmas.Bool.{ne_eqb, eqb-false, not-true, not_from_false}
use Rattle.std.proofs.lemmas.List.Elements.{All-contains}
use Rattle.std.proofs.lemmas.List.Sorted.{IsPermutation-sym, Contains-permutation, length_permutation}
use Rattle.std.proofs.lemmas.List.Sums.{length-filter, count_by-le-length}
use Rattle.tda_sets.specs.Nested.{AreAllNested}
use Rattle.tda_sets.proofs.AllNested.{AreAllNested-fewer}
use Rattle.tda_sets.proofs.Members.{All-from_Contains, Contains-filter, Contains-unfiltered, filter_holds}
use Rattle.tda_groups.specs.Order.{has_cells, IsCellSet}

pub some_cells : (xs : List ℕ) → has_cells xs ≡ true → 1 ≤ length xs
some_cells xs h = let some = eqb-false (length xs) 0 (not-true (length xs == 0) h) in omega arith

pub has_some : (xs : List ℕ) → 1 ≤ length xs → has_cells xs ≡ true
has_some xs some = not_from_false (length xs == 0) (ne_eqb (length xs) 0 (λ e. omega arith))

module _ (sets kept sorted : List (List ℕ)) (filled : kept ≡ filter has_cells sets) (moved : IsPermutation kept sorted) where
  back : (xs : List ℕ) → Contains sorted xs → Contains (filter has_cells sets) xs
  back xs found = subst (λ zs. Contains zs xs) filled (Contains-permutation sorted kept xs (IsPermutation-sym kept sorted moved) found)

  pub from : (xs : List ℕ) → Contains sorted xs → Contains sets xs
  from xs found = Contains-unfiltered has_cells sets xs (back xs found)

  pub some : (xs : List ℕ) → Contains sorted xs → 1 ≤ length xs
  some xs found = some_cells xs (filter_holds has_cells sets xs (back xs found))

  pub has : (xs : List ℕ) → Contains sets xs → 1 ≤ length xs → Contains sorted xs
  has xs found cells = Contains-permutation kept sorted xs moved (subst (λ zs. Contains zs xs) (sym filled) (Contains-filter has_cells sets xs found (has_some xs cells)))

  pub few : length sorted ≤ length sets
  few = omega (arith, length_permutation kept sorted moved, ap length filled, length-filter has_cells sets, count_by-le-length has_cells sets)

  pub nested : AreAllNested sets sets → AreAllNested sorted sorted
  nested all = AreAllNested-fewer sets sets sorted sorted from from all

  pub cell_sets : All IsStrictlyIncreasing sets → All IsCellSet sorted
  cell_sets all = All-from_Contains IsCellSet sorted (λ xs found. record { some = some xs found; ascending = All-contains IsStrictlyIncreasing sets xs all (from xs found) })

  pub exact : (groups : List (List ℕ)) → ((xs : List ℕ) → Contains groups xs ↔ Contains sorted xs) → (xs : List ℕ) → Contains groups xs ↔ (Contains sets xs × (1 ≤ length xs))
  exact groups same xs = (
    λ found. (from xs ((same xs).0 found), some xs ((same xs).0 found)),
    λ found. (same xs).1 (has xs found.0 found.1),
  )
