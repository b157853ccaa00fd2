-- How many numbers, sets and families there are at most.
use Rattle.std.proofs.Common.{◌≡◌, ◌==◌, Bool, true, ℕ, ◌*◌, ◌<◌, ◌≤◌, ◌^◌, List, [], ◌∷◌, length, map, filter, get_or, All, Bor, sym, ap, ◌∙◌, arith}
use Rattle.std.specs.List.{range_with_len}
use Rattle.std.proofs.lemmas.List.{length-append, length-map, get_or-map}
use Rattle.std.proofs.lemmas.List.Elements.{All-from_recursion, All-tail, All-head, All-map}
use Rattle.std.proofs.lemmas.List.FromFn.{length-range_with_len}
use Rattle.std.proofs.lemmas.List.Sums.{length-filter, count_by-le-length}
use Rattle.tda_model.specs.Schema.{Query, Level, Schema}
use Rattle.tda_model.specs.Cells.{cell_count, is_possible, kind_of}
use Rattle.tda_model.specs.Groups.{one_class, each_once}
use Rattle.tda_model.proofs.Sums.{Each}
use Rattle.tda_sets.specs.Family.{Names, is_in, set_of, firsts, sets_of}
use Rattle.tda_sets.specs.Nested.{all_sets}
use Rattle.tda_sets.proofs.AllNested.{lent}
use Rattle.tda_sets.proofs.Families.{length-family_of}
use Rattle.tda_sets.proofs.Once.{length-each_once}
use Rattle.tda_schema.specs.Classes.{query_family, level_families, AreFamiliesOf}

passing_few : {X : Type 0} (p : X → Bool) (xs : List X) → length (filter p xs) ≤ length xs
passing_few p xs = omega (arith, length-filter p xs, count_by-le-length p xs)

-- ---- sets of families

sets_few : (names : Names) → length (sets_of names) ≤ length names
sets_few names =
    omega (arith, length-map (firsts names) (set_of names), passing_few (λ i. is_in names i i) (range_with_len 0 (length names)), length-range_with_len 0 (length names))

all_sets_few : (m : ℕ) (families : List Names) → All (λ f. length f ≤ m) families → length (all_sets families) ≤ length families * m
all_sets_few m [] h = omega arith
all_sets_few m (f ∷ rest) h =
    let here : length f ≤ m = All-head (λ g. length g ≤ m) f rest h in
    let more = all_sets_few m rest (All-tail (λ g. length g ≤ m) f rest h) in
    omega (arith, here, more, sets_few f, length-append (sets_of f) (all_sets rest))

pub group_count_few : (families : List (Bor Names)) → length families ≤ 16 → All (λ f. length f.now ≤ 4096) families → length (each_once (all_sets (lent families))) < 2 ^ 32
group_count_few families few small =
    let all : All (λ f. length f ≤ 4096) (lent families) = All-map (λ f. length f ≤ 4096) (λ f. f.now) families small in
    omega (arith, length-each_once (all_sets (lent families)), all_sets_few 4096 (lent families) all, length-map families (λ f. f.now))

-- ---- the families of a level

module _ (s : Schema) where
  abbrev HasCells : Names → Type 0
  HasCells names = length names ≡ cell_count s

  query_cells : (qs : List Query) → Each HasCells (map (query_family s) qs)
  query_cells [] = tt
  query_cells (q ∷ qs) = (length-family_of (cell_count s) (is_possible s) (one_class s q), query_cells qs)

  module _ (l : Level) where
    level_cells : All HasCells (level_families s l)
    level_cells =
        All-from_recursion HasCells (level_families s l)
        (length-family_of (cell_count s) (is_possible s) (λ i j. true), (length-family_of (cell_count s) (is_possible s) (λ i j. kind_of s i == kind_of s j), query_cells l.queries))

    module _ (families : List (Bor Names)) (are : AreFamiliesOf s l (lent families)) where
      has_cells : (k : ℕ) (d : Bor Names) → k < length families → length (get_or families k d).now ≡ cell_count s
      has_cells k d below =
          let near : k < length (level_families s l) = omega (arith, ap length are.value, length-map families (λ f. f.now)) in
          ap length (sym (get_or-map (λ f. f.now) families k d d.now below) ∙ ap (λ fs. get_or fs k d.now) are.value) ∙ level_cells k d.now near

      pub families_one_length : All (λ f. All (λ g. length f.now ≡ length g.now) families) families
      families_one_length k d below j e near = has_cells k d below ∙ sym (has_cells j e near)

      pub families_cells : All (λ f. length f.now ≤ 4096) families
      families_cells k d below = omega (arith, has_cells k d below, are.looked_up.limits.cells)

      pub families_few : length families ≤ 16
      families_few = omega (arith, ap length are.value, length-map families (λ f. f.now), length-map l.queries (query_family s), are.level.few)
