-- The walk over groups in order: each group's next is the last one before it that has its first cell.
use Rattle.std.proofs.Common.{◌≡◌, ℕ, ◌+◌, ◌<◌, ◌^◌, cond, List, [], ◌∷◌, ◌++◌, length, get_or, map, replicate, All, Contains, Option, Some, None, MatchOption, refl, sym, ap, ◌∙◌, subst, arith, add-one}
use Rattle.std.specs.List.{range_with_len}
use Rattle.std.proofs.lemmas.List.{get_or_read, get_or-replicate, length-replicate}
use Rattle.std.proofs.lemmas.List.Elements.{All-contains}
use Rattle.std.proofs.lemmas.List.FromFn.{length-map-range_with_len, get_or-map-range_with_len}
use Rattle.tda_schema.specs.Parts.{holds}
use Rattle.tda_sets.proofs.Ranges.{map_range_push}
use Rattle.tda_groups.specs.Order.{first_cell, group_at, AreGroups, IsNext, IsSmallest, AreLinked}
use Rattle.tda_groups.proofs.Ordering.{has_first}
use Rattle.tda_groups.proofs.Chained.{last_below, has_cell, set_at, smallest_is, next_is}

abbrev pub next_of : List (List ℕ) → ℕ → Option ℕ
next_of groups g = last_below (has_cell groups (first_cell (group_at groups g))) g

-- the next of the first n groups, and of each cell the smallest of these
pub record IsWalked (groups : List (List ℕ)) (cells n : ℕ) (next smallest : List (Option ℕ)) : Type 0 where
  pub size : length smallest ≡ cells
  pub lasts : (j : ℕ) → j < cells → get_or smallest j None ≡ last_below (has_cell groups j) n
  pub nexts : next ≡ map (next_of groups) (range_with_len 0 n)

pub walked_none : (groups : List (List ℕ)) (cells : ℕ) (next smallest : List (Option ℕ)) → next ≡ [] → smallest ≡ replicate cells None → IsWalked groups cells 0 next smallest
walked_none groups cells next smallest none fresh = record {
  size = ap length fresh ∙ length-replicate cells None;
  lasts = λ j below. ap (λ xs. get_or xs j None) fresh ∙ get_or-replicate cells j None None below;
  nexts = none;
}

module _ (groups : List (List ℕ)) (h : AreGroups groups) (cells : ℕ) (within : All (λ xs. All (λ j. j < cells) xs) groups) where
  pub cell_below : (g j : ℕ) → g < length groups → Contains (group_at groups g) j → j < cells
  cell_below g j low found = All-contains (λ i. i < cells) (group_at groups g) j (within g [] low) found

  pub first_below : (g : ℕ) → g < length groups → first_cell (group_at groups g) < cells
  first_below g low = cell_below g (first_cell (group_at groups g)) low (has_first (group_at groups g) (set_at groups h g low))

  pub walked_more : (n : ℕ) (set : List ℕ) (next next' smallest smallest' : List (Option ℕ)) (y : Option ℕ) → IsWalked groups cells n next smallest → n < length groups → set ≡ group_at groups n
      → y ≡ get_or smallest (first_cell set) y → next' ≡ next ++ y ∷ [] → length smallest' ≡ cells
      → ((j : ℕ) → j < cells → get_or smallest' j None ≡ cond (holds set j) (Some n) (get_or smallest j None))
      → IsWalked groups cells (n + 1) next' smallest'
  walked_more n set next next' smallest smallest' y w below is read pushed size marked = record {
    size = size;
    lasts = λ j low. marked j low ∙ ap (λ xs. cond (holds xs j) (Some n) (get_or smallest j None)) is ∙ ap (λ o. cond (has_cell groups j n) (Some n) o) (w.lasts j low) ∙ rw add-one refl;
    nexts =
        let first : first_cell set ≡ first_cell (group_at groups n) = ap first_cell is in
        let low = first_below n below in
        let value : y ≡ next_of groups n =
        get_or_read smallest (first_cell set) y (let size = w.size in omega arith) read None ∙ ap (λ j. get_or smallest j None) first ∙ w.lasts (first_cell (group_at groups n)) low in
        map_range_push (next_of groups) n next next' y pushed w.nexts value;
  }

  pub walked_all : (next smallest : List (Option ℕ)) → length groups < 2 ^ 32 → IsWalked groups cells (length groups) next smallest → AreLinked groups next smallest
  walked_all next smallest few w = record {
    in_order = h;
    few = few;
    next_count = ap length w.nexts ∙ length-map-range_with_len (next_of groups) 0 (length groups);
    next_is = λ g low.
        let is : get_or next g None ≡ next_of groups g = ap (λ xs. get_or xs g None) w.nexts ∙ get_or-map-range_with_len (next_of groups) 0 (length groups) g g None low (omega arith) in
        subst (λ o. MatchOption o (g ≡ 0) (IsNext groups g)) (sym is) (next_is groups h g low);
    smallest_count = λ j whole. let below = cell_below 0 j (omega (arith, h.some)) whole in omega (arith, w.size);
    smallest_is = λ j whole.
        subst (λ o. MatchOption o ⊥ (IsSmallest groups j)) (sym (w.lasts j (cell_below 0 j (omega (arith, h.some)) whole))) (smallest_is groups h j whole);
  }
