-- The rows of a regular spine's units are those of the preorder.
use Rattle.std.proofs.Common.{◌≡◌, ℕ, zero, suc, ◌+◌, ◌*◌, ◌<◌, ◌≤◌, List, [], ◌∷◌, ◌++◌, map, Option, Some, None, refl, ap, ◌∙◌, arith}
use Rattle.std.specs.List.{flat_map, range_with_len}
use Rattle.std.proofs.lemmas.List.{map-append}
use Rattle.tda_io.specs.Csv.{Row}
use Rattle.tda_model.specs.Schema.{Schema}
use Rattle.tda_model.specs.Spine.{Spine, SpineUnit, level_of, code_of}
use Rattle.tda_demo.specs.Preorder.{Branch, tree_size, child_code, child_place, child, nation, regular_spine}
use Rattle.tda_demo.specs.PreorderRows.{rows_below, nation_row}
use Rattle.tda_demo.specs.Names.{level_name}
use Rattle.tda_demo.specs.SpineText.{parent_code, unit_row, unit_rows}
use Rattle.tda_demo.proofs.Ranges.{range_split}
use Rattle.tda_demo.proofs.Nodes.{Node, child_node, whole_node, whole_size}

module _ (s : Schema) (code : List ℕ) (whole : List Branch) where
  abbrev sp : Spine
  sp = regular_spine code whole

  abbrev row : ℕ → Row
  row u = unit_row s sp u

  three : (u : ℕ) (c : List ℕ) (l : ℕ) (p : List ℕ) → code_of sp u ≡ c → level_of sp u ≡ l → parent_code sp u ≡ p → row u ≡ c ∷ level_name s l ∷ p ∷ []
  three u c l p ec el ep = ap (λ x. x ∷ level_name s (level_of sp u) ∷ parent_code sp u ∷ []) ec ∙ ap (λ m. c ∷ level_name s m ∷ parent_code sp u ∷ []) el ∙ ap (λ x. c ∷ level_name s l ∷ x ∷ []) ep

  code_at : (bs : List Branch) (x : SpineUnit) (stem : List ℕ) (at : ℕ) → Node sp.units bs x stem at → code_of sp at ≡ x.code
  code_at bs x stem at node = let here = node.here in ap (λ o. elim o as (λ _. List ℕ) [ Some y ↦ y.code | None ↦ [] ]) here

  child_row : (b : Branch) (bs : List Branch) (x : SpineUnit) (stem : List ℕ) (at k : ℕ) → Node sp.units (b ∷ bs) x stem at → k < b.count
      → row (child_place at bs k) ≡ child_code stem b k ∷ level_name s (x.level + 1) ∷ x.code ∷ []
  child_row b bs x stem at k node low =
      let one = child_node sp.units b bs x stem at k node low in
      let here = one.here in
      three (child_place at bs k) (child_code stem b k) (x.level + 1) x.code
      (ap (λ o. elim o as (λ _. List ℕ) [ Some y ↦ y.code | None ↦ [] ]) here)
      (ap (λ o. elim o as (λ _. ℕ) [ Some y ↦ y.level | None ↦ 0 ]) here)
      (ap (λ o. elim (elim o as (λ _. Option ℕ) [ Some y ↦ y.parent | None ↦ None ]) as (λ _. List ℕ) [ Some p ↦ code_of sp p | None ↦ [] ]) here ∙ code_at (b ∷ bs) x stem at node)

  tree_rows : (bs : List Branch) (x : SpineUnit) (stem : List ℕ) (at : ℕ) → Node sp.units bs x stem at
      → map row (range_with_len at (tree_size bs)) ≡ row at ∷ rows_below s bs x.level stem x.code
  tree_rows [] x stem at node = refl
  tree_rows (b ∷ bs) x stem at node =
      let e : tree_size (b ∷ bs) ≡ suc (b.count * tree_size bs) = omega arith in
      let first : at + 1 ≡ at + 1 + 0 * tree_size bs = omega arith in
      ap (λ n. map row (range_with_len at n)) e
      ∙ ap (λ xs. row at ∷ xs) (ap (λ p. map row (range_with_len p (b.count * tree_size bs))) first ∙ blocks 0 b.count (omega arith)
      (λ k low. tree_rows bs (child x.level at stem b k) (child_code stem b k) (child_place at bs k) (child_node sp.units b bs x stem at k node low)
      ∙ ap (λ r. r ∷ rows_below s bs (x.level + 1) (child_code stem b k) (child_code stem b k)) (child_row b bs x stem at k node low)))
    where
      blocks : (i n : ℕ) → i + n ≤ b.count
          → ((k : ℕ) → k < b.count → map row (range_with_len (child_place at bs k) (tree_size bs)) ≡ (child_code stem b k ∷ level_name s (x.level + 1) ∷ x.code ∷ []) ∷ rows_below s bs (x.level + 1) (child_code stem b k) (child_code stem b k))
          → map row (range_with_len (at + 1 + i * tree_size bs) (n * tree_size bs))
          ≡ flat_map (λ k. (child_code stem b k ∷ level_name s (x.level + 1) ∷ x.code ∷ []) ∷ rows_below s bs (x.level + 1) (child_code stem b k) (child_code stem b k)) (range_with_len i n)
      blocks i zero few each = let e : zero * tree_size bs ≡ zero = omega arith in ap (λ n. map row (range_with_len (at + 1 + i * tree_size bs) n)) e
      blocks i (suc n) few each =
          let e : suc n * tree_size bs ≡ tree_size bs + n * tree_size bs = omega arith in
          let p : at + 1 + i * tree_size bs + tree_size bs ≡ at + 1 + (i + 1) * tree_size bs = omega arith in
          ap (λ m. map row (range_with_len (at + 1 + i * tree_size bs) m)) e
          ∙ ap (map row) (range_split (at + 1 + i * tree_size bs) (tree_size bs) (n * tree_size bs))
          ∙ map-append row (range_with_len (at + 1 + i * tree_size bs) (tree_size bs)) (range_with_len (at + 1 + i * tree_size bs + tree_size bs) (n * tree_size bs))
          ∙ ap (λ xs. xs ++ map row (range_with_len (at + 1 + i * tree_size bs + tree_size bs) (n * tree_size bs))) (each i (omega arith))
          ∙ ap (λ xs. ((child_code stem b i ∷ level_name s (x.level + 1) ∷ x.code ∷ []) ∷ rows_below s bs (x.level + 1) (child_code stem b i) (child_code stem b i)) ++ xs)
          (ap (λ q. map row (range_with_len q (n * tree_size bs))) p ∙ blocks (i + 1) n (omega arith) each)

  pub rows_are : unit_rows s sp ≡ nation_row s code ∷ rows_below s whole 0 [] code
  rows_are =
      ap (λ n. map row (range_with_len 0 n)) (whole_size code whole) ∙ tree_rows whole (nation code) [] 0 (whole_node code whole)
