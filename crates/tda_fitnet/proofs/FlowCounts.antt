-- The counts and shares that are read off the flows of families and of tables of the nation.
use Rattle.std.proofs.Common.{◌≡◌, ℕ, zero, suc, ◌+◌, ◌<◌, ◌≤◌, ◌==◌, List, [], ◌∷◌, ◌++◌, length, map, get_or, slice_index, refl, sym, ap, ◌∙◌, inl, inr, arith}
use Rattle.std.specs.Prelude.{position, Some, None}
use Rattle.std.specs.List.{range_with_len, flat_map}
use Rattle.std.proofs.lemmas.Bool.{cases_Bool}
use Rattle.tda_model.specs.Cells.{cell_count, is_possible, possible_cells}
use Rattle.tda_model.specs.Groups.{kind_count}
use Rattle.tda_model.specs.Spine.{nation_of, children_of, units_at}
use Rattle.tda_model.specs.Tables.{Table, Tables}
use Rattle.tda_model.specs.First.{counts_of, family_counts}
use Rattle.tda_model.specs.Least.{IsFamily}
use Rattle.tda_model.specs.Release.{Inputs, CanBe}
use Rattle.tda_fitnet.specs.Layout.{row, give_place, share_place}
use Rattle.tda_fitnet.specs.Arcs.{state_at, cell_at, child_at, root_layout, split_layout}
use Rattle.tda_fitnet.specs.Fits.{group_sum, AreShares, AreListedShares, root_flow, split_flow}
use Rattle.tda_fitnet.specs.FitNetwork.{root_fit, split_fit, flow_count, flow_counts, flow_shares}
use Rattle.tda_fitnet.proofs.Ranges.{length_rows, get_rows, at_give, at_share}
use Rattle.tda_fitnet.proofs.GroupBounds.{Vanishes}
use Rattle.tda_fitnet.proofs.NationShares.{attains_vanishes}
use Rattle.tda_fitnet.proofs.SplitFit.{is_cell}
use Rattle.tda_fitnet.proofs.Counted.{by_position}

map_same : (f g : ℕ → ℕ) (a n : ℕ) → ((j : ℕ) → a ≤ j → j < a + n → f j ≡ g j) → map f (range_with_len a n) ≡ map g (range_with_len a n)
map_same f g a zero h = refl
map_same f g a (suc n) h = ap (λ v. v ∷ map f (range_with_len (a + 1) n)) (h a (omega arith) (omega arith)) ∙ ap (λ xs. g a ∷ xs) (map_same f g (a + 1) n (λ j low high. h j (omega arith) (omega arith)))

-- rows by the places of a list's elements
rows_by_list : (f : ℕ → List ℕ) (g : ℕ → List ℕ) (cs : List ℕ) (a : ℕ) → ((u : ℕ) → u < length cs → f (a + u) ≡ g (get_or cs u 0)) → flat_map f (range_with_len a (length cs)) ≡ flat_map g cs
rows_by_list f g [] a h = refl
rows_by_list f g (c ∷ cs) a h =
    let z : a + 0 ≡ a = omega arith in
    ap (λ xs. xs ++ flat_map f (range_with_len (a + 1) (length cs))) (ap f (sym z) ∙ h 0 (omega arith))
    ∙ ap (λ ys. g c ++ ys) (rows_by_list f g cs (a + 1) (λ u l. let e : a + 1 + u ≡ a + suc u = omega arith in ap f e ∙ h (suc u) (omega arith)))

module _ (i : Inputs) where
  -- the count of a cell, where the flows are those of a table
  count_is : (value : ℕ → ℕ) (x : Table) → Vanishes i.schema x → ((r : ℕ) → r < length (possible_cells i.schema) → value r ≡ x (cell_at i r)) → (j : ℕ) → j < cell_count i.schema
      → x j ≡ elim (position (λ cell. cell == j) (possible_cells i.schema)) [ Some r ↦ value r | None ↦ 0 ]
  count_is value x none are j l =
      by_position (possible_cells i.schema) j (x j) value
      (λ q f. ap x (sym f.is) ∙ sym (are q f.within))
      (λ absent. elim (cases_Bool (is_possible i.schema j)) [
        | inl can ↦ let c = is_cell i j l can in absurd (absent c.rank (omega arith) c.low c.is)
        | inr never ↦ none j l never
      ])

  -- a family's flow has its counts
  pub split_counts : (groups : List (List ℕ)) (p : ℕ) (x : Table) (family : Tables) (flow : List ℕ) → flow ≡ split_flow i groups p x family
      → IsFamily (CanBe i) i.schema (children_of i.spine p) x family
      → flow_counts (split_fit i groups p x) flow ≡ family_counts i.schema (children_of i.spine p) family
  split_counts groups p x family flow e fam =
      ap (flow_counts (split_fit i groups p x)) e
      ∙ rows_by_list (λ u. row (cell_count i.schema) (flow_count (split_fit i groups p x) (split_flow i groups p x family) u)) (λ c. counts_of i.schema (family c)) (children_of i.spine p) 0 child
    where
      child : (u : ℕ) → u < length (children_of i.spine p)
          → row (cell_count i.schema) (flow_count (split_fit i groups p x) (split_flow i groups p x family) (0 + u)) ≡ counts_of i.schema (family (get_or (children_of i.spine p) u 0))
      child u l =
          let L = split_layout i groups p in
          let z : 0 + u ≡ u = omega arith in
          let c = child_at i p u in
          let sent = split_flow i groups p x family in
          ap (λ v. row (cell_count i.schema) (flow_count (split_fit i groups p x) sent v)) z
          ∙ map_same (flow_count (split_fit i groups p x) sent u) (family c) 0 (cell_count i.schema) (λ j from till.
          sym (count_is (λ r. slice_index sent (give_place L u r)) (family c) (attains_vanishes i.schema i.spine i.known c (family c) (fam.can_be u 0 l))
          (λ r lr. at_give L (λ r. x (cell_at i r)) (λ n k. 0) (λ u r. family (child_at i p u) (cell_at i r)) (λ u g. group_sum groups (family (child_at i p u)) g) u r 0 l lr) j (omega arith)))

  -- the flow of a table of the nation has the table's counts
  pub root_counts : (groups : List (List ℕ)) (x : Table) (shares : Tables) (flow : List ℕ) → flow ≡ root_flow i groups shares x → CanBe i (nation_of i.spine) x
      → flow_counts (root_fit i groups) flow ≡ family_counts i.schema (nation_of i.spine ∷ []) (λ u. x)
  root_counts groups x shares flow e can =
      ap (flow_counts (root_fit i groups)) e
      ∙ rows_by_list (λ u. row (cell_count i.schema) (flow_count (root_fit i groups) (root_flow i groups shares x) u)) (λ c. counts_of i.schema x) (nation_of i.spine ∷ []) 0 nation
    where
      nation : (u : ℕ) → u < 1 → row (cell_count i.schema) (flow_count (root_fit i groups) (root_flow i groups shares x) (0 + u)) ≡ counts_of i.schema x
      nation u l =
          let L = root_layout i groups in
          let z : 0 + u ≡ u = omega arith in
          let sent = root_flow i groups shares x in
          ap (λ v. row (cell_count i.schema) (flow_count (root_fit i groups) sent v)) z
          ∙ map_same (flow_count (root_fit i groups) sent u) x 0 (cell_count i.schema) (λ j from till.
          sym (count_is (λ r. slice_index sent (give_place L u r)) x (attains_vanishes i.schema i.spine i.known (nation_of i.spine) x can)
          (λ r lr. at_give L (λ n. i.known.total (state_at i n)) (λ n k. shares (state_at i n) k) (λ u r. x (cell_at i r)) (λ u g. group_sum groups x g) u r 0 l lr) j (omega arith)))

  -- and the shares that go with it
  pub root_shares : (groups : List (List ℕ)) (x : Table) (shares : Tables) (flow : List ℕ) → flow ≡ root_flow i groups shares x → AreShares i x shares
      → AreListedShares i.schema i.spine i.known x (flow_shares (root_fit i groups) flow)
  root_shares groups x shares flow e are = record {
    shares = shares;
    are = are;
    size = length_rows (length (units_at i.spine 1)) (kind_count i.schema) (λ n k. slice_index flow (share_place (root_layout i groups) n k));
    at = λ n k l lk.
        get_rows (length (units_at i.spine 1)) (kind_count i.schema) n k (λ n k. slice_index flow (share_place (root_layout i groups) n k)) 0 l lk
        ∙ ap (λ f. slice_index f (share_place (root_layout i groups) n k)) e
        ∙ at_share (root_layout i groups) (λ n. i.known.total (state_at i n)) (λ n k. shares (state_at i n) k) (λ u r. x (cell_at i r)) (λ u g. group_sum groups x g) n k 0 l lk;
  }
