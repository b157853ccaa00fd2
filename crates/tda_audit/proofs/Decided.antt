-- The verdict is Yes exactly where tables and prices are certified; else it is a condition that fails, and none before it does.
use Rattle.std.proofs.Common.{◌≡◌, ℕ, ◌+◌, ◌<◌, ◌≤◌, true, false, List, [], ◌∷◌, ◌++◌, length, map, filter, Option, Some, None, refl, sym, ap, ◌∙◌, arith}
use Rattle.std.specs.Prelude.{find, unwrap_or}
use Rattle.std.specs.List.{flat_map, range_with_len}
use Rattle.std.proofs.lemmas.Bool.{lt-ltb, ltb-true}
use Rattle.tda_model.specs.Schema.{Schema}
use Rattle.tda_model.specs.Cells.{cell_count, is_possible, all_cells, possible_cells}
use Rattle.tda_model.specs.Groups.{kind_count}
use Rattle.tda_model.specs.Spine.{Spine, level_of, nation_of, children_of, parents_of, unit_numbers, units_at, IsUnit, HasParent, IsTree}
use Rattle.tda_model.specs.Tables.{Tables, kind_sum}
use Rattle.tda_model.specs.Bounds.{low, high}
use Rattle.tda_model.specs.Release.{Inputs}
use Rattle.tda_model.proofs.Sums.{Each, each_weaker, each_filter, each_range, filter_each, range_each}
use Rattle.tda_spine.specs.Judged.{is_inner, fits_of}
use Rattle.tda_spine.specs.Sound.{IsInner}
use Rattle.tda_spine.proofs.FitOrder.{parents_inner, each_inner}
use Rattle.tda_loss.specs.declared.Curve.{Curve}
use Rattle.tda_flow.specs.declared.judge.Side.TheVariants.{Up, Down}
use Rattle.tda_fitnet.specs.declared.name.ArcName.{ArcName}
use Rattle.tda_fitnet.specs.declared.name.ArcName.TheVariants.{Share, Give, Group}
use Rattle.tda_fitnet.proofs.NationShares.{each_state, state_each}
use Rattle.tda_prices.specs.Items.{Pricing}
use Rattle.tda_audit.specs.Arcs.{IsSettled, arc_of}
use Rattle.tda_audit.specs.Certified.{Keeps, Certifies, IsUnitSettled}
use Rattle.tda_audit.specs.Verdicts.{of_cells, give_names, group_names, names_of, sides_of, all_rules, all_verdicts, fails, verdict}
use Rattle.tda_audit.specs.declared.verdict.Verdict.{Verdict}
use Rattle.tda_audit.specs.declared.verdict.Verdict.TheVariants.{Yes, Sum, Impossible, Total, Kind, Arc}
use Rattle.tda_audit.proofs.Eaches.{each_append, append_each, each_joined, joined_each, each_mapped, mapped_each, none_found, found_none, found_passes}
use Rattle.tda_audit.proofs.Tests.{same_of, of_same, nobody_of, of_nobody, within_of, of_within, settled_of, up_of, down_of}
use Rattle.tda_audit.proofs.Children.{IsChildOf, children_each, child_of_each}

module _ (c : Curve) (i : Inputs) (groups : ℕ → List (List ℕ)) (x : Tables) (price : Pricing) (tree : IsTree i.spine (nation_of i.spine)) where
  abbrev s : Schema
  s = i.schema

  abbrev sp : Spine
  sp = i.spine

  abbrev nation : ℕ
  nation = nation_of i.spine

  abbrev pub Fine : Verdict → Type 0
  Fine v = fails i groups c x price v ≡ false

  abbrev Settled : Option ℕ → ArcName → Type 0
  Settled fit a = IsSettled (arc_of c i groups x price fit a)

  abbrev UnitSettled : Option ℕ → ℕ → Type 0
  UnitSettled fit u = IsUnitSettled c i groups x price fit u

  units_each : (P : ℕ → Type 0) → Each P (unit_numbers sp) → (u : ℕ) → IsUnit sp u → P u
  units_each P h u here = range_each P 0 (length sp.units) h u (omega arith) (omega (arith, here))

  each_unit : (P : ℕ → Type 0) → ((u : ℕ) → IsUnit sp u → P u) → Each P (unit_numbers sp)
  each_unit P h = each_range P 0 (length sp.units) (λ u a b. h u (omega arith))

  numbers_each : (n : ℕ) (P : ℕ → Type 0) → Each P (range_with_len 0 n) → (k : ℕ) → k < n → P k
  numbers_each n P h k l = range_each P 0 n h k (omega arith) (omega arith)

  each_number : (n : ℕ) (P : ℕ → Type 0) → ((k : ℕ) → k < n → P k) → Each P (range_with_len 0 n)
  each_number n P h = each_range P 0 n (λ k a b. h k (omega arith))

  -- ---- by unit and cell
  cells_each : (v : ℕ → ℕ → Verdict) (units : List ℕ) → Each Fine (of_cells s sp v units) → Each (λ u. Each (λ j. Fine (v u j)) (all_cells s)) units
  cells_each v units h =
      each_weaker (λ u. Each Fine (map (v u) (all_cells s))) (λ u. Each (λ j. Fine (v u j)) (all_cells s)) units (λ u e. mapped_each Fine (v u) (all_cells s) e) (joined_each Fine (λ u. map (v u) (all_cells s)) units h)

  each_cells : (v : ℕ → ℕ → Verdict) (units : List ℕ) → Each (λ u. Each (λ j. Fine (v u j)) (all_cells s)) units → Each Fine (of_cells s sp v units)
  each_cells v units h =
      each_joined Fine (λ u. map (v u) (all_cells s)) units (each_weaker (λ u. Each (λ j. Fine (v u j)) (all_cells s)) (λ u. Each Fine (map (v u) (all_cells s))) units (λ u e. each_mapped Fine (v u) (all_cells s) e) h)

  -- ---- the arcs of a fit
  sides_each : (fit : Option ℕ) → Each Fine (sides_of i groups fit) → Each (Settled fit) (names_of i groups fit)
  sides_each fit h =
      each_weaker (λ a. Each Fine (Arc fit a Up ∷ Arc fit a Down ∷ [])) (Settled fit) (names_of i groups fit) (λ a e. settled_of (arc_of c i groups x price fit a) e.0 e.1.0)
      (joined_each Fine (λ a. Arc fit a Up ∷ Arc fit a Down ∷ []) (names_of i groups fit) h)

  each_sides : (fit : Option ℕ) → Each (Settled fit) (names_of i groups fit) → Each Fine (sides_of i groups fit)
  each_sides fit h =
      each_joined Fine (λ a. Arc fit a Up ∷ Arc fit a Down ∷ []) (names_of i groups fit)
      (each_weaker (Settled fit) (λ a. Each Fine (Arc fit a Up ∷ Arc fit a Down ∷ [])) (names_of i groups fit) (λ a e. (up_of (arc_of c i groups x price fit a) e, (down_of (arc_of c i groups x price fit a) e, tt))) h)

  unit_settled : (fit : Option ℕ) (u : ℕ) → Each (Settled fit) (give_names i groups u) → Each (Settled fit) (group_names i groups u) → UnitSettled fit u
  unit_settled fit u gives gs = record {
    each_cell = λ j lj can.
        range_each _ 0 (cell_count s) (filter_each (λ j. Settled fit (Give u j)) (is_possible s) (all_cells s) (mapped_each (Settled fit) (Give u) (possible_cells s) gives)) j (omega arith) (omega arith) can;
    each_group = λ g lg. numbers_each (length (groups (level_of sp u))) (λ g. Settled fit (Group u g)) (mapped_each (Settled fit) (Group u) (range_with_len 0 (length (groups (level_of sp u)))) gs) g lg;
  }

  gives_of : (fit : Option ℕ) (u : ℕ) → UnitSettled fit u → Each (Settled fit) (give_names i groups u)
  gives_of fit u h =
      each_mapped (Settled fit) (Give u) (possible_cells s) (each_filter (λ j. Settled fit (Give u j)) (is_possible s) (all_cells s) (each_number (cell_count s) (λ j. is_possible s j ≡ true → Settled fit (Give u j)) (λ j lj can. h.each_cell j lj can)))

  groups_of : (fit : Option ℕ) (u : ℕ) → UnitSettled fit u → Each (Settled fit) (group_names i groups u)
  groups_of fit u h =
      each_mapped (Settled fit) (Group u) (range_with_len 0 (length (groups (level_of sp u)))) (each_number (length (groups (level_of sp u))) (λ g. Settled fit (Group u g)) (λ g lg. h.each_group g lg))

  abbrev share_names : ℕ → List ArcName
  share_names st = map (Share st) (range_with_len 0 (kind_count s))

  abbrev StateSettled : ℕ → Type 0
  StateSettled st = (k : ℕ) → k < kind_count s → Settled None (Share st k)

  record IsRootSettled : Type 0 where
    pub states : Each StateSettled (units_at sp 1)
    pub unit : UnitSettled None nation

  root_of : Each (Settled None) (names_of i groups None) → IsRootSettled
  root_of h =
      let parts = append_each (Settled None) (flat_map share_names (units_at sp 1)) (give_names i groups nation ++ group_names i groups nation) h in
      let rest = append_each (Settled None) (give_names i groups nation) (group_names i groups nation) parts.1 in
      record {
        states = each_weaker (λ st. Each (Settled None) (share_names st)) StateSettled (units_at sp 1)
            (λ st e k lk. numbers_each (kind_count s) (λ k. Settled None (Share st k)) (mapped_each (Settled None) (Share st) (range_with_len 0 (kind_count s)) e) k lk)
            (joined_each (Settled None) share_names (units_at sp 1) parts.0);
        unit = unit_settled None nation rest.0 rest.1;
      }

  of_root : IsRootSettled → Each (Settled None) (names_of i groups None)
  of_root h =
      each_append (Settled None) (flat_map share_names (units_at sp 1)) (give_names i groups nation ++ group_names i groups nation)
      (each_joined (Settled None) share_names (units_at sp 1) (each_weaker StateSettled (λ st. Each (Settled None) (share_names st)) (units_at sp 1)
      (λ st e. each_mapped (Settled None) (Share st) (range_with_len 0 (kind_count s)) (each_number (kind_count s) (λ k. Settled None (Share st k)) e)) h.states))
      (each_append (Settled None) (give_names i groups nation) (group_names i groups nation) (gives_of None nation h.unit) (groups_of None nation h.unit))

  split_of : (p : ℕ) → Each (Settled (Some p)) (names_of i groups (Some p)) → (u : ℕ) → IsUnit sp u → HasParent sp u p → UnitSettled (Some p) u
  split_of p h u here up =
      let parts = append_each (Settled (Some p)) (flat_map (give_names i groups) (children_of sp p)) (flat_map (group_names i groups) (children_of sp p)) h in
      unit_settled (Some p) u
      (child_of_each sp tree (λ v. Each (Settled (Some p)) (give_names i groups v)) p (joined_each (Settled (Some p)) (give_names i groups) (children_of sp p) parts.0) u here up)
      (child_of_each sp tree (λ v. Each (Settled (Some p)) (group_names i groups v)) p (joined_each (Settled (Some p)) (group_names i groups) (children_of sp p) parts.1) u here up)

  of_split : (p : ℕ) → ((u : ℕ) → IsUnit sp u → HasParent sp u p → UnitSettled (Some p) u) → Each (Settled (Some p)) (names_of i groups (Some p))
  of_split p h =
      let each : Each (UnitSettled (Some p)) (children_of sp p) = each_weaker (IsChildOf sp tree p) (UnitSettled (Some p)) (children_of sp p) (λ u k. h u k.here k.up) (children_each sp tree p) in
      each_append (Settled (Some p)) (flat_map (give_names i groups) (children_of sp p)) (flat_map (group_names i groups) (children_of sp p))
      (each_joined (Settled (Some p)) (give_names i groups) (children_of sp p) (each_weaker (UnitSettled (Some p)) (λ v. Each (Settled (Some p)) (give_names i groups v)) (children_of sp p) (λ u k. gives_of (Some p) u k) each))
      (each_joined (Settled (Some p)) (group_names i groups) (children_of sp p) (each_weaker (UnitSettled (Some p)) (λ v. Each (Settled (Some p)) (group_names i groups v)) (children_of sp p) (λ u k. groups_of (Some p) u k) each))

  -- ---- all together
  abbrev sum_list : List Verdict
  sum_list = of_cells s sp Sum (filter (is_inner sp) (unit_numbers sp))

  abbrev impossible_list : List Verdict
  impossible_list = of_cells s sp Impossible (unit_numbers sp)

  abbrev total_list : List Verdict
  total_list = map Total (units_at sp 1)

  abbrev kinds_at : ℕ → List Verdict
  kinds_at u = map (Kind u) (range_with_len 0 (kind_count s))

  abbrev kind_list : List Verdict
  kind_list = flat_map kinds_at (unit_numbers sp)

  abbrev arc_list : List Verdict
  arc_list = flat_map (sides_of i groups) (fits_of sp)

  record RulesFine : Type 0 where
    pub sum_fine : Each Fine sum_list
    pub impossible_fine : Each Fine impossible_list
    pub total_fine : Each Fine total_list
    pub kind_fine : Each Fine kind_list

  record AllFine : Type 0 where
    pub rules_fine : RulesFine
    pub arc_fine : Each Fine arc_list

  to_rules : Each Fine (all_rules s sp) → RulesFine
  to_rules h =
      let a = append_each Fine sum_list (impossible_list ++ (total_list ++ kind_list)) h in
      let b = append_each Fine impossible_list (total_list ++ kind_list) a.1 in
      let d = append_each Fine total_list kind_list b.1 in
      record { sum_fine = a.0; impossible_fine = b.0; total_fine = d.0; kind_fine = d.1 }

  to_parts : Each Fine (all_verdicts i groups) → AllFine
  to_parts h =
      let all = append_each Fine (sum_list ++ (impossible_list ++ (total_list ++ kind_list))) arc_list h in
      record { rules_fine = to_rules all.0; arc_fine = all.1 }

  from_parts : AllFine → Each Fine (all_verdicts i groups)
  from_parts h =
      each_append Fine (sum_list ++ (impossible_list ++ (total_list ++ kind_list))) arc_list
      (each_append Fine sum_list (impossible_list ++ (total_list ++ kind_list)) h.rules_fine.sum_fine
      (each_append Fine impossible_list (total_list ++ kind_list) h.rules_fine.impossible_fine (each_append Fine total_list kind_list h.rules_fine.total_fine h.rules_fine.kind_fine)))
      h.arc_fine

  keeps_of : RulesFine → Keeps i x
  keeps_of h = record {
    sums = λ p j here inner lj.
        same_of _ _ (numbers_each (cell_count s) (λ j. Fine (Sum p j))
        (units_each (λ u. is_inner sp u ≡ true → Each (λ j. Fine (Sum u j)) (all_cells s))
        (filter_each (λ u. Each (λ j. Fine (Sum u j)) (all_cells s)) (is_inner sp) (unit_numbers sp) (cells_each Sum (filter (is_inner sp) (unit_numbers sp)) h.sum_fine)) p here (lt-ltb _ _ inner)) j lj);
    possible = λ u j here lj never.
        nobody_of (is_possible s j) (x u j) (numbers_each (cell_count s) (λ j. Fine (Impossible u j)) (units_each (λ u. Each (λ j. Fine (Impossible u j)) (all_cells s)) (cells_each Impossible (unit_numbers sp) h.impossible_fine) u here) j lj) never;
    totals = λ st here at. same_of _ _ (state_each sp tree (λ st. Fine (Total st)) (mapped_each Fine Total (units_at sp 1) h.total_fine) st here at);
    enough = λ u k here lk. (kinds u k here lk).0;
    not_more = λ u k here lk. (kinds u k here lk).1;
  }
    where
      kinds : (u k : ℕ) → IsUnit sp u → k < kind_count s → (low sp i.known u k ≤ kind_sum s k (x u)) × (kind_sum s k (x u) ≤ high sp i.known u k)
      kinds u k here lk =
          within_of _ _ _ (numbers_each (kind_count s) (λ k. Fine (Kind u k)) (mapped_each Fine (Kind u) (range_with_len 0 (kind_count s)) (units_each (λ u. Each Fine (kinds_at u)) (joined_each Fine kinds_at (unit_numbers sp) h.kind_fine) u here)) k lk)

  all_settled : AllFine → Each (λ fit. Each (Settled fit) (names_of i groups fit)) (fits_of sp)
  all_settled h =
      each_weaker (λ fit. Each Fine (sides_of i groups fit)) (λ fit. Each (Settled fit) (names_of i groups fit)) (fits_of sp) sides_each (joined_each Fine (sides_of i groups) (fits_of sp) h.arc_fine)

  certified_of : AllFine → Certifies c i groups x price
  certified_of h =
      let all = all_settled h in
      let root = root_of all.0 in
      let splits : Each (λ p. Each (Settled (Some p)) (names_of i groups (Some p))) (parents_of sp) = mapped_each (λ fit. Each (Settled fit) (names_of i groups fit)) Some (parents_of sp) all.1 in
      record {
        keeps = keeps_of h.rules_fine;
        shares = λ st k here at lk. state_each sp tree StateSettled root.states st here at k lk;
        nation = root.unit;
        children = λ p u hp hu up.
            let above : level_of sp u ≡ level_of sp p + 1 = up.above in
            let below : level_of sp u < sp.depth = tree.within u hu in
            split_of p (each_inner sp tree (λ p. Each (Settled (Some p)) (names_of i groups (Some p))) splits p (record { here = hp; above = omega arith })) u hu up;
      }

  fine_of : Certifies c i groups x price → AllFine
  fine_of h =
      let keeps = h.keeps in
      let rules : RulesFine = record {
        sum_fine = each_cells Sum (filter (is_inner sp) (unit_numbers sp)) (each_filter (λ u. Each (λ j. Fine (Sum u j)) (all_cells s)) (is_inner sp) (unit_numbers sp)
            (each_unit (λ u. is_inner sp u ≡ true → Each (λ j. Fine (Sum u j)) (all_cells s)) (λ u here inner. each_number (cell_count s) (λ j. Fine (Sum u j)) (λ j lj. of_same _ _ (keeps.sums u j here (ltb-true _ _ inner) lj)))));
        impossible_fine = each_cells Impossible (unit_numbers sp)
            (each_unit (λ u. Each (λ j. Fine (Impossible u j)) (all_cells s)) (λ u here. each_number (cell_count s) (λ j. Fine (Impossible u j)) (λ j lj. of_nobody (is_possible s j) (x u j) (keeps.possible u j here lj))));
        total_fine = each_mapped Fine Total (units_at sp 1) (each_state sp tree (λ st. Fine (Total st)) (λ st here at. of_same _ _ (keeps.totals st here at)));
        kind_fine = each_joined Fine kinds_at (unit_numbers sp)
            (each_unit (λ u. Each Fine (kinds_at u)) (λ u here. each_mapped Fine (Kind u) (range_with_len 0 (kind_count s)) (each_number (kind_count s) (λ k. Fine (Kind u k)) (λ k lk. of_within _ _ _ (keeps.enough u k here lk) (keeps.not_more u k here lk)))));
      } in record {
        rules_fine = rules;
        arc_fine = (
            each_append Fine (sides_of i groups None) (flat_map (sides_of i groups) (map Some (parents_of sp)))
            (each_sides None (of_root (record { states = each_state sp tree StateSettled (λ st here at k lk. h.shares st k here at lk); unit = h.nation })))
            (each_joined Fine (sides_of i groups) (map Some (parents_of sp)) (each_mapped (λ fit. Each Fine (sides_of i groups fit)) Some (parents_of sp)
            (each_weaker (IsInner sp) (λ p. Each Fine (sides_of i groups (Some p))) (parents_of sp) (λ p inner. each_sides (Some p) (of_split p (λ u hu up. h.children p u inner.here hu up))) (parents_inner sp tree))))
            );
      }

  pub rules_keep : find (fails i groups c x price) (all_rules i.schema i.spine) ≡ None → Keeps i x
  rules_keep e = keeps_of (to_rules (found_none (fails i groups c x price) (all_rules s sp) e))

  -- ---- the verdict
  no_fault : verdict i groups c x price ≡ Yes → find (fails i groups c x price) (all_verdicts i groups) ≡ None
  no_fault e = by (find (fails i groups c x price) (all_verdicts i groups)) refl e
    where
      by : (o : Option Verdict) → find (fails i groups c x price) (all_verdicts i groups) ≡ o → unwrap_or o Yes ≡ Yes → o ≡ None
      by None is e = refl
      by (Some v) is e =
          let passes = found_passes (fails i groups c x price) (all_verdicts i groups) v is in
          let never : fails i groups c x price Yes ≡ true = sym (ap (fails i groups c x price) e) ∙ passes in absurd cc

  pub yes_certified : verdict i groups c x price ≡ Yes → Certifies c i groups x price
  yes_certified e = certified_of (to_parts (found_none (fails i groups c x price) (all_verdicts i groups) (no_fault e)))

  pub certified_yes : Certifies c i groups x price → verdict i groups c x price ≡ Yes
  certified_yes h = ap (λ o. unwrap_or o Yes) (none_found (fails i groups c x price) (all_verdicts i groups) (from_parts (fine_of h)))
