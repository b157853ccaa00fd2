-- The circulations of a split cost the deviations of the families for which they stand, so a least one stands for a least split.
use Rattle.std.proofs.Common.{◌≡◌, ℕ, ◌+◌, ◌<◌, ◌≤◌, List, length, ℤ, pos, ◌≤ℤ◌, refl, sym, ap, ◌∙◌, arith}
use Rattle.std.proofs.lemmas.Int.{ints}
use Rattle.tda_model.specs.Schema.{Level}
use Rattle.tda_model.specs.Spine.{level_of, nation_of, children_of, IsUnit, IsTree}
use Rattle.tda_model.specs.Tables.{Table, Tables, persons_in}
use Rattle.tda_model.specs.Least.{IsFamily, LeastSplit, family_deviation}
use Rattle.tda_model.specs.Bounds.{persons_limit, MostHolds, HasKinds}
use Rattle.tda_model.specs.Release.{Inputs, CanBe, deviation_at}
use Rattle.tda_model.proofs.Sums.{sum_by_index}
use Rattle.tda_schema.specs.Stated.{level_at}
use Rattle.tda_loss.specs.declared.Curve.{Curve}
use Rattle.tda_loss.specs.Curve.{value_of}
use Rattle.tda_loss.proofs.Laws.{IsCurve-value_of}
use Rattle.tda_flow.specs.Network.{Network, IsSound}
use Rattle.tda_flow.specs.Flow.{cost, IsLeast}
use Rattle.tda_groups.specs.Order.{group_at}
use Rattle.tda_groups.specs.Tree.{Tree, IsTreeOf}
use Rattle.tda_fitnet.specs.declared.layout.Layout.{Layout}
use Rattle.tda_fitnet.specs.Terms.{terms_of, group_low, group_high}
use Rattle.tda_fitnet.specs.Arcs.{cell_at, child_at, split_layout, split_network, source_arc, share_arc, give_arc, group_arc}
use Rattle.tda_fitnet.specs.Layout.{source_node}
use Rattle.tda_fitnet.specs.Fits.{group_sum, net_curve, split_flow, SplitsAs, curve_of}
use Rattle.tda_fitnet.proofs.Ranges.{below_same, at_group}
use Rattle.tda_fitnet.proofs.GroupBounds.{Vanishes}
use Rattle.tda_fitnet.proofs.Costs.{terms_value, cost_is, unit_value, level_value, curve_same}
use Rattle.tda_fitnet.proofs.SplitFit.{children_are, split_of_family, split_of_flow}

-- the cost by a curve of nets, from that by the curve of whole numbers
pub cost_by_curve : (c : Curve) (net : Network) (flow : List ℕ) (n : ℕ) → cost (net_curve (curve_of c)) net flow ≡ pos n → cost (value_of c) net flow ≡ pos n
cost_by_curve c net flow n e = curve_same (value_of c) (IsCurve-value_of c).low net flow ∙ e

pub le_from : (a b : ℤ) (m n : ℕ) → a ≡ pos m → b ≡ pos n → a ≤ℤ b → m ≤ n
le_from a b m n e d h = omega (arith, ints)

module _ (i : Inputs) (tree : IsTree i.spine (nation_of i.spine)) (has : HasKinds i.schema) (most : MostHolds i.known)
    (p : ℕ) (here : IsUnit i.spine p) (deep : level_of i.spine p + 1 < length i.schema.levels)
    (t : Tree) (is : IsTreeOf i.schema (level_at i.schema (level_of i.spine p + 1)) t)
    (x : Table) (none : Vanishes i.schema x) (few : persons_in i.schema x ≤ persons_limit) where
  abbrev l : Level
  l = level_at i.schema (level_of i.spine p + 1)

  abbrev L : Layout
  L = split_layout i t.groups p

  abbrev child : ℕ → ℕ
  child u = child_at i p u

  pub split_costs : (curve : ℤ → ℕ) (family : Tables)
      → cost (net_curve curve) (split_network i t.groups p x) (split_flow i t.groups p x family) ≡ pos (family_deviation (deviation_at curve i) (children_of i.spine p) family)
  split_costs curve family =
      let flow = split_flow i t.groups p x family in
      cost_is L (λ r. source_arc r (x (cell_at i r))) (λ n k. share_arc i L n n k)
      (λ u r. give_arc L t.groups (source_node r) u (child u) (cell_at i r))
      (λ u g. group_arc i L t.groups l u (child u) g (group_low i (child u) g (group_at t.groups g)) (group_high i (child u) g (group_at t.groups g)))
      (λ n. refl) (λ n k. refl) (λ u r. refl) curve flow
      ∙ ap pos (below_same L.units _ (λ u. deviation_at curve i (child u) (family (child u))) (λ u lu.
      below_same L.groups _ (λ g. terms_value curve (terms_of i l (child u) (group_at t.groups g)) (group_sum t.groups (family (child u)) g))
      (λ g lg. ap (terms_value curve (terms_of i l (child u) (group_at t.groups g)))
      (at_group L (λ r. x (cell_at i r)) (λ n k. 0) (λ u r. family (child u) (cell_at i r)) (λ u g. group_sum t.groups (family (child u)) g) u g 0 lu lg))
      ∙ unit_value i l t is curve (child u) (family (child u))
      ∙ sym (level_value curve i (child u) (level_of i.spine p + 1) (family (child u)) (children_are i tree has most p here t is x none few u 0 lu).1.above deep))
      ∙ sym (sum_by_index (λ c. deviation_at curve i c (family c)) (children_of i.spine p) 0))

  -- the network of the split is exactly its families
  pub splits_as : IsSound (split_network i t.groups p x) → SplitsAs i t.groups p x
  splits_as sound = record {
    of_family = split_of_family i tree has most p here t is x none few sound;
    of_flow = split_of_flow i tree has most p here t is x none few;
    costs = split_costs;
  }

  -- a least circulation stands for a least split
  pub least_split : IsSound (split_network i t.groups p x) → (c : Curve) (family : Tables) → IsFamily (CanBe i) i.schema (children_of i.spine p) x family
      → IsLeast (value_of c) (split_network i t.groups p x) (split_flow i t.groups p x family)
      → LeastSplit (CanBe i) (deviation_at (curve_of c) i) i.schema (children_of i.spine p) x family
  least_split sound c family fam least = record {
    is_family = fam;
    least = λ other o.
        let net = split_network i t.groups p x in
        le_from _ _ _ _
        (cost_by_curve c net (split_flow i t.groups p x family) _ (split_costs (curve_of c) family))
        (cost_by_curve c net (split_flow i t.groups p x other) _ (split_costs (curve_of c) other))
        (least (split_flow i t.groups p x other) (split_of_family i tree has most p here t is x none few sound other o));
  }
