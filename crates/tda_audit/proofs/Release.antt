-- What is certified is a release.
use Rattle.std.proofs.Common.{◌≡◌, ℕ, ◌+◌, ◌<◌, ◌≤◌, List, ◌∷◌, length, pos, ◌∷◌, Some, None, refl, sym, ap, ◌∙◌, subst, arith}
use Rattle.tda_model.specs.Schema.{Schema}
use Rattle.tda_model.specs.Sizes.{groups_at}
use Rattle.tda_model.specs.Spine.{level_of, nation_of, children_of, IsUnit, IsTree}
use Rattle.tda_model.specs.Tables.{Table, Tables, persons_in}
use Rattle.tda_model.specs.Least.{LeastRoot, LeastSplit}
use Rattle.tda_model.specs.Bounds.{persons_limit, MostHolds, HasKinds}
use Rattle.tda_model.specs.Release.{Inputs, CanBe, deviation_at, IsRelease}
use Rattle.tda_model.proofs.Sums.{Each, each_weaker}
use Rattle.tda_schema.specs.Stated.{level_at}
use Rattle.tda_spine.specs.Sound.{IsInner}
use Rattle.tda_model.proofs.FitOrder.{has_inner}
use Rattle.tda_loss.specs.declared.Curve.{Curve}
use Rattle.tda_loss.specs.Curve.{value_of}
use Rattle.tda_loss.proofs.Laws.{IsCurve-value_of}
use Rattle.tda_flow.specs.Network.{IsSound}
use Rattle.tda_flow.proofs.Least.{least}
use Rattle.tda_groups.specs.Tree.{Tree, IsTreeOf}
use Rattle.tda_fitnet.specs.Arcs.{state_at, root_network, split_network}
use Rattle.tda_fitnet.specs.Fits.{curve_of, root_flow, split_flow}
use Rattle.tda_fitnet.proofs.SplitLeast.{splits_as, least_split}
use Rattle.tda_fitnet.proofs.RootFit.{root_as, least_root}
use Rattle.tda_prices.specs.Items.{Pricing, prices_of}
use Rattle.tda_audit.specs.Certified.{Certifies}
use Rattle.tda_audit.proofs.Lookups.{AreGroupsOf, groups_are}
use Rattle.tda_audit.proofs.Children.{IsChildOf, children_each}
use Rattle.tda_audit.proofs.Kept.{kind_shares, shares_are, nation_can, few, family, state_is}
use Rattle.tda_audit.proofs.RootArcs.{root_certified}
use Rattle.tda_audit.proofs.SplitArcs.{split_certified}

-- the networks of these tables are nets that may stand
pub record NetsAreSound (i : Inputs) (x : Tables) : Type 0 where
  pub root : (t : Tree) → IsTreeOf i.schema (level_at i.schema 0) t → IsSound (root_network i t.groups)
  pub split : (p : ℕ) → IsUnit i.spine p → level_of i.spine p + 1 < i.spine.depth → (t : Tree) → IsTreeOf i.schema (level_at i.schema (level_of i.spine p + 1)) t
      → IsSound (split_network i t.groups p (x p))

module _ (c : Curve) (i : Inputs) (tree : IsTree i.spine (nation_of i.spine)) (has : HasKinds i.schema) (most : MostHolds i.known)
    (fews : (x : Table) → CanBe i (nation_of i.spine) x → persons_in i.schema x ≤ persons_limit)
    (depth : i.spine.depth ≡ length i.schema.levels)
    (groups : ℕ → List (List ℕ)) (are : AreGroupsOf i.schema groups) (x : Tables) (price : Pricing) where
  abbrev s : Schema
  s = i.schema

  abbrev nation : ℕ
  nation = nation_of i.spine

  some_level : 0 < length s.levels
  some_level = let deep = tree.deep in omega arith

  pub count_at : (l : ℕ) → l < length i.schema.levels → (t : Tree) → IsTreeOf i.schema (level_at i.schema l) t → (v : ℕ) → level_of i.spine v ≡ l → groups_at i.schema (level_of i.spine v) ≡ length t.groups
  count_at l low t is v at = ap (groups_at s) at ∙ groups_are s l low t is

  pub counts_of : (p : ℕ) → level_of i.spine p + 1 < length i.schema.levels → (t : Tree) → IsTreeOf i.schema (level_at i.schema (level_of i.spine p + 1)) t
      → Each (λ v. groups_at i.schema (level_of i.spine v) ≡ length t.groups) (children_of i.spine p)
  counts_of p low t is =
      each_weaker (IsChildOf i.spine tree p) (λ v. groups_at s (level_of i.spine v) ≡ length t.groups) (children_of i.spine p)
      (λ v k. count_at (level_of i.spine p + 1) low t is v k.up.above) (children_each i.spine tree p)

  module _ (sound : NetsAreSound i x) (h : Certifies c i groups x price) where
    root_least : LeastRoot (CanBe i) (deviation_at (curve_of c) i) nation (x nation)
    root_least =
        let g = are 0 some_level in
        let t = g.0 in
        let is = g.1 in
        let top = tree.root_level in
        let same : groups (level_of i.spine nation) ≡ t.groups = ap groups top ∙ sym g.2 in
        let shares = kind_shares i tree has most fews x h.keeps in
        let can = nation_can i tree has most fews x h.keeps in
        let net = root_network i t.groups in
        let ok = sound.root t is in
        let flow = root_flow i t.groups shares (x nation) in
        let circulates = (root_as i tree has most fews t is some_level ok).of_table (x nation) shares can (shares_are i tree has most fews x h.keeps) in
        let certified = root_certified c i groups x price has t is top same (count_at 0 some_level t is nation top) shares (λ n k ln lk. refl)
        (λ n k ln lk. let st = state_is i tree has most fews x h.keeps n ln in h.shares (state_at i n) k st.here st.at lk) h.nation in
        least_root i tree has most fews t is some_level ok c (x nation) shares can
        (least (value_of c) (IsCurve-value_of c).convex net ok flow (pos 0 ∷ prices_of s i.spine price None) circulates certified)

    split_least : (p : ℕ) → IsInner i.spine p → LeastSplit (CanBe i) (deviation_at (curve_of c) i) s (children_of i.spine p) (x p) x
    split_least p inner =
        let here : IsUnit i.spine p = inner.here in
        let above : level_of i.spine p + 1 < i.spine.depth = inner.above in
        let low : level_of i.spine p + 1 < length s.levels = subst (λ n. level_of i.spine p + 1 < n) depth above in
        let g = are (level_of i.spine p + 1) low in
        let t = g.0 in
        let is = g.1 in
        let same : groups (level_of i.spine p + 1) ≡ t.groups = sym g.2 in
        let none : (j : ℕ) → j < _ → _ → x p j ≡ 0 = λ j lj never. h.keeps.possible p j here lj never in
        let small = few i tree has most fews x h.keeps p here in
        let fam = family i tree has most fews x h.keeps p here above in
        let net = split_network i t.groups p (x p) in
        let ok = sound.split p here above t is in
        let flow = split_flow i t.groups p (x p) x in
        let circulates = (splits_as i tree has most p here low t is (x p) none small ok).of_family x fam in
        let certified = split_certified c i groups x price tree p t is same (counts_of p low t is) (λ u hu up. h.children p u here hu up) in
        least_split i tree has most p here low t is (x p) none small ok c x fam
        (least (value_of c) (IsCurve-value_of c).convex net ok flow (pos 0 ∷ prices_of s i.spine price (Some p)) circulates certified)

    -- what is certified is a release
    pub certified_release : IsRelease (curve_of c) i x
    certified_release = record {
      root = root_least;
      splits = λ p here some. split_least p (record { here = here; above = has_inner i.spine tree p some });
    }
