-- What fits hand on is certified: families that can be had and add up, with prices that certify each fit's network. The root fit's
-- prices may have been found with other shares than the kinds of the states' tables: they certify both, since both cost the same.
use Rattle.std.proofs.Common.{◌≡◌, ℕ, zero, suc, ◌+◌, ◌<◌, ◌≤◌, ◌==◌, min, List, ◌∷◌, length, pos, Some, None, refl, sym, ap, ◌∙◌, subst, arith, inl, inr}
use Rattle.std.specs.List.{sum_by}
use Rattle.std.proofs.lemmas.Bool.{cases_eq}
use Rattle.std.proofs.lemmas.List.Elements.{recursion_from_All, All-from_get_or}
use Rattle.tda_model.specs.Schema.{Schema}
use Rattle.tda_model.specs.Cells.{cell_count, kind_of, all_cells}
use Rattle.tda_model.specs.Groups.{kind_count}
use Rattle.tda_model.specs.Spine.{Spine, level_of, nation_of, children_of, blocks_of, units_at, IsUnit, HasParent, IsTree}
use Rattle.tda_model.specs.Tables.{Table, Tables, kind_sum, persons_in, FitsBlock, Attainable, Published}
use Rattle.tda_model.specs.Bounds.{persons_limit, low, high, MostHolds, HasKinds}
use Rattle.tda_model.specs.Release.{Inputs, CanBe}
use Rattle.tda_model.proofs.Sums.{Each, sum_le, sum_filter_le, each_weaker}
use Rattle.tda_model.proofs.Attain.{kinds_add, high_is, attains_in_bounds}
use Rattle.tda_loss.specs.declared.Curve.{Curve}
use Rattle.tda_loss.specs.Curve.{value_of}
use Rattle.tda_loss.proofs.Laws.{IsCurve-value_of}
use Rattle.tda_flow.specs.Certificate.{IsCertified}
use Rattle.tda_flow.proofs.Same.{same_certified}
use Rattle.tda_fitnet.specs.Arcs.{root_network}
use Rattle.tda_fitnet.specs.Fits.{curve_of, root_flow}
use Rattle.tda_fitnet.proofs.NationShares.{attains_vanishes, state_each}
use Rattle.tda_fitnet.proofs.SplitLeast.{cost_by_curve}
use Rattle.tda_fitnet.proofs.RootFit.{root_as, root_costs}
use Rattle.tda_prices.specs.Items.{Pricing, prices_of}
use Rattle.tda_fitnet.specs.declared.name.ArcName.TheVariants.{Share}
use Rattle.tda_audit.specs.Arcs.{IsSettled, arc_of}
use Rattle.tda_audit.proofs.Lookups.{AreGroupsOf}
use Rattle.tda_audit.specs.Fitted.{AreFitted}
use Rattle.tda_audit.specs.Certified.{Keeps, Certifies, IsUnitSettled}
use Rattle.tda_audit.proofs.Children.{child_of_each}
use Rattle.tda_audit.proofs.Kept.{kind_shares, shares_are, few_below}
use Rattle.tda_audit.proofs.RootArcs.{root_settled}
use Rattle.tda_audit.proofs.SplitArcs.{split_settled}
use Rattle.tda_audit.proofs.Release.{NetsAreSound, count_at, counts_of}

-- a table that a unit can have has as many of each kind as it may, the nation's too
module _ (s : Schema) (sp : Spine) (known : Published) (u : ℕ) (x : Table) (can : Attainable s sp known u x) where
  abbrev blocks : List ℕ
  blocks = blocks_of sp u

  fits : Each (λ b. FitsBlock s known b (can.0 b)) blocks
  fits = recursion_from_All (λ b. FitsBlock s known b (can.0 b)) blocks can.1.fits

  pub kind_enough : (k : ℕ) → k < kind_count s → low sp known u k ≤ kind_sum s k x
  kind_enough zero l = omega arith
  kind_enough (suc k) l =
      subst (λ n. low sp known u (suc k) ≤ n) (sym (kinds_add s blocks can.0 x (suc k) can.1.adds))
      (sum_le _ (λ b. kind_sum s (suc k) (can.0 b)) blocks (each_weaker _ _ blocks (λ b f. f.enough (suc k) (omega arith) l) fits))

  pub kind_not_more : persons_in s x ≤ persons_limit → (k : ℕ) → k < kind_count s → kind_sum s k x ≤ high sp known u k
  kind_not_more few k l =
      let all = sum_filter_le x (λ j. kind_of s j == k) (all_cells s) in
      elim (cases_eq k 0) [
        | inl e ↦ subst (λ m. kind_sum s k x ≤ high sp known u m) (sym e) (at_most _ _ _ all few)
        | inr ne ↦
            let le = sum_le _ (λ b. known.most b k) blocks (each_weaker _ _ blocks (λ b f. f.not_more k (omega arith) l) fits) in
            subst (λ m. kind_sum s k x ≤ m) (sym (high_is sp known u k (omega arith)))
            (both _ _ _ (at_most _ _ _ all few) (subst (λ m. m ≤ sum_by (λ b. known.most b k) blocks) (sym (kinds_add s blocks can.0 x k can.1.adds)) le))
      ]
    where
      at_most : (a b c : ℕ) → a ≤ b → b ≤ c → a ≤ c
      at_most a b c h g = omega arith

      both : (a b c : ℕ) → a ≤ b → a ≤ c → a ≤ min b c
      both a b c h g = omega arith

module _ (c : Curve) (i : Inputs) (tree : IsTree i.spine (nation_of i.spine)) (has : HasKinds i.schema) (most : MostHolds i.known)
    (fews : (x : Table) → CanBe i (nation_of i.spine) x → persons_in i.schema x ≤ persons_limit)
    (depth : i.spine.depth ≡ length i.schema.levels)
    (groups : ℕ → List (List ℕ)) (are : AreGroupsOf i.schema groups) (x : Tables) (price : Pricing) (fitted : AreFitted c i x price) where
  abbrev s : Schema
  s = i.schema

  abbrev sp : Spine
  sp = i.spine

  abbrev nation : ℕ
  nation = nation_of i.spine

  parent_inner : (p u : ℕ) → IsUnit sp u → HasParent sp u p → level_of sp p + 1 < sp.depth
  parent_inner p u here up = let above : level_of sp u ≡ level_of sp p + 1 = up.above in let below : level_of sp u < sp.depth = tree.within u here in omega arith

  -- each unit can have its table
  can : (u : ℕ) → IsUnit sp u → CanBe i u (x u)
  can u here = elim (cases_eq (level_of sp u) 0) [
    | inl top ↦ subst (λ v. CanBe i v (x v)) (sym (tree.root_alone u here top)) fitted.nation
    | inr below ↦
        let p = tree.parent u here (omega arith) in
        child_of_each sp tree (λ v. CanBe i v (x v)) p.0
        (recursion_from_All (λ v. CanBe i v (x v)) (children_of sp p.0) (fitted.families p.0 p.1.here (parent_inner p.0 u here p.1)).can_be) u here p.1
  ]

  sums : (p j : ℕ) → IsUnit sp p → level_of sp p + 1 < sp.depth → j < cell_count s → x p j ≡ sum_by (λ v. x v j) (children_of sp p)
  sums p j here inner lj = (fitted.families p here inner).adds j lj

  small : (u : ℕ) → IsUnit sp u → persons_in s (x u) ≤ persons_limit
  small u here = few_below i tree x sums (fews (x nation) fitted.nation) u here

  pub fitted_keeps : Keeps i x
  fitted_keeps = record {
    sums = sums;
    possible = λ u j here lj never. attains_vanishes s sp i.known u (x u) (can u here) j lj never;
    totals = λ st here at. (attains_in_bounds sp nation tree s i.known st here (omega arith) (x st) (small st here) (can st here)).total at;
    enough = λ u k here lk. kind_enough s sp i.known u (x u) (can u here) k lk;
    not_more = λ u k here lk. kind_not_more s sp i.known u (x u) (can u here) (small u here) k lk;
  }

  module _ (sound : NetsAreSound i x) where
    pub fitted_certified : Certifies c i groups x price
    fitted_certified =
        let some_level : 0 < length s.levels = (let deep = tree.deep in omega arith) in
        let g = are 0 some_level in
        let t = g.0 in
        let is = g.1 in
        let top = tree.root_level in
        let same : groups (level_of sp nation) ≡ t.groups = ap groups top ∙ sym g.2 in
        let net = root_network i t.groups in
        let ok = sound.root t is in
        let as_root = root_as i tree has most fews t is some_level ok in
        let found = fitted.root t is in
        let own = kind_shares i tree has most fews x fitted_keeps in
        let other_flow = root_flow i t.groups found.0 (x nation) in
        let own_flow = root_flow i t.groups own (x nation) in
        let prices = pos 0 ∷ prices_of s sp price None in
        let other_circulates = as_root.of_table (x nation) found.0 fitted.nation found.1 in
        let own_circulates = as_root.of_table (x nation) own fitted.nation (shares_are i tree has most fews x fitted_keeps) in
        let other_costs = cost_by_curve c net other_flow _ (root_costs i tree has most fews t is some_level (curve_of c) (x nation) found.0) in
        let own_costs = cost_by_curve c net own_flow _ (root_costs i tree has most fews t is some_level (curve_of c) (x nation) own) in
        let own_certified : IsCertified (value_of c) net own_flow prices =
        same_certified (value_of c) (IsCurve-value_of c).convex net ok other_flow own_flow prices other_circulates found.2 own_circulates (own_costs ∙ sym other_costs) in
        let root = root_settled c i groups x price has t is top same (count_at c i tree has most fews depth groups are x price 0 some_level t is nation top) own (λ n k ln lk. refl) own_certified in
        let Shared : ℕ → Type 0 = λ st. (k : ℕ) → k < kind_count s → IsSettled (arc_of c i groups x price None (Share st k)) in
        let all_shared : Each Shared (units_at sp 1) = recursion_from_All Shared (units_at sp 1) (All-from_get_or Shared (units_at sp 1) 0 (λ n ln k lk. root.each_share n k ln lk)) in
        record {
          keeps = fitted_keeps;
          shares = λ st k here at lk. state_each sp tree Shared all_shared st here at k lk;
          nation = root.unit;
          children = λ p u here hu up.
              let above = parent_inner p u hu up in
              let low : level_of sp p + 1 < length s.levels = subst (λ n. level_of sp p + 1 < n) depth above in
              let g = are (level_of sp p + 1) low in
              let t = g.0 in
              let is = g.1 in
              let Settled : ℕ → Type 0 = λ v. IsUnitSettled c i groups x price (Some p) v in
              let each = split_settled c i groups x price tree p t is (sym g.2) (counts_of c i tree has most fews depth groups are x price p low t is) (fitted.splits p here above t is) in
              child_of_each sp tree Settled p (recursion_from_All Settled (children_of sp p) (All-from_get_or Settled (children_of sp p) 0 each)) u hu up;
        }
