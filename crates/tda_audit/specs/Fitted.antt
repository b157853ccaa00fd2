-- What fits hand on: at each fit tables that it may choose, with prices that certify them on its network.
use Rattle.std.specs.Prelude.{ℕ, ◌+◌, ◌<◌, pos, ◌∷◌, Some, None}
use Rattle.tda_model.specs.Spine.{IsUnit, level_of, nation_of, children_of}
use Rattle.tda_model.specs.Tables.{Tables}
use Rattle.tda_model.specs.Least.{IsFamily}
use Rattle.tda_model.specs.Release.{Inputs, CanBe}
use Rattle.tda_schema.specs.Stated.{level_at}
use Rattle.tda_loss.specs.declared.Curve.{Curve}
use Rattle.tda_loss.specs.Curve.{value_of}
use Rattle.tda_flow.specs.Certificate.{IsCertified}
use Rattle.tda_groups.specs.Tree.{Tree, IsTreeOf}
use Rattle.tda_fitnet.specs.Arcs.{root_network, split_network}
use Rattle.tda_fitnet.specs.Fits.{AreShares, root_flow, split_flow}
use Rattle.tda_prices.specs.Items.{Pricing, prices_of}

-- tables as fits hand them on, with prices of each fit's network over the groups of any tree
pub record AreFitted (c : Curve) (i : Inputs) (x : Tables) (price : Pricing) : Type 0 where
  pub nation : CanBe i (nation_of i.spine) (x (nation_of i.spine))
  pub families : (p : ℕ) → IsUnit i.spine p → level_of i.spine p + 1 < i.spine.depth → IsFamily (CanBe i) i.schema (children_of i.spine p) (x p) x
  pub root : (t : Tree) → IsTreeOf i.schema (level_at i.schema 0) t
      → (shares : Tables) × AreShares i (x (nation_of i.spine)) shares
      × IsCertified (value_of c) (root_network i t.groups) (root_flow i t.groups shares (x (nation_of i.spine))) (pos 0 ∷ prices_of i.schema i.spine price None)
  pub splits : (p : ℕ) → IsUnit i.spine p → level_of i.spine p + 1 < i.spine.depth → (t : Tree) → IsTreeOf i.schema (level_at i.schema (level_of i.spine p + 1)) t
      → IsCertified (value_of c) (split_network i t.groups p (x p)) (split_flow i t.groups p (x p) x) (pos 0 ∷ prices_of i.schema i.spine price (Some p))
