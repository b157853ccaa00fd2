-- What a certificate says of the arcs of fits. At an arc some persons, within bounds, may go from one item to another; they cost
-- something, and at the other end the price is higher by so much.
use Rattle.std.specs.Prelude.{ℕ, ◌+◌, ◌-◌, ◌<◌, ◌==◌, cond, List, ℤ, pos, ◌-ℤ◌, ◌≤ℤ◌, Option, Some, None}
use Rattle.tda_model.specs.Cells.{kind_of}
use Rattle.tda_model.specs.Spine.{level_of}
use Rattle.tda_model.specs.Tables.{Tables, kind_sum}
use Rattle.tda_model.specs.Bounds.{persons_limit, low, high}
use Rattle.tda_model.specs.Release.{Inputs}
use Rattle.tda_schema.specs.Stated.{level_at}
use Rattle.tda_loss.specs.declared.Curve.{Curve}
use Rattle.tda_loss.specs.Curve.{value_of}
use Rattle.tda_flow.specs.Flow.{arc_cost}
use Rattle.tda_groups.specs.Order.{group_at}
use Rattle.tda_fitnet.specs.declared.name.ArcName.{ArcName}
use Rattle.tda_fitnet.specs.declared.name.ArcName.TheVariants.{Fixed, Share, Give, Group}
use Rattle.tda_groups.specs.Chains.{smallest_of, next_of}
use Rattle.tda_fitnet.specs.Terms.{terms_of, group_low, group_high}
use Rattle.tda_fitnet.specs.Fits.{group_sum}
use Rattle.tda_prices.specs.Items.{Item, OfState, OfKind, OfCell, OfGroup, Pricing}

pub record PricedArc : Type 0 where
  pub cost : ℕ → ℤ
  pub low : ℕ
  pub high : ℕ
  pub flow : ℕ
  pub rise : ℤ

-- one more person isn't worth it, nor one less
pub record IsSettled (a : PricedArc) : Type 0 where
  pub up : a.flow < a.high → a.rise ≤ℤ (a.cost (a.flow + 1) -ℤ a.cost a.flow)
  pub down : a.low < a.flow → (a.cost a.flow -ℤ a.cost (a.flow - 1)) ≤ℤ a.rise

abbrev pub free : ℕ → ℤ
free n = pos 0

module _ (c : Curve) (i : Inputs) (groups : ℕ → List (List ℕ)) (x : Tables) (price : Pricing) where
  -- the groups of a unit's level
  abbrev pub groups_at : ℕ → List (List ℕ)
  groups_at u = groups (level_of i.spine u)

  -- where the persons of a cell come from: in the root fit from the cell's kind, in a split from the parent's cell
  abbrev pub giver : Option ℕ → ℕ → Item
  giver None j = OfKind (kind_of i.schema j)
  giver (Some p) j = OfCell j

  -- the price at the next larger group, and that of the hub, 0, where there is none
  abbrev pub next_price : Option ℕ → ℕ → ℕ → ℤ
  next_price fit u g = cond (g == 0) (pos 0) (price fit (OfGroup u (next_of (groups_at u) g)))

  -- what the persons of a group cost: the terms of the queries that have the group as a class
  abbrev pub group_cost : ℕ → ℕ → ℕ → ℤ
  group_cost u g n = arc_cost (value_of c) (terms_of i (level_at i.schema (level_of i.spine u)) u (group_at (groups_at u) g)) n

  abbrev pub least_in : Option ℕ → ℕ → ℕ → ℕ
  least_in None u g = 0
  least_in (Some p) u g = group_low i u g (group_at (groups_at u) g)

  abbrev pub most_in : Option ℕ → ℕ → ℕ → ℕ
  most_in None u g = persons_limit
  most_in (Some p) u g = group_high i u g (group_at (groups_at u) g)

  -- the persons of a kind in a state; of a cell in a unit; of a group in a unit. A fixed arc can't change.
  abbrev pub arc_of : Option ℕ → ArcName → PricedArc
  arc_of fit Fixed = record { cost = free; low = 0; high = 0; flow = 0; rise = pos 0 }
  arc_of fit (Share st k) = record {
    cost = free;
    low = low i.spine i.known st k;
    high = high i.spine i.known st k;
    flow = kind_sum i.schema k (x st);
    rise = price fit (OfKind k) -ℤ price fit (OfState st);
  }
  arc_of fit (Give u j) = record {
    cost = free;
    low = 0;
    high = persons_limit;
    flow = x u j;
    rise = price fit (OfGroup u (smallest_of (groups_at u) j)) -ℤ price fit (giver fit j);
  }
  arc_of fit (Group u g) = record {
    cost = group_cost u g;
    low = least_in fit u g;
    high = most_in fit u g;
    flow = group_sum (groups_at u) (x u) g;
    rise = next_price fit u g -ℤ price fit (OfGroup u g);
  }
