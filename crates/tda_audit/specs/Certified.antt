-- Tables that keep what is published, and prices that show them to be least at each fit.
use Rattle.std.specs.Prelude.{ℕ, ◌≡◌, ◌≤◌, ◌<◌, ◌+◌, true, false, List, length, sum_by, Option, Some, None}
use Rattle.tda_model.specs.Cells.{cell_count, is_possible}
use Rattle.tda_model.specs.Groups.{kind_count}
use Rattle.tda_model.specs.Spine.{IsUnit, HasParent, level_of, nation_of, children_of}
use Rattle.tda_model.specs.Tables.{Tables, kind_sum, persons_in}
use Rattle.tda_model.specs.Bounds.{low, high}
use Rattle.tda_model.specs.Release.{Inputs}
use Rattle.tda_loss.specs.declared.Curve.{Curve}
use Rattle.tda_schema.specs.Stated.{level_at}
use Rattle.tda_model.specs.Schema.{Schema}
use Rattle.tda_groups.specs.Chains.{groups_in_order}
use Rattle.tda_fitnet.specs.declared.name.ArcName.TheVariants.{Share, Give, Group}
use Rattle.tda_prices.specs.Items.{Pricing}
use Rattle.tda_audit.specs.Arcs.{IsSettled, arc_of}

-- the groups of each level
abbrev pub level_groups : Schema → ℕ → List (List ℕ)
level_groups s l = groups_in_order s (level_at s l)

-- children add up to their parent, nobody is where nobody can be, each state has its total, and of each kind a unit has as many as it may
pub record Keeps (i : Inputs) (x : Tables) : Type 0 where
  pub sums : (p j : ℕ) → IsUnit i.spine p → level_of i.spine p + 1 < i.spine.depth → j < cell_count i.schema → x p j ≡ sum_by (λ c. x c j) (children_of i.spine p)
  pub possible : (u j : ℕ) → IsUnit i.spine u → j < cell_count i.schema → is_possible i.schema j ≡ false → x u j ≡ 0
  pub totals : (st : ℕ) → IsUnit i.spine st → level_of i.spine st ≡ 1 → persons_in i.schema (x st) ≡ i.known.total st
  pub enough : (u k : ℕ) → IsUnit i.spine u → k < kind_count i.schema → low i.spine i.known u k ≤ kind_sum i.schema k (x u)
  pub not_more : (u k : ℕ) → IsUnit i.spine u → k < kind_count i.schema → kind_sum i.schema k (x u) ≤ high i.spine i.known u k

module _ (c : Curve) (i : Inputs) (groups : ℕ → List (List ℕ)) (x : Tables) (price : Pricing) where
  -- the arcs of a unit at a fit: of its cells, and of its groups
  pub record IsUnitSettled (fit : Option ℕ) (u : ℕ) : Type 0 where
    pub each_cell : (j : ℕ) → j < cell_count i.schema → is_possible i.schema j ≡ true → IsSettled (arc_of c i groups x price fit (Give u j))
    pub each_group : (g : ℕ) → g < length (groups (level_of i.spine u)) → IsSettled (arc_of c i groups x price fit (Group u g))

  pub record Certifies : Type 0 where
    pub keeps : Keeps i x
    pub shares : (st k : ℕ) → IsUnit i.spine st → level_of i.spine st ≡ 1 → k < kind_count i.schema → IsSettled (arc_of c i groups x price None (Share st k))
    pub nation : IsUnitSettled None (nation_of i.spine)
    pub children : (p u : ℕ) → IsUnit i.spine p → IsUnit i.spine u → HasParent i.spine u p → IsUnitSettled (Some p) u
