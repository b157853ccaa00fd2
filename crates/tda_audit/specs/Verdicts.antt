-- The verdict: the first condition that fails.
use Rattle.std.specs.Prelude.{ℕ, ◌+◌, ◌-◌, ◌==◌, ◌&&◌, ◌||◌, not, nat_lt, Bool, false, List, [], ◌∷◌, ◌++◌, length, map, filter, find, sum_by, ◌-ℤ◌, int_lt, Option, Some, None, unwrap_or}
use Rattle.std.specs.List.{flat_map, range_with_len}
use Rattle.tda_model.specs.Cells.{is_possible, all_cells, possible_cells}
use Rattle.tda_model.specs.Groups.{kind_count}
use Rattle.tda_model.specs.Spine.{Spine, level_of, nation_of, children_of, unit_numbers, units_at}
use Rattle.tda_model.specs.Schema.{Schema}
use Rattle.tda_model.specs.Tables.{Tables, Published, kind_sum, persons_in}
use Rattle.tda_model.specs.Bounds.{low, high}
use Rattle.tda_model.specs.Release.{Inputs}
use Rattle.tda_spine.specs.Judged.{is_inner, fits_of}
use Rattle.tda_loss.specs.declared.Curve.{Curve}
use Rattle.tda_flow.specs.declared.judge.Side.{Side}
use Rattle.tda_flow.specs.declared.judge.Side.TheVariants.{Up, Down}
use Rattle.tda_fitnet.specs.declared.name.ArcName.{ArcName}
use Rattle.tda_fitnet.specs.declared.name.ArcName.TheVariants.{Share, Give, Group}
use Rattle.tda_prices.specs.Items.{Pricing}
use Rattle.tda_audit.specs.Arcs.{PricedArc, arc_of}
use Rattle.tda_audit.specs.declared.verdict.Verdict.{Verdict}
use Rattle.tda_audit.specs.declared.verdict.Verdict.TheVariants.{Yes, Sum, Impossible, Total, Kind, Arc}

abbrev pub side_fails : Side → PricedArc → Bool
side_fails Up a = nat_lt a.flow a.high && int_lt (a.cost (a.flow + 1) -ℤ a.cost a.flow) a.rise
side_fails Down a = nat_lt a.low a.flow && int_lt a.rise (a.cost a.flow -ℤ a.cost (a.flow - 1))

-- up comes first
abbrev pub both_sides : List Side
both_sides = Up ∷ Down ∷ []

-- the side on which an arc fails first
abbrev pub failing : PricedArc → Option Side
failing a = find (λ side. side_fails side a) both_sides

-- both sides of each of these arcs of a fit
abbrev pub all_sides : Option ℕ → List ArcName → List Verdict
all_sides fit names = flat_map (λ a. map (Arc fit a) both_sides) names

-- ---- all that may fail, in order
module _ (s : Schema) (sp : Spine) where
  abbrev pub of_cells : (ℕ → ℕ → Verdict) → List ℕ → List Verdict
  of_cells verdict units = flat_map (λ u. map (verdict u) (all_cells s)) units

  -- the sums of units with children, the cells, the totals of states, the kinds
  abbrev pub all_sums : List Verdict
  all_sums = of_cells Sum (filter (is_inner sp) (unit_numbers sp))

  abbrev pub all_impossible : List Verdict
  all_impossible = of_cells Impossible (unit_numbers sp)

  abbrev pub all_totals : List Verdict
  all_totals = map Total (units_at sp 1)

  abbrev pub all_kinds : List Verdict
  all_kinds = flat_map (λ u. map (Kind u) (range_with_len 0 (kind_count s))) (unit_numbers sp)

  -- what is published
  abbrev pub all_rules : List Verdict
  all_rules = all_sums ++ (all_impossible ++ (all_totals ++ all_kinds))

-- the shares of a state, and of all states
abbrev pub state_share_names : Schema → ℕ → List ArcName
state_share_names s st = map (Share st) (range_with_len 0 (kind_count s))

abbrev pub share_names : Inputs → List ArcName
share_names i = flat_map (state_share_names i.schema) (units_at i.spine 1)

module _ (i : Inputs) (groups : ℕ → List (List ℕ)) where
  abbrev pub give_names : ℕ → List ArcName
  give_names u = map (Give u) (possible_cells i.schema)

  abbrev pub group_names : ℕ → List ArcName
  group_names u = map (Group u) (range_with_len 0 (length (groups (level_of i.spine u))))

  -- the arcs of a fit that may change
  abbrev pub names_of : Option ℕ → List ArcName
  names_of None =
      share_names i
      ++ (give_names (nation_of i.spine) ++ group_names (nation_of i.spine))
  names_of (Some p) = flat_map give_names (children_of i.spine p) ++ flat_map group_names (children_of i.spine p)

  abbrev pub sides_of : Option ℕ → List Verdict
  sides_of fit = all_sides fit (names_of fit)

  abbrev pub all_verdicts : List Verdict
  all_verdicts = all_rules i.schema i.spine ++ flat_map sides_of (fits_of i.spine)

-- ---- what fails
module _ (s : Schema) (sp : Spine) (known : Published) (x : Tables) where
  -- what is published isn't kept
  abbrev pub breaks : Verdict → Bool
  breaks Yes = false
  breaks (Sum u j) = not (x u j == sum_by (λ v. x v j) (children_of sp u))
  breaks (Impossible u j) = not (is_possible s j) && not (x u j == 0)
  breaks (Total st) = not (persons_in s (x st) == known.total st)
  breaks (Kind u k) = nat_lt (kind_sum s k (x u)) (low sp known u k) || nat_lt (high sp known u k) (kind_sum s k (x u))
  breaks (Arc fit a side) = false

module _ (i : Inputs) (groups : ℕ → List (List ℕ)) (c : Curve) (x : Tables) (price : Pricing) where
  abbrev pub fails : Verdict → Bool
  fails Yes = false
  fails (Sum u j) = breaks i.schema i.spine i.known x (Sum u j)
  fails (Impossible u j) = breaks i.schema i.spine i.known x (Impossible u j)
  fails (Total st) = breaks i.schema i.spine i.known x (Total st)
  fails (Kind u k) = breaks i.schema i.spine i.known x (Kind u k)
  fails (Arc fit a side) = side_fails side (arc_of c i groups x price fit a)

  -- the first of these arcs of a fit that fails, with its side
  abbrev pub first_failing : Option ℕ → List ArcName → Option Verdict
  first_failing fit names = find fails (all_sides fit names)

  -- the first that fails, and Yes where none does
  abbrev pub verdict : Verdict
  verdict = unwrap_or (find fails (all_verdicts i groups)) Yes
