-- A certificate looks at the counts of units and cells alone.
use Rattle.std.proofs.Common.{◌≡◌, ℕ, ◌<◌, ◌==◌, List, [], ◌∷◌, length, filter, Option, Some, None, sym, ◌∙◌, subst, arith}
use Rattle.std.specs.List.{sum_by}
use Rattle.tda_model.specs.Cells.{cell_count, kind_of, all_cells}
use Rattle.tda_model.specs.Schema.{Schema}
use Rattle.tda_model.specs.Spine.{Spine, IsUnit, IsTree, is_child, level_of, nation_of, children_of, unit_numbers}
use Rattle.tda_model.specs.Tables.{Tables, kind_sum, persons_in}
use Rattle.tda_model.specs.Release.{Inputs}
use Rattle.tda_model.proofs.Sums.{Each, each_filter, each_range, sum_same}
use Rattle.tda_loss.specs.declared.Curve.{Curve}
use Rattle.tda_groups.specs.Order.{group_at}
use Rattle.tda_fitnet.specs.Fits.{group_sum}
use Rattle.tda_fitnet.specs.declared.name.ArcName.TheVariants.{Share, Give, Group}
use Rattle.tda_prices.specs.Items.{Pricing}
use Rattle.tda_audit.specs.Arcs.{PricedArc, IsSettled, arc_of}
use Rattle.tda_audit.specs.Certified.{Keeps, IsUnitSettled, Certifies}

-- an arc with another flow
abbrev with_flow : PricedArc → ℕ → PricedArc
with_flow a n = record { cost = a.cost; low = a.low; high = a.high; flow = n; rise = a.rise }

children_are : (sp : Spine) (p : ℕ) → Each (IsUnit sp) (children_of sp p)
children_are sp p = each_filter (IsUnit sp) (is_child sp p) (unit_numbers sp) (each_range _ 0 (length sp.units) (λ u lo hi is. omega (arith, hi)))

module _ (c : Curve) (i : Inputs) (groups : ℕ → List (List ℕ)) (x y : Tables) (price : Pricing) (tree : IsTree i.spine (nation_of i.spine))
    (same : (u j : ℕ) → IsUnit i.spine u → j < cell_count i.schema → x u j ≡ y u j)
    (cells : (u g : ℕ) → IsUnit i.spine u → g < length (groups (level_of i.spine u)) → Each (λ j. j < cell_count i.schema) (group_at (groups (level_of i.spine u)) g)) where
  abbrev s : Schema
  s = i.schema

  all_same : (u : ℕ) → IsUnit i.spine u → Each (λ j. x u j ≡ y u j) (all_cells s)
  all_same u here = each_range (λ j. x u j ≡ y u j) 0 (cell_count s) (λ j lo hi. same u j here (omega (arith, hi)))

  persons_same : (u : ℕ) → IsUnit i.spine u → persons_in s (x u) ≡ persons_in s (y u)
  persons_same u here = sum_same (x u) (y u) (all_cells s) (all_same u here)

  kind_same : (u k : ℕ) → IsUnit i.spine u → kind_sum s k (x u) ≡ kind_sum s k (y u)
  kind_same u k here =
      sum_same (x u) (y u) (filter (λ j. kind_of s j == k) (all_cells s))
      (each_filter _ (λ j. kind_of s j == k) (all_cells s) (each_range _ 0 (cell_count s) (λ j lo hi at. same u j here (omega (arith, hi)))))

  group_same : (u g : ℕ) → IsUnit i.spine u → g < length (groups (level_of i.spine u)) → group_sum (groups (level_of i.spine u)) (x u) g ≡ group_sum (groups (level_of i.spine u)) (y u) g
  group_same u g here low = sum_same (x u) (y u) (group_at (groups (level_of i.spine u)) g) (all (group_at (groups (level_of i.spine u)) g) (cells u g here low))
    where
      all : (js : List ℕ) → Each (λ j. j < cell_count s) js → Each (λ j. x u j ≡ y u j) js
      all [] h = tt
      all (j ∷ js) h = (same u j here h.0, all js h.1)

  children_same : (p j : ℕ) → j < cell_count s → sum_by (λ v. x v j) (children_of i.spine p) ≡ sum_by (λ v. y v j) (children_of i.spine p)
  children_same p j low = sum_same (λ v. x v j) (λ v. y v j) (children_of i.spine p) (all (children_of i.spine p) (children_are i.spine p))
    where
      all : (us : List ℕ) → Each (IsUnit i.spine) us → Each (λ v. x v j ≡ y v j) us
      all [] h = tt
      all (u ∷ us) h = (same u j h.0 low, all us h.1)

  keeps : Keeps i x → Keeps i y
  keeps h = record {
    sums = λ p j here above low. sym (same p j here low) ∙ h.sums p j here above low ∙ children_same p j low;
    possible = λ u j here low not. sym (same u j here low) ∙ h.possible u j here low not;
    totals = λ st here at. sym (persons_same st here) ∙ h.totals st here at;
    enough = λ u k here low. let e = kind_same u k here in let le = h.enough u k here low in omega (arith, e, le);
    not_more = λ u k here low. let e = kind_same u k here in let le = h.not_more u k here low in omega (arith, e, le);
  }

  share_settled : (st k : ℕ) → IsUnit i.spine st → IsSettled (arc_of c i groups x price None (Share st k)) → IsSettled (arc_of c i groups y price None (Share st k))
  share_settled st k here h = subst (λ n. IsSettled (with_flow (arc_of c i groups x price None (Share st k)) n)) (kind_same st k here) h

  unit_settled : (fit : Option ℕ) (u : ℕ) → IsUnit i.spine u → IsUnitSettled c i groups x price fit u → IsUnitSettled c i groups y price fit u
  unit_settled fit u here h = record {
    each_cell = λ j low can. subst (λ n. IsSettled (with_flow (arc_of c i groups x price fit (Give u j)) n)) (same u j here low) (h.each_cell j low can);
    each_group = λ g low. subst (λ n. IsSettled (with_flow (arc_of c i groups x price fit (Group u g)) n)) (group_same u g here low) (h.each_group g low);
  }

  pub same_certified : Certifies c i groups x price → Certifies c i groups y price
  same_certified h = record {
    keeps = keeps h.keeps;
    shares = λ st k here at low. share_settled st k here (h.shares st k here at low);
    nation = unit_settled None (nation_of i.spine) tree.root h.nation;
    children = λ p u at here up. unit_settled (Some p) u here (h.children p u at here up);
  }
