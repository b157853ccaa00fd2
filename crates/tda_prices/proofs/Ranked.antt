-- Units that get the numbers from a first one on stand at them.
use Rattle.std.proofs.Common.{◌≡◌, ℕ, zero, suc, ◌+◌, ◌<◌, ◌≤◌, List, [], ◌∷◌, ◌++◌, length, get_or, set, drop, take, replicate, Some, refl, sym, ap, ◌∙◌, subst, arith, take_all, append-nil}
use Rattle.std.specs.Prelude.{slice_get}
use Rattle.std.specs.List.{AllByRecursion, flat_map, sum_by, range_with_len}
use Rattle.std.proofs.lemmas.List.{drop_more, get_or-set_same, get_or-set_other, length-set, length-replicate}
use Rattle.std.proofs.lemmas.List.Sums.{sum_by-cons}
use Rattle.std.proofs.lemmas.Option.{slice_get-get_or}
use Rattle.tda_model.specs.Spine.{Spine, children_of}
use Rattle.tda_model.specs.TablesText.{units_in_order}
use Rattle.tda_model.proofs.Shares.{sum_range_more}
use Rattle.tda_spine.specs.Sound.{IsSound}
use Rattle.tda_prices.specs.Ranks.{ranked, AreRanks}
use Rattle.tda_model.proofs.FitOrder.{EachOnce}
use Rattle.tda_out.proofs.Once.{each_unit, units_once, units_here, once_at_most}
use Rattle.tda_prices.proofs.Counts.{children_units}
use Rattle.tda_prices.proofs.PartRows.{none_left}
use Rattle.tda_prices.proofs.Starts.{Stands, all_stand}

abbrev Each : (ℕ → Type 0) → List ℕ → Type 0
Each P xs = AllByRecursion P xs

pub ranked_append : (ranks us vs : List ℕ) (first : ℕ) → ranked ranks (us ++ vs) first ≡ ranked (ranked ranks us first) vs (first + length us)
ranked_append ranks [] vs first = let e : first ≡ first + 0 = omega arith in ap (ranked ranks vs) e
ranked_append ranks (u ∷ us) vs first =
    let e : first + 1 + length us ≡ first + suc (length us) = omega arith in
    ranked_append (set ranks u first) us vs (first + 1) ∙ ap (ranked (ranked (set ranks u first) us (first + 1)) vs) e

pub ranked_long : (ranks us : List ℕ) (first : ℕ) → length (ranked ranks us first) ≡ length ranks
ranked_long ranks [] first = refl
ranked_long ranks (u ∷ us) first = ranked_long (set ranks u first) us (first + 1) ∙ length-set ranks u first

-- a unit that is not among them keeps its number
keeps : (ranks us : List ℕ) (first v : ℕ) → Each (λ u. v ≡ u → ⊥) us → get_or (ranked ranks us first) v 0 ≡ get_or ranks v 0
keeps ranks [] first v h = refl
keeps ranks (u ∷ us) first v h = keeps (set ranks u first) us (first + 1) v h.1 ∙ get_or-set_other ranks u v first 0 h.0

ranked_at : (ranks us : List ℕ) (first : ℕ) → EachOnce us → Each (λ u. u < length ranks) us → (k : ℕ) → k < length us → get_or (ranked ranks us first) (get_or us k 0) 0 ≡ first + k
ranked_at ranks [] first once here k below = absurd (omega arith)
ranked_at ranks (u ∷ us) first once here zero below =
    keeps (set ranks u first) us (first + 1) u once.0 ∙ get_or-set_same ranks u first 0 here.0 ∙ omega arith
ranked_at ranks (u ∷ us) first once here (suc k) below =
    ranked_at (set ranks u first) us (first + 1) once.1 (subst (λ n. Each (λ v. v < n) us) (sym (length-set ranks u first)) here.1) k (omega arith) ∙ omega arith

-- ---- the units in order
module _ (sp : Spine) (sound : IsSound sp) where
  pub order_short : length (units_in_order sp) ≤ length sp.units
  order_short =
      let ones = once_at_most (length sp.units) (λ u. 1) (units_in_order sp) (units_once sp sound.tree) (units_here sp sound.tree) in
      omega (arith, count (units_in_order sp), ones, all (length sp.units))
    where
      count : (us : List ℕ) → length us ≡ sum_by (λ u. 1) us
      count [] = refl
      count (u ∷ us) = omega (arith, sum_by-cons (λ (u : ℕ). 1) u us, count us)

      all : (n : ℕ) → sum_by (λ u. 1) (range_with_len 0 n) ≡ n
      all zero = refl
      all (suc n) = sum_range_more (λ u. 1) n ∙ omega (arith, all n)

  pub are_ranks : (ranks : List ℕ) → ranks ≡ ranked (replicate (length sp.units) 0) (units_in_order sp) 0 → AreRanks sp ranks
  are_ranks ranks is = record {
    size = ap length is ∙ ranked_long (replicate (length sp.units) 0) (units_in_order sp) 0 ∙ length-replicate (length sp.units) 0;
    there = λ u here.
        let at = each_unit sp sound.tree (λ u. Stands u (units_in_order sp)) (all_stand (units_in_order sp)) u here in
        let rank : get_or ranks u 0 ≡ at.index =
        ap (λ rs. get_or rs u 0) is ∙ ap (λ v. get_or (ranked (replicate (length sp.units) 0) (units_in_order sp) 0) v 0) (sym at.is)
        ∙ ranked_at (replicate (length sp.units) 0) (units_in_order sp) 0 (units_once sp sound.tree)
        (subst (λ n. Each (λ v. v < n) (units_in_order sp)) (sym (length-replicate (length sp.units) 0)) (units_here sp sound.tree)) at.index at.below ∙ (let zero_first : 0 + at.index ≡ at.index = omega arith in zero_first) in
        ap (slice_get (units_in_order sp)) rank ∙ slice_get-get_or (units_in_order sp) at.index 0 at.below ∙ ap Some at.is;
  }

  pub children_here : (p k d : ℕ) → k < length (children_of sp p) → get_or (children_of sp p) k d < length sp.units
  children_here p k d below = children_units sp sound.tree p k d below

  -- the next parent's children, and those after them
  pub children_next : (parents : List ℕ) (k : ℕ) → k < length parents
      → flat_map (children_of sp) (drop k parents) ≡ children_of sp (get_or parents k 0) ++ flat_map (children_of sp) (drop (k + 1) parents)
  children_next parents k below = ap (flat_map (children_of sp)) (drop_more parents k 0 below)

  pub ranked_more : (start ranks : List ℕ) (next k : ℕ) (parents : List ℕ) → k < length parents → start ≡ ranked ranks (flat_map (children_of sp) (drop k parents)) next
      → start ≡ ranked (ranked ranks (children_of sp (get_or parents k 0)) next) (flat_map (children_of sp) (drop (k + 1) parents)) (next + length (children_of sp (get_or parents k 0)))
  ranked_more start ranks next k parents below is =
      is ∙ ap (λ us. ranked ranks us next) (children_next parents k below)
      ∙ ranked_append ranks (children_of sp (get_or parents k 0)) (flat_map (children_of sp) (drop (k + 1) parents)) next

-- a part that is as long as the whole takes its place
pub written_back : (new old : List ℕ) (len : ℕ) → length new ≡ len → length old ≡ len → take len (new ++ drop (length new) old) ≡ new
written_back new old len e d =
    ap (λ rest. take len (new ++ rest)) (none_left old (length new) (omega arith)) ∙ ap (take len) (append-nil new) ∙ take_all len new (omega arith)
