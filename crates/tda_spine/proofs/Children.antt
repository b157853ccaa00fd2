-- How many children each unit has.
use Rattle.std.proofs.Common.{◌≡◌, ℕ, ◌+◌, ◌<◌, ◌≤◌, ◌^◌, cond, List, length, get_or, take, count_by, All, sym, ap, ◌∙◌, arith}
use Rattle.std.proofs.lemmas.List.{length-take-le}
use Rattle.std.proofs.lemmas.List.Elements.{All-from_get_or}
use Rattle.std.proofs.lemmas.List.Sums.{count_by-le-length}
use Rattle.std.proofs.lemmas.List.FromFn.{fill_by_all, length-range_with_len, length-map-range_with_len, get_or-map-range_with_len}
use Rattle.tda_model.specs.Spine.{Spine, is_child, children_of, unit_numbers}
use Rattle.tda_spine.specs.Counts.{child_counts}
use Rattle.tda_spine.proofs.Numbers.{count_next, count_all}

-- the children among the first k units are counted
pub record AreCounted (sp : Spine) (k : ℕ) (counts : List ℕ) : Type 0 where
  pub long : length counts ≡ length sp.units
  pub each : (p : ℕ) → p < length sp.units → get_or counts p 0 ≡ count_by (is_child sp p) (take k (unit_numbers sp))

module _ (sp : Spine) where
  pub one_counted : (k : ℕ) (old new : List ℕ) → k < length sp.units → AreCounted sp k old → length new ≡ length old
      → ((p : ℕ) → p < length old → get_or new p 0 ≡ get_or old p 0 + cond (is_child sp p k) 1 0) → AreCounted sp (k + 1) new
  one_counted k old new below h len each =
      let long : length old ≡ length sp.units = h.long in record {
        long = len ∙ h.long;
        each = λ p here. each p (omega arith) ∙ ap (λ n. n + cond (is_child sp p k) 1 0) (h.each p here) ∙ sym (count_next (is_child sp p) (length sp.units) k below);
      }

  pub all_counted : (k : ℕ) (counts : List ℕ) → length sp.units ≤ k → AreCounted sp k counts → counts ≡ child_counts sp
  all_counted k counts all h =
      fill_by_all (λ u. length (children_of sp u)) counts (length sp.units) 0 h.long
      (λ p here. h.each p here ∙ count_all (is_child sp p) (length sp.units) k all)

  -- while children are counted there is room for one more
  pub room : (k : ℕ) (counts : List ℕ) → length sp.units < 2 ^ 30 → k ≤ length sp.units → AreCounted sp k counts → All (λ n. n < 2 ^ 30) counts
  room k counts few le h =
      All-from_get_or (λ n. n < 2 ^ 30) counts 0 (λ p here.
      let at = h.each p (omega (arith, h.long)) in
      let long : length (unit_numbers sp) ≡ length sp.units = length-range_with_len 0 (length sp.units) in
      omega (arith, at, few, length-take-le k (unit_numbers sp) (omega arith), count_by-le-length (is_child sp p) (take k (unit_numbers sp))))

  module _ (counts : List ℕ) (counted : counts ≡ child_counts sp) where
    pub counts-length : length counts ≡ length sp.units
    counts-length = ap length counted ∙ length-map-range_with_len (λ u. length (children_of sp u)) 0 (length sp.units)

    pub count_of : (u d : ℕ) → u < length sp.units → get_or counts u d ≡ length (children_of sp u)
    count_of u d here =
        ap (λ xs. get_or xs u d) counted ∙ get_or-map-range_with_len (λ v. length (children_of sp v)) 0 (length sp.units) u u d here (omega arith)
