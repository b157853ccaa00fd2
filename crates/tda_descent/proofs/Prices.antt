-- The prices of a fit are those of a solved net without the hub's.
use Rattle.std.proofs.Common.{◌≡◌, ℕ, suc, ◌+◌, ◌*◌, ◌≤◌, ◌^◌, ℤ, pos, List, [], ◌∷◌, length, get_or, remove, sym, ap, ◌∙◌, subst, arith}
use Rattle.std.proofs.lemmas.List.{get_or_default}
use Rattle.tda_loss.specs.Curve.{IsWithin}
use Rattle.tda_flow.specs.Network.{Network, IsSound, arc_count}
use Rattle.tda_flow.specs.Flow.{cost}
use Rattle.tda_flow.specs.Certificate.{IsCertified, price_at}
use Rattle.tda_descent.specs.declared.fit.Fit.{Fit}
use Rattle.tda_descent.specs.Solved.{IsSolved}
use Rattle.tda_descent.specs.Made.{IsMadeOf}

hub_first : (prices : List ℤ) (rest : List ℤ) → 1 ≤ length prices → price_at prices 0 ≡ pos 0 → rest ≡ remove prices 0 → pos 0 ∷ rest ≡ prices
hub_first [] rest some hub e = absurd (omega arith)
hub_first (p ∷ ps) rest some hub e = ap (λ q. q ∷ rest) (sym hub) ∙ ap (λ l. p ∷ l) e

pub made : (curve : ℤ → ℤ) (net : Network) (flow : List ℕ) (prices : List ℤ) (fit : Fit) → IsSound net → IsSolved curve net flow prices
    → fit.prices.items ≡ remove prices 0 → pos fit.deviation ≡ cost curve net flow → fit.deviation ≤ 2 ^ 91 * arc_count net → IsMadeOf curve net flow fit
made curve net flow prices fit sound h e costs small =
    let whole : pos 0 ∷ fit.prices.items ≡ prices = hub_first prices fit.prices.items (omega (arith, sound.some_node, h.are_prices.count)) h.hub e in
    let count : length fit.prices.items + 1 ≡ net.nodes = omega (arith, ap length whole, h.are_prices.count) in
    record {
      certified = subst (IsCertified curve net flow) (sym whole) h.certified;
      prices = count;
      near = λ k d low.
          let within : IsWithin (2 ^ 96) (get_or prices (suc k) (pos 0)) = h.are_prices.within (suc k) (omega (arith, count)) in
          let here : IsWithin (2 ^ 96) (get_or fit.prices.items k (pos 0)) = subst (λ l. IsWithin (2 ^ 96) (get_or l (suc k) (pos 0))) (sym whole) within in
          subst (IsWithin (2 ^ 96)) (get_or_default fit.prices.items k (pos 0) d low) here;
      deviation = costs;
      small = omega (arith, small);
    }
