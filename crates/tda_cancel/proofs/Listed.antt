-- The list of steps grows turn by turn.
use Rattle.std.proofs.Common.{◌≡◌, ℕ, ◌+◌, ◌<◌, List, [], ◌∷◌, ◌++◌, length, ℤ, refl, sym, ap, subst, ◌∙◌, inl, inr, arith, length-append}
use Rattle.std.proofs.lemmas.Bool.{cases_eq, cases_lt}
use Rattle.std.proofs.lemmas.List.{get_or_push, get_or_append_left}
use Rattle.tda_flow.specs.declared.net.Turn.{Turn}
use Rattle.tda_flow.specs.Network.{Network}
use Rattle.tda_flow.specs.Turns.{turn_number}
use Rattle.tda_flow.proofs.Passes.{turn_of_number}
use Rattle.tda_cancel.specs.declared.steps.Step.{Step}
use Rattle.tda_cancel.specs.Steps.{step_at, no_step, IsStep, AreSteps}

-- a usable turn
pub listed-more : (curve : ℤ → ℤ) (net : Network) (flow : List ℕ) (steps : List Step) (s : Step) (t : Turn) → AreSteps curve net flow (turn_number t) steps
    → IsStep curve net flow s → s.turn ≡ t → AreSteps curve net flow (turn_number t + 1) (steps ++ s ∷ [])
listed-more curve net flow steps s t h is e =
    let end : step_at (steps ++ s ∷ []) (length steps) ≡ s = get_or_push steps s no_step (length steps) refl in
    let size : length (steps ++ s ∷ []) ≡ length steps + 1 = length-append steps (s ∷ []) in
    let old : (i : ℕ) → i < length steps → step_at (steps ++ s ∷ []) i ≡ step_at steps i = λ i l. get_or_append_left steps (s ∷ []) no_step i l in
    record {
      each =
          λ i l.
          elim (cases_lt i (length steps)) [
            | inl k ↦ subst (λ z. IsStep curve net flow z) (sym (old i k)) (h.each i k)
            | inr k ↦
                let q : length steps ≡ i = omega arith in
                subst (λ z. IsStep curve net flow (step_at (steps ++ s ∷ []) z)) q (subst (λ z. IsStep curve net flow z) (sym end) is)
          ];
      all =
          λ u usable l.
          elim (cases_eq (turn_number u) (turn_number t)) [
            | inl q ↦ (length steps, omega arith, ap (λ (z : Step). z.turn) end ∙ e ∙ turn_of_number u t q)
            | inr ne ↦
                let w = h.all u usable (omega arith) in
                (w.0, omega (arith, w.1), ap (λ (z : Step). z.turn) (old w.0 w.1) ∙ w.2)
          ];
      few = let f = h.few in omega arith;
    }
