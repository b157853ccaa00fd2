-- One row of the table, step by step.
use Rattle.std.proofs.Common.{◌≡◌, ◌≢◌, ℕ, ◌+◌, ◌<◌, ◌≤◌, ◌^◌, List, length, set, Option, Some, None, ℤ, pos, ◌+ℤ◌, ◌≤ℤ◌, ◌<ℤ◌, refl, sym, ap, subst, ◌∙◌, inl, inr, arith, get_or-set_same, get_or-set_other}
use Rattle.std.proofs.lemmas.Int.{ints}
use Rattle.std.proofs.lemmas.Bool.{cases_eq}
use Rattle.tda_loss.specs.Curve.{IsWithin}
use Rattle.tda_cancel.specs.declared.steps.Step.{Step}
use Rattle.tda_cancel.specs.Steps.{step_at, AreBetween}
use Rattle.tda_cancel.specs.Rows.{cost_at, last_at, IsLast, IsNextRow, IsSettled}

-- no number of the next row is above that of the row before
pub row-falls : (steps : List Step) (m n : ℕ) (before after : ℕ → ℤ) (lasts : ℕ → Option ℕ) → IsNextRow steps m n before after lasts
    → (v : ℕ) → v < n → after v ≤ℤ before v
row-falls steps m n before after lasts h v l = go (lasts v) (h.last v l)
  where
    go : (o : Option ℕ) → IsLast steps m before after v o → after v ≤ℤ before v
    go None e = omega (arith, ints, e)
    go (Some i) e = omega (arith, ints, e.less)

last-same : (steps : List Step) (m k : ℕ) (before after new : ℕ → ℤ) (v : ℕ) (o : Option ℕ) → m ≤ k → new v ≡ after v → IsLast steps m before after v o
    → IsLast steps k before new v o
last-same steps m k before after new v None l e h = e ∙ h
last-same steps m k before after new v (Some i) l e h = record {
  listed = let a = h.listed in omega arith;
  to = h.to;
  is = e ∙ h.is;
  less = let a = h.less in omega (arith, ints);
}

-- a step that leads to no less than its end has
pub row-kept : (steps : List Step) (m n : ℕ) (before after : ℕ → ℤ) (lasts : ℕ → Option ℕ) → IsNextRow steps m n before after lasts
    → after (step_at steps m).to ≤ℤ (before (step_at steps m).from +ℤ (step_at steps m).cost) → IsNextRow steps (m + 1) n before after lasts
row-kept steps m n before after lasts h least = record {
  under =
      λ i l.
      elim (cases_eq i m) [
        | inl e ↦ subst (λ z. after (step_at steps z).to ≤ℤ (before (step_at steps z).from +ℤ (step_at steps z).cost)) (sym e) least
        | inr ne ↦ h.under i (omega arith)
      ];
  last = λ v l. last-same steps m (m + 1) before after after v (lasts v) (omega arith) refl (h.last v l);
}

-- a step that lowers the number of its end
pub row-lowered : (steps : List Step) (m n : ℕ) (before : ℕ → ℤ) (costs : List ℤ) (lasts : List (Option ℕ)) (e : ℕ) (c : ℤ)
    → IsNextRow steps m n before (cost_at costs) (last_at lasts) → (step_at steps m).to ≡ e → c ≡ before (step_at steps m).from +ℤ (step_at steps m).cost
    → c <ℤ cost_at costs e → e < n → length costs ≡ n → length lasts ≡ n
    → IsNextRow steps (m + 1) n before (cost_at (set costs e c)) (last_at (set lasts e (Some m)))
row-lowered steps m n before costs lasts e c h to is less node size size' =
    let new : List ℤ = set costs e c in
    let here : cost_at new e ≡ c = get_or-set_same costs e c (pos 0) (omega arith) in
    let other : (v : ℕ) → v ≢ e → cost_at new v ≡ cost_at costs v = λ v ne. get_or-set_other costs e v c (pos 0) ne in
    let falls : (v : ℕ) → cost_at new v ≤ℤ cost_at costs v =
    λ v.
    elim (cases_eq v e) [
      | inl q ↦ let a = ap (cost_at new) q in let b = ap (cost_at costs) q in omega (arith, ints)
      | inr ne ↦ omega (arith, ints, other v ne)
    ] in
    record {
      under =
          λ i l.
          elim (cases_eq i m) [
            | inl q ↦
                let a : cost_at new (step_at steps m).to ≡ c = ap (cost_at new) to ∙ here in
                subst (λ z. cost_at new (step_at steps z).to ≤ℤ (before (step_at steps z).from +ℤ (step_at steps z).cost)) (sym q) (omega (arith, ints))
            | inr ne ↦ let a = h.under i (omega arith) in let b = falls (step_at steps i).to in omega (arith, ints)
          ];
      last =
          λ v l.
          elim (cases_eq v e) [
            | inl q ↦
                let below = row-falls steps m n before (cost_at costs) (last_at lasts) h e node in
                let mine : IsLast steps (m + 1) before (cost_at new) e (Some m) = record {
                  listed = omega arith;
                  to = to;
                  is = here ∙ is;
                  less = omega (arith, ints);
                } in
                let top : last_at (set lasts e (Some m)) e ≡ Some m = get_or-set_same lasts e (Some m) None (omega arith) in
                subst (λ z. IsLast steps (m + 1) before (cost_at new) z (last_at (set lasts e (Some m)) z)) (sym q)
                (subst (λ o. IsLast steps (m + 1) before (cost_at new) e o) (sym top) mine)
            | inr ne ↦
                let same : last_at (set lasts e (Some m)) v ≡ last_at lasts v = get_or-set_other lasts e v (Some m) None ne in
                subst (λ o. IsLast steps (m + 1) before (cost_at new) v o) (sym same)
                (last-same steps m (m + 1) before (cost_at costs) (cost_at new) v (last_at lasts v) (omega arith) (other v ne) (h.last v l))
          ];
    }

-- how large the numbers of the next row are
pub row-near : (steps : List Step) (n b : ℕ) (before after : ℕ → ℤ) (lasts : ℕ → Option ℕ) → AreBetween n steps
    → IsNextRow steps (length steps) n before after lasts → ((v : ℕ) → v < n → IsWithin b (before v)) → (v : ℕ) → v < n → IsWithin (b + 2 ^ 61) (after v)
row-near steps n b before after lasts between h near v l = go (lasts v) (h.last v l)
  where
    go : (o : Option ℕ) → IsLast steps (length steps) before after v o → IsWithin (b + 2 ^ 61) (after v)
    go None e = let w = near v l in record { low = omega (arith, ints, e, w.low); high = omega (arith, ints, e, w.high) }
    go (Some i) e =
        let w = near (step_at steps i).from (between.from i e.listed) in
        let s = between.near i e.listed in
        record { low = omega (arith, ints, e.is, w.low, s.low); high = omega (arith, ints, e.is, w.high, s.high) }

-- a row that lowers no node's number is settled
pub row-settled : (steps : List Step) (n : ℕ) (before : ℕ → ℤ) (costs : List ℤ) (lasts : ℕ → Option ℕ) → AreBetween n steps
    → IsNextRow steps (length steps) n before (cost_at costs) lasts → ((v : ℕ) → v < n → lasts v ≡ None) → IsSettled steps costs
row-settled steps n before costs lasts between h none i l =
    let u = h.under i l in
    let f : ℕ = (step_at steps i).from in
    let at = between.from i l in
    let same : cost_at costs f ≡ before f = subst (λ o. IsLast steps (length steps) before (cost_at costs) f o) (none f at) (h.last f at) in
    omega (arith, ints)
