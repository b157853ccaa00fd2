-- The walk that last turns spell, from its end to its start.
use Rattle.std.proofs.Common.{◌≡◌, ℕ, zero, suc, ◌+◌, ◌-◌, ◌<◌, ◌≤◌, List, [], ◌∷◌, length, drop, set, get_or, Option, Some, None, refl, sym, ap, subst, ◌∙◌, arith, length-set, get_or-set_same, drop-set-lt}
use Rattle.std.proofs.lemmas.List.{drop_more}
use Rattle.std.proofs.lemmas.List.Elements.{All-cons}
use Rattle.tda_flow.specs.declared.net.Turn.{Turn}
use Rattle.tda_flow.specs.Turns.{turn_from, turn_to}
use Rattle.tda_flow.specs.Walk.{Space, IsUsable, IsWalk, Follows}
use Rattle.tda_flow.specs.Reach.{LeadsTo, IsSearched, EndsLeastWalk, AreLasts}
use Rattle.tda_flow.specs.Network.{Network}
use Rattle.tda_flow.proofs.Walks.{walk-append, walk-one}

-- a node with a last turn has a rank above 0, and the turn comes from a node of one less
pub last_leads : (s : Space) (start : ℕ) (rank : ℕ → Option ℕ) (last : ℕ → Option Turn) → IsSearched s start rank last
    → (v n : ℕ) (t : Turn) → rank v ≡ Some n → last v ≡ Some t → (0 < n) × LeadsTo s rank v (n - 1) t
last_leads s start rank last h v n t e f = go n e
  where
    go : (n : ℕ) → rank v ≡ Some n → (0 < n) × LeadsTo s rank v (n - 1) t
    go zero e = let a = h.first v e in absurd (cc)
    go (suc n) e =
        let w = h.turn v n e in
        let same : w.0 ≡ t = cc in
        let q : n ≡ suc n - 1 = omega arith in
        (omega arith, subst (λ k. LeadsTo s rank v k t) q (subst (λ z. LeadsTo s rank v n z) same w.2))

-- a node with a rank and no last turn is the start
pub last_none : (s : Space) (start : ℕ) (rank : ℕ → Option ℕ) (last : ℕ → Option Turn) → IsSearched s start rank last
    → (v n : ℕ) → rank v ≡ Some n → last v ≡ None → (n ≡ 0) × (start ≡ v)
last_none s start rank last h v n e f = go n e
  where
    from_none : (ts : List Turn) → IsWalk s start ts v → length ts ≡ 0 → start ≡ v
    from_none [] w q = w.follows
    from_none (t ∷ ts) w q = absurd (omega arith)

    go : (n : ℕ) → rank v ≡ Some n → (n ≡ 0) × (start ≡ v)
    go zero e = let w = h.walks v 0 e in (refl, from_none w.0 w.1 w.2)
    go (suc n) e = let w = h.turn v n e in absurd (cc)

-- a list that is written from its end: the turn before the rest
drop-set_before : (walk : List Turn) (n : ℕ) (t : Turn) → 0 < n → n ≤ length walk → drop (n - 1) (set walk (n - 1) t) ≡ t ∷ drop n walk
drop-set_before walk n t l m =
    let i : n - 1 < length (set walk (n - 1) t) = rw length-set (omega arith) in
    let e : n - 1 + 1 ≡ n = omega arith in
    let first : get_or (set walk (n - 1) t) (n - 1) t ≡ t = get_or-set_same walk (n - 1) t t (omega arith) in
    let after : drop (n - 1 + 1) (set walk (n - 1) t) ≡ drop n walk = ap (λ k. drop k (set walk (n - 1) t)) e ∙ drop-set-lt n walk (n - 1) t (omega arith) in
    drop_more (set walk (n - 1) t) (n - 1) t i ∙ ap (λ x. x ∷ drop (n - 1 + 1) (set walk (n - 1) t)) first ∙ ap (λ xs. t ∷ xs) after

-- one more turn before a walk that is written from its end
pub trace_more : (s : Space) (walk : List Turn) (n : ℕ) (t : Turn) (v b : ℕ) → 0 < n → n ≤ length walk → IsUsable s t → turn_to s.net t ≡ v
    → IsWalk s v (drop n walk) b → IsWalk s (turn_from s.net t) (drop (n - 1) (set walk (n - 1) t)) b
trace_more s walk n t v b l m u to w =
    let have : IsWalk s (turn_from s.net t) (t ∷ drop n walk) b = record {
      follows = (refl, subst (λ z. Follows s.net z (drop n walk) b) (sym to) w.follows);
      usable = All-cons (IsUsable s) t (drop n walk) u w.usable;
    } in
    subst (λ xs. IsWalk s (turn_from s.net t) xs b) (sym (drop-set_before walk n t l m)) have

-- and the turns written are last turns
pub lasts_more : (net : Network) (last : ℕ → Option Turn) (walk : List Turn) (n : ℕ) (t : Turn) → 0 < n → n ≤ length walk → last (turn_to net t) ≡ Some t
    → AreLasts net last (drop n walk) → AreLasts net last (drop (n - 1) (set walk (n - 1) t))
lasts_more net last walk n t l m e a =
    subst (AreLasts net last) (sym (drop-set_before walk n t l m)) (All-cons (λ (u : Turn). last (turn_to net u) ≡ Some u) t (drop n walk) e a)

-- the last turn of a node ends a least walk there
pub ends_least : (s : Space) (start : ℕ) (rank : ℕ → Option ℕ) (last : ℕ → Option Turn) → IsSearched s start rank last
    → (v : ℕ) (t : Turn) → last v ≡ Some t → EndsLeastWalk s start rank v t
ends_least s start rank last h v t f = go (rank v) refl
  where
    go : (r : Option ℕ) → rank v ≡ r → EndsLeastWalk s start rank v t
    go None e = let a = h.none v e in absurd (cc)
    go (Some zero) e = let a = h.first v e in absurd (cc)
    go (Some (suc n)) e =
        let l = last_leads s start rank last h v (suc n) t e f in
        let less : suc n - 1 ≡ n = omega arith in
        let w = h.walks (turn_from s.net t) n (l.1.from ∙ ap Some less) in
        (w.0, walk-append s w.0 (t ∷ []) start (turn_from s.net t) v w.1 (walk-one s (turn_from s.net t) v t l.1.usable refl l.1.to), e ∙ ap (λ k. Some (suc k)) (sym w.2))
