-- Along a walk of as many turns as the rank of its end the ranks rise by one at each turn, so it passes no arc twice.
use Rattle.std.proofs.Common.{◌≡◌, ◌⊎◌, inl, inr, ℕ, suc, ◌+◌, ◌<◌, ◌≤◌, Bool, true, false, cond, refl, sym, ap, subst, ◌∙◌, List, [], ◌∷◌, ◌++◌, length, Option, Some, arith, length-append}
use Rattle.tda_flow.specs.declared.net.Turn.{Turn}
use Rattle.tda_flow.specs.Network.{Network, arc_at}
use Rattle.tda_flow.specs.Turns.{turn_from, turn_to}
use Rattle.tda_flow.specs.Walk.{Space, IsUsable, IsWalk, AvoidsArc, IsApart}
use Rattle.tda_flow.specs.Reach.{IsSearched}
use Rattle.tda_flow.proofs.Searched.{rank_of_walk}
use Rattle.tda_flow.proofs.Walks.{walk-append, walk-one, walk-rest, walk-none}

-- a turn leads to a rank of at most one more
pub step_of_rank : (s : Space) (start : ℕ) (rank : ℕ → Option ℕ) (last : ℕ → Option Turn) → IsSearched s start rank last
    → (a k : ℕ) (t : Turn) → rank a ≡ Some k → IsUsable s t → turn_from s.net t ≡ a → (n : ℕ) × (rank (turn_to s.net t) ≡ Some n) × (n ≤ suc k)
step_of_rank s start rank last h a k t e u from =
    let w = h.walks a k e in
    let r = h.least (turn_to s.net t) (w.0 ++ (t ∷ [])) (walk-append s w.0 (t ∷ []) start a (turn_to s.net t) w.1 (walk-one s a (turn_to s.net t) t u from refl)) in
    (r.0, r.1, omega (arith, r.2, length-append w.0 (t ∷ []), w.2))

-- the first turn of the list leads from rank k to rank k + 1, and so on
abbrev pub Ascends : Network → (ℕ → Option ℕ) → ℕ → List Turn → Type 0
Ascends net rank k [] = Unit {0}
Ascends net rank k (t ∷ ts) = (rank (turn_from net t) ≡ Some k) × (rank (turn_to net t) ≡ Some (suc k)) × Ascends net rank (suc k) ts

ascends_from : (s : Space) (start : ℕ) (rank : ℕ → Option ℕ) (last : ℕ → Option Turn) → IsSearched s start rank last
    → (ts : List Turn) (a b k n : ℕ) → rank a ≡ Some k → IsWalk s a ts b → rank b ≡ Some n → n ≡ k + length ts → Ascends s.net rank k ts
ascends_from s start rank last h [] a b k n ea w eb q = tt
ascends_from s start rank last h (t ∷ ts) a b k n ea w eb q =
    let r = walk-rest s a b t ts w in
    let step = step_of_rank s start rank last h in
    let m = step a k t ea r.0 w.follows.0 in
    let top = rank_of_walk s rank step ts (turn_to s.net t) b m.0 m.1 r.1 in
    let same : top.0 ≡ n = same_rank (rank b) top.0 n top.1 eb in
    let one : m.0 ≡ suc k = omega (arith, m.2, top.2) in
    let to : rank (turn_to s.net t) ≡ Some (suc k) = m.1 ∙ ap Some one in (
      subst (λ z. rank z ≡ Some k) (sym w.follows.0) ea,
      to,
      ascends_from s start rank last h ts (turn_to s.net t) b (suc k) n to r.1 eb (omega arith),
    )
  where
    same_rank : (o : Option ℕ) (m n : ℕ) → o ≡ Some m → o ≡ Some n → m ≡ n
    same_rank o m n e f = cc

-- the ends of two turns over one arc
same_ends : (net : Network) (j k : ℕ) (b c : Bool) → j ≡ k → ((cond b (arc_at net j).to (arc_at net j).from ≡ cond c (arc_at net k).to (arc_at net k).from))
    ⊎ ((cond b (arc_at net j).to (arc_at net j).from ≡ cond c (arc_at net k).from (arc_at net k).to) × (cond b (arc_at net j).from (arc_at net j).to ≡ cond c (arc_at net k).to (arc_at net k).from))
same_ends net j k true true e = inl (ap (λ z. (arc_at net z).to) e)
same_ends net j k false false e = inl (ap (λ z. (arc_at net z).from) e)
same_ends net j k true false e = inr (ap (λ z. (arc_at net z).to) e, ap (λ z. (arc_at net z).from) e)
same_ends net j k false true e = inr (ap (λ z. (arc_at net z).from) e, ap (λ z. (arc_at net z).to) e)

-- turns at other ranks are over other arcs
other_arc : (net : Network) (rank : ℕ → Option ℕ) (t u : Turn) (j k : ℕ) → rank (turn_from net t) ≡ Some k → rank (turn_to net t) ≡ Some (suc k)
    → rank (turn_from net u) ≡ Some j → rank (turn_to net u) ≡ Some (suc j) → k < j → u.arc ≡ t.arc → ⊥
other_arc net rank t u j k tf tt' uf ut l e =
    elim (same_ends net u.arc t.arc u.back t.back e) [
      | inl f ↦ let g = ap rank f in let same : j ≡ k = cc in omega arith
      | inr f ↦
          let g = ap rank f.0 in
          let g' = ap rank f.1 in
          let same : suc j ≡ k = cc in
          omega arith
    ]

avoids_below : (net : Network) (rank : ℕ → Option ℕ) (t : Turn) (k : ℕ) → rank (turn_from net t) ≡ Some k → rank (turn_to net t) ≡ Some (suc k)
    → (us : List Turn) (j : ℕ) → k < j → Ascends net rank j us → AvoidsArc t.arc us
avoids_below net rank t k tf tt' [] j l a = tt
avoids_below net rank t k tf tt' (u ∷ us) j l a =
    (other_arc net rank t u j k tf tt' a.0 a.1 l, avoids_below net rank t k tf tt' us (suc j) (omega arith) a.2)

pub apart_of_ascent : (net : Network) (rank : ℕ → Option ℕ) (ts : List Turn) (k : ℕ) → Ascends net rank k ts → IsApart ts
apart_of_ascent net rank [] k a = tt
apart_of_ascent net rank (t ∷ ts) k a = (avoids_below net rank t k a.0 a.1 ts (suc k) (omega arith) a.2, apart_of_ascent net rank ts (suc k) a.2)

-- a least walk passes no arc twice
pub least-apart : (s : Space) (start : ℕ) (rank : ℕ → Option ℕ) (last : ℕ → Option Turn) → IsSearched s start rank last
    → (ts : List Turn) (v : ℕ) → IsWalk s start ts v → rank v ≡ Some (length ts) → IsApart ts
least-apart s start rank last h ts v w e =
    let z = h.least start [] (walk-none s start start refl) in
    let begin : z.0 ≡ 0 = omega (arith, z.2) in
    apart_of_ascent s.net rank ts 0 (ascends_from s start rank last h ts start v 0 (length ts) (z.1 ∙ ap Some begin) w e (omega arith))
