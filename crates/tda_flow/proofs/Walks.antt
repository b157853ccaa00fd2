-- Walks joined and cut.
use Rattle.std.proofs.Common.{◌≡◌, ℕ, ℤ, ◌+ℤ◌, List, [], ◌∷◌, ◌++◌, refl, sym, ap, subst, arith}
use Rattle.std.proofs.lemmas.Int.{ints}
use Rattle.std.proofs.lemmas.List.Elements.{All-nil, All-cons, All-head, All-tail, All-append}
use Rattle.tda_flow.specs.declared.net.Turn.{Turn}
use Rattle.tda_flow.specs.Network.{Network}
use Rattle.tda_flow.specs.Turns.{turn_from, turn_to}
use Rattle.tda_flow.specs.Walk.{Space, IsUsable, IsWalk, Follows, bumped, moved, Misses, IsDistinct, AvoidsArc, IsApart, AvoidsStart, IsSimple, walk_cost}

-- walks one after another
pub follows-append : (net : Network) (ts us : List Turn) (a b c : ℕ) → Follows net a ts b → Follows net b us c → Follows net a (ts ++ us) c
follows-append net [] us a b c f g = subst (λ z. Follows net z us c) (sym f) g
follows-append net (t ∷ ts) us a b c f g = (f.0, follows-append net ts us (turn_to net t) b c f.1 g)

pub walk-append : (s : Space) (ts us : List Turn) (a b c : ℕ) → IsWalk s a ts b → IsWalk s b us c → IsWalk s a (ts ++ us) c
walk-append s ts us a b c f g = record {
  follows = follows-append s.net ts us a b c f.follows g.follows;
  usable = All-append (IsUsable s) ts us f.usable g.usable;
}

pub walk-none : (s : Space) (a b : ℕ) → a ≡ b → IsWalk s a [] b
walk-none s a b e = record { follows = e; usable = All-nil (IsUsable s) }

pub walk-one : (s : Space) (a b : ℕ) (t : Turn) → IsUsable s t → turn_from s.net t ≡ a → turn_to s.net t ≡ b → IsWalk s a (t ∷ []) b
walk-one s a b t u from to = record { follows = (from, to); usable = All-cons (IsUsable s) t [] u (All-nil (IsUsable s)) }

pub walk-rest : (s : Space) (a b : ℕ) (t : Turn) (ts : List Turn) → IsWalk s a (t ∷ ts) b → IsUsable s t × IsWalk s (turn_to s.net t) ts b
walk-rest s a b t ts w =
    (All-head (IsUsable s) t ts w.usable, record { follows = w.follows.1; usable = All-tail (IsUsable s) t ts w.usable })

-- a walk cut in two
pub follows-cut : (net : Network) (ts us : List Turn) (a c : ℕ) → Follows net a (ts ++ us) c → (b : ℕ) × Follows net a ts b × Follows net b us c
follows-cut net [] us a c f = (a, refl, f)
follows-cut net (t ∷ ts) us a c f = let r = follows-cut net ts us (turn_to net t) c f.1 in (r.0, (f.0, r.1), r.2)

-- the cost of a walk is that of its parts
pub walk_cost-append : (curve : ℤ → ℤ) (net : Network) (d : ℕ) (flow : List ℕ) (ts us : List Turn)
    → walk_cost curve net d flow (ts ++ us) ≡ walk_cost curve net d flow ts +ℤ walk_cost curve net d flow us
walk_cost-append curve net d flow [] us = omega (arith, ints)
walk_cost-append curve net d flow (t ∷ ts) us = omega (arith, ints, walk_cost-append curve net d flow ts us)

-- steps along the parts of a walk, one after another
pub moved-append : (ts us : List Turn) (d : ℕ) (flow : List ℕ) → moved (ts ++ us) d flow ≡ moved us d (moved ts d flow)
moved-append [] us d flow = refl
moved-append (t ∷ ts) us d flow = moved-append ts us d (bumped t d flow)

misses_of_avoids : (t : Turn) (us : List Turn) → AvoidsArc t.arc us → Misses t us
misses_of_avoids t [] a = tt
misses_of_avoids t (u ∷ us) a = (λ e. a.0 (ap (λ (z : Turn). z.arc) e), misses_of_avoids t us a.1)

-- where no arc comes twice, no turn does
pub distinct_of_apart : (ts : List Turn) → IsApart ts → IsDistinct ts
distinct_of_apart [] a = tt
distinct_of_apart (t ∷ ts) a = (misses_of_avoids t ts a.0, distinct_of_apart ts a.1)

misses_of_start : (net : Network) (t : Turn) (us : List Turn) → AvoidsStart net (turn_from net t) us → Misses t us
misses_of_start net t [] a = tt
misses_of_start net t (u ∷ us) a = (λ e. a.0 (ap (turn_from net) e), misses_of_start net t us a.1)

-- where no two turns begin at one node, no turn comes twice
pub distinct_of_simple : (net : Network) (ts : List Turn) → IsSimple net ts → IsDistinct ts
distinct_of_simple net [] a = tt
distinct_of_simple net (t ∷ ts) a = (misses_of_start net t ts a.0, distinct_of_simple net ts a.1)
