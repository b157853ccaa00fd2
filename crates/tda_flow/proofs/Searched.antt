-- A search that has followed every turn has found the least walks.
use Rattle.std.proofs.Common.{◌≡◌, ℕ, zero, suc, ◌+◌, ◌<◌, ◌≤◌, List, [], ◌∷◌, ◌++◌, length, Option, Some, None, slice_index, refl, sym, ap, subst, ◌∙◌, arith, length-append}
use Rattle.tda_flow.specs.declared.net.Turn.{Turn}
use Rattle.tda_flow.specs.declared.search.Mark.{Mark}
use Rattle.tda_flow.specs.Walk.{Space, IsUsable, IsWalk}
use Rattle.tda_flow.specs.Turns.{turn_from, turn_to}
use Rattle.tda_flow.specs.Reach.{IsSearched}
use Rattle.tda_flow.specs.Search.{mark_at, rank_of, last_of, marked_rank, marked_last, IsTraced, IsFound, IsFollowed}
use Rattle.tda_flow.proofs.Marks.{mark_of_rank}
use Rattle.tda_flow.proofs.Walks.{walk-append, walk-none, walk-one, walk-rest}

-- the trace of a node with a rank
trace_of : (s : Space) (marks : List (Option Mark)) (queue : List ℕ) (filled : ℕ) → IsFound s marks queue filled → (v n : ℕ) → marked_rank marks v ≡ Some n
    → IsTraced s (slice_index queue 0) (marked_rank marks) v n (marked_last marks v)
trace_of s marks queue filled f v n e =
    let m = mark_of_rank marks v n e in
    let last : m.0.last ≡ marked_last marks v = sym (ap last_of m.1) in
    let t = f.traced v m.0 m.1 in
    subst (λ z. IsTraced s (slice_index queue 0) (marked_rank marks) v z (marked_last marks v)) m.2
    (subst (λ z. IsTraced s (slice_index queue 0) (marked_rank marks) v m.0.rank z) last t)

walk_of_rank : (s : Space) (marks : List (Option Mark)) (queue : List ℕ) (filled : ℕ) → IsFound s marks queue filled → (n v : ℕ) → marked_rank marks v ≡ Some n
    → (ts : List Turn) × IsWalk s (slice_index queue 0) ts v × (length ts ≡ n)
walk_of_rank s marks queue filled f zero v e =
    ([], walk-none s (slice_index queue 0) v (trace_of s marks queue filled f v 0 e).0, refl)
walk_of_rank s marks queue filled f (suc n) v e =
    let t = trace_of s marks queue filled f v (suc n) e in
    let w = walk_of_rank s marks queue filled f n (turn_from s.net t.0) t.2.from in (
      w.0 ++ (t.0 ∷ []),
      walk-append s w.0 (t.0 ∷ []) (slice_index queue 0) (turn_from s.net t.0) v w.1 (walk-one s (turn_from s.net t.0) v t.0 t.2.usable refl t.2.to),
      omega (arith, length-append w.0 (t.0 ∷ []), w.2),
    )

-- where each turn is followed, a walk from a node of rank k ends at a node with a rank
pub rank_of_walk : (s : Space) (rank : ℕ → Option ℕ) → ((a k : ℕ) (t : Turn) → rank a ≡ Some k → IsUsable s t → turn_from s.net t ≡ a → (n : ℕ) × (rank (turn_to s.net t) ≡ Some n) × (n ≤ suc k))
    → (ts : List Turn) (a b k : ℕ) → rank a ≡ Some k → IsWalk s a ts b → (n : ℕ) × (rank b ≡ Some n) × (n ≤ k + length ts)
rank_of_walk s rank step [] a b k e w = (k, subst (λ z. rank z ≡ Some k) w.follows e, omega arith)
rank_of_walk s rank step (t ∷ ts) a b k e w =
    let r = walk-rest s a b t ts w in
    let m = step a k t e r.0 w.follows.0 in
    let n = rank_of_walk s rank step ts (turn_to s.net t) b m.0 m.1 r.1 in
    (n.0, n.1, omega (arith, n.2, m.2))

first_trace : (s : Space) (start v : ℕ) (rank : ℕ → Option ℕ) (last : Option Turn) → IsTraced s start rank v 0 last → last ≡ None
first_trace s start v rank last h = h.1

last_of_none : (marks : List (Option Mark)) (v : ℕ) → marked_rank marks v ≡ None → marked_last marks v ≡ None
last_of_none marks v e = go (mark_at marks v) e
  where
    go : (o : Option Mark) → rank_of o ≡ None → last_of o ≡ None
    go None e = refl
    go (Some m) e = cc

-- the rank of a node is below the number of nodes
rank_below : (s : Space) (marks : List (Option Mark)) (queue : List ℕ) (filled : ℕ) → IsFound s marks queue filled → (v n : ℕ) → marked_rank marks v ≡ Some n → n < length marks
rank_below s marks queue filled f v n e =
    let i = f.queued.found v n e in
    let m = f.queued.holds i.0 i.1 in
    let at : marked_rank marks v ≡ Some m.0 = subst (λ z. marked_rank marks z ≡ Some m.0) i.2 m.1 in
    let same : m.0 ≡ n = cc in
    omega (arith, i.1, m.2, f.count)

pub searched : (s : Space) (marks : List (Option Mark)) (queue : List ℕ) (filled next start : ℕ) → IsFound s marks queue filled → length marks ≡ s.net.nodes
    → slice_index queue 0 ≡ start → filled ≤ next
    → ((i n : ℕ) (t : Turn) → i < next → turn_from s.net t ≡ slice_index queue i → marked_rank marks (slice_index queue i) ≡ Some n → IsFollowed s marks n t)
    → IsSearched s start (marked_rank marks) (marked_last marks)
searched s marks queue filled next start f nodes first all followed =
    let step : (a k : ℕ) (t : Turn) → marked_rank marks a ≡ Some k → IsUsable s t → turn_from s.net t ≡ a → (n : ℕ) × (marked_rank marks (turn_to s.net t) ≡ Some n) × (n ≤ suc k) =
    λ a k t e u from.
    let i = f.queued.found a k e in
    followed i.0 k t (omega (arith, i.1)) (from ∙ sym i.2) (subst (λ z. marked_rank marks z ≡ Some k) (sym i.2) e) u in
    record {
      walks =
          λ v n e.
          let w = walk_of_rank s marks queue filled f n v e in
          (w.0, subst (λ z. IsWalk s z w.0 v) first w.1, w.2);
      least =
          λ v ts w.
          let begins : marked_rank marks start ≡ Some 0 = subst (λ z. marked_rank marks z ≡ Some 0) first f.begins in
          let r = rank_of_walk s (marked_rank marks) step ts start v 0 begins w in
          (r.0, r.1, omega (arith, r.2));
      below = λ v n e. omega (arith, rank_below s marks queue filled f v n e);
      turn = λ v n e. trace_of s marks queue filled f v (suc n) e;
      first = λ v e. first_trace s (slice_index queue 0) v (marked_rank marks) (marked_last marks v) (trace_of s marks queue filled f v 0 e);
      none = λ v e. last_of_none marks v e;
    }
