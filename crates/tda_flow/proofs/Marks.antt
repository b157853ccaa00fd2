-- A search by breadth keeps its marks and its queue right.
use Rattle.std.proofs.Common.{◌≡◌, ◌≢◌, ◌⊎◌, ℕ, zero, suc, ◌+◌, ◌<◌, ◌≤◌, false, cond, List, length, Option, Some, None, IsSome, is_some, is_none, count_by, slice_index, get_or, set, replicate, refl, sym, ap, subst, ◌∙◌, inl, inr, arith, get_or-set_other, get_or-set_same, length-set}
use Rattle.std.proofs.lemmas.Bool.{cases_eq, cases_lt}
use Rattle.std.proofs.lemmas.List.{get_or_past, get_or-replicate, length-replicate}
use Rattle.std.proofs.lemmas.List.Folds.{sum_by-replicate}
use Rattle.std.proofs.lemmas.List.Sums.{sum_by-set}
use Rattle.tda_flow.specs.declared.net.Turn.{Turn}
use Rattle.tda_flow.specs.declared.search.Mark.{Mark}
use Rattle.tda_flow.specs.Walk.{Space, IsUsable}
use Rattle.tda_flow.specs.Turns.{turn_from, turn_to}
use Rattle.tda_flow.specs.Reach.{LeadsTo}
use Rattle.tda_flow.specs.Search.{mark_at, rank_of, marked_rank, IsTraced, IsQueue, IsFound, IsNear, IsFollowed, IsMore}

-- a node with a rank has a mark
pub mark_of_rank : (marks : List (Option Mark)) (v n : ℕ) → marked_rank marks v ≡ Some n → (m : Mark) × (mark_at marks v ≡ Some m) × (m.rank ≡ n)
mark_of_rank marks v n e = go (mark_at marks v) e
  where
    go : (o : Option Mark) → rank_of o ≡ Some n → (m : Mark) × (o ≡ Some m) × (m.rank ≡ n)
    go None e = cc
    go (Some m) e = (m, refl, (cc))

-- a node with a rank is a node
pub ranked-within : (marks : List (Option Mark)) (v n : ℕ) → marked_rank marks v ≡ Some n → v < length marks
ranked-within marks v n e =
    elim (cases_lt v (length marks)) [
      | inl l ↦ l
      | inr l ↦ let none : marked_rank marks v ≡ None = ap rank_of (get_or_past marks v None l) in cc
    ]

same_rank : (rank : ℕ → Option ℕ) (v m n : ℕ) → rank v ≡ Some m → rank v ≡ Some n → m ≡ n
same_rank rank v m n a b = cc

-- a node gets a mark
abbrev pub with_mark : List (Option Mark) → ℕ → Mark → List (Option Mark)
with_mark marks v m = set marks v (Some m)

pub rank-here : (marks : List (Option Mark)) (v : ℕ) (m : Mark) → v < length marks → marked_rank (with_mark marks v m) v ≡ Some m.rank
rank-here marks v m l = ap rank_of (get_or-set_same marks v (Some m) None l)

pub rank-other : (marks : List (Option Mark)) (v u : ℕ) (m : Mark) → u ≢ v → marked_rank (with_mark marks v m) u ≡ marked_rank marks u
rank-other marks v u m ne = ap rank_of (get_or-set_other marks v u (Some m) None ne)

pub keeps_rank : (marks : List (Option Mark)) (v u n : ℕ) (m : Mark) → marked_rank marks v ≡ None → marked_rank marks u ≡ Some n → marked_rank (with_mark marks v m) u ≡ Some n
keeps_rank marks v u n m none e =
    elim (cases_eq u v) [
      | inl q ↦ let x : marked_rank marks v ≡ Some n = subst (λ z. marked_rank marks z ≡ Some n) q e in cc
      | inr ne ↦ rank-other marks v u m ne ∙ e
    ]

-- a rank is the new one, or was there before
pub old_or_new : (marks : List (Option Mark)) (v u n : ℕ) (m : Mark) → v < length marks → marked_rank (with_mark marks v m) u ≡ Some n
    → ((u ≡ v) × (n ≡ m.rank)) ⊎ (marked_rank marks u ≡ Some n)
old_or_new marks v u n m l e =
    elim (cases_eq u v) [
      | inl q ↦
          let here = rank-here marks v m l in
          let there : marked_rank (with_mark marks v m) v ≡ Some n = subst (λ z. marked_rank (with_mark marks v m) z ≡ Some n) q e in
          inl (q, same_rank (marked_rank (with_mark marks v m)) v n m.rank there here)
      | inr ne ↦ inr (sym (rank-other marks v u m ne) ∙ e)
    ]

-- a trace stays where ranks are kept
pub traced-more : (s : Space) (start : ℕ) (rank more : ℕ → Option ℕ) (v n : ℕ) (last : Option Turn) → ((u k : ℕ) → rank u ≡ Some k → more u ≡ Some k)
    → IsTraced s start rank v n last → IsTraced s start more v n last
traced-more s start rank more v zero last keep h = h
traced-more s start rank more v (suc n) last keep h =
    (h.0, h.1, record { usable = h.2.usable; to = h.2.to; from = keep (turn_from s.net h.0) n h.2.from })

-- a turn that is followed stays so
pub followed-more : (s : Space) (marks more : List (Option Mark)) (n : ℕ) (t : Turn) → ((u k : ℕ) → marked_rank marks u ≡ Some k → marked_rank more u ≡ Some k)
    → IsFollowed s marks n t → IsFollowed s more n t
followed-more s marks more n t keep h u = let f = h u in (f.0, keep (turn_to s.net t) f.0 f.1, f.2)

pub at_end : (queue : List ℕ) (i v : ℕ) → i < length queue → slice_index (set queue i v) i ≡ v
at_end queue i v l = get_or-set_same queue i v 0 l

before_end : (queue : List ℕ) (i k v : ℕ) → k < i → slice_index (set queue i v) k ≡ slice_index queue k
before_end queue i k v l = get_or-set_other queue i k v 0 (λ e. omega arith)

-- what a new mark at v says, and where it stands
pub record IsNew (s : Space) (marks : List (Option Mark)) (queue : List ℕ) (filled level v : ℕ) (t : Turn) : Type 0 where
  pub node : v < length marks
  pub place : filled < length queue
  pub none : marked_rank marks v ≡ None
  pub leads : LeadsTo s (marked_rank marks) v level t
  pub near : IsNear marks level
  pub below : level < filled

abbrev pub new_mark : ℕ → Turn → Mark
new_mark level t = record { rank = suc level; last = Some t }

queue-more : (s : Space) (marks : List (Option Mark)) (queue : List ℕ) (filled level v : ℕ) (t : Turn) → IsNew s marks queue filled level v t
    → IsQueue (marked_rank marks) queue filled → IsQueue (marked_rank (with_mark marks v (new_mark level t))) (set queue filled v) (suc filled)
queue-more s marks queue filled level v t h q =
    let m : Mark = new_mark level t in
    let more : List (Option Mark) = with_mark marks v m in
    let longer : List ℕ = set queue filled v in
    let here : marked_rank more v ≡ Some (suc level) = rank-here marks v m h.node in
    let end : slice_index longer filled ≡ v = at_end queue filled v h.place in
    let rank-end : marked_rank more (slice_index longer filled) ≡ Some (suc level) = subst (λ z. marked_rank more z ≡ Some (suc level)) (sym end) here in
    let rank-before : (i n : ℕ) → i < filled → marked_rank marks (slice_index queue i) ≡ Some n → marked_rank more (slice_index longer i) ≡ Some n =
    λ i n l e. subst (λ z. marked_rank more z ≡ Some n) (sym (before_end queue filled i v l)) (keeps_rank marks v (slice_index queue i) n m h.none e) in
    let was : (i n : ℕ) → i < filled → marked_rank more (slice_index longer i) ≡ Some n → marked_rank marks (slice_index queue i) ≡ Some n =
    λ i n l e.
    let a = q.holds i l in
    let b = same_rank (marked_rank more) (slice_index longer i) a.0 n (rank-before i a.0 l a.1) e in
    a.1 ∙ ap Some b in
    record {
      holds =
          λ i l.
          elim (cases_lt i filled) [
            | inl k ↦ let a = q.holds i k in (a.0, rank-before i a.0 k a.1, a.2)
            | inr k ↦
                let e : filled ≡ i = omega arith in
                (suc level, subst (λ z. marked_rank more (slice_index longer z) ≡ Some (suc level)) e rank-end, omega (arith, h.below))
          ];
      found =
          λ u n e.
          elim (old_or_new marks v u n m h.node e) [
            | inl w ↦ (filled, omega arith, end ∙ sym w.0)
            | inr w ↦ let a = q.found u n w in (a.0, omega (arith, a.1), before_end queue filled a.0 v a.1 ∙ a.2)
          ];
      order =
          λ i a b l ea eb.
          elim (cases_lt (suc i) filled) [
            | inl k ↦ q.order i a b k (was i a (omega arith) ea) (was (suc i) b k eb)
            | inr k ↦
                let e : suc i ≡ filled = omega arith in
                let top : marked_rank more (slice_index longer filled) ≡ Some b = subst (λ z. marked_rank more (slice_index longer z) ≡ Some b) e eb in
                let c : b ≡ suc level = same_rank (marked_rank more) (slice_index longer filled) b (suc level) top rank-end in
                omega (arith, h.near (slice_index queue i) a (was i a (omega arith) ea))
          ];
    }

-- one node fewer is without a mark
pub count-more : (marks : List (Option Mark)) (v filled : ℕ) (m : Mark) → v < length marks → mark_at marks v ≡ None → filled + count_by is_none marks ≡ length marks
    → suc filled + count_by is_none (with_mark marks v m) ≡ length (with_mark marks v m)
count-more marks v filled m l none e =
    let a = sum_by-set (λ (o : Option Mark). cond (is_none o) 1 0) marks v (Some m) None l in
    let one : ℕ = 1 in
    let b : cond (is_none (get_or marks v None)) one 0 ≡ one = rw none refl in
    omega (arith, a, b, length-set marks v (Some m), e)

none_of : (marks : List (Option Mark)) (v : ℕ) → mark_at marks v ≡ None → marked_rank marks v ≡ None
none_of marks v e = ap rank_of e

-- the search stays right where a node without a mark gets one, and is put at the end of the queue
pub found-more : (s : Space) (marks : List (Option Mark)) (queue : List ℕ) (filled level v : ℕ) (t : Turn) → IsFound s marks queue filled → IsNew s marks queue filled level v t
    → mark_at marks v ≡ None → IsFound s (with_mark marks v (new_mark level t)) (set queue filled v) (suc filled)
found-more s marks queue filled level v t f h none =
    let m : Mark = new_mark level t in
    let more : List (Option Mark) = with_mark marks v m in
    let longer : List ℕ = set queue filled v in
    let keep : (u k : ℕ) → marked_rank marks u ≡ Some k → marked_rank more u ≡ Some k = λ u k e. keeps_rank marks v u k m h.none e in
    let start : slice_index longer 0 ≡ slice_index queue 0 = before_end queue filled 0 v f.some in
    let old : (u : ℕ) (k : Mark) → mark_at marks u ≡ Some k → IsTraced s (slice_index longer 0) (marked_rank more) u k.rank k.last =
    λ u k e. subst (λ z. IsTraced s z (marked_rank more) u k.rank k.last) (sym start) (traced-more s (slice_index queue 0) (marked_rank marks) (marked_rank more) u k.rank k.last keep (f.traced u k e)) in
    record {
      begins = subst (λ z. marked_rank more z ≡ Some 0) (sym start) (keep (slice_index queue 0) 0 f.begins);
      traced =
          λ u k e.
          elim (cases_eq u v) [
            | inl q ↦
                let here : mark_at more v ≡ Some m = get_or-set_same marks v (Some m) None h.node in
                let there : mark_at more v ≡ Some k = subst (λ z. mark_at more z ≡ Some k) q e in
                let same : m ≡ k = cc in
                let mine : IsTraced s (slice_index longer 0) (marked_rank more) v (suc level) (Some t) =
                (t, refl, record { usable = h.leads.usable; to = h.leads.to; from = keep (turn_from s.net t) level h.leads.from }) in
                subst (λ z. IsTraced s (slice_index longer 0) (marked_rank more) z k.rank k.last) (sym q)
                (subst (λ (z : Mark). IsTraced s (slice_index longer 0) (marked_rank more) v z.rank z.last) same mine)
            | inr ne ↦ old u k (sym (get_or-set_other marks v u (Some m) None ne) ∙ e)
          ];
      queued = queue-more s marks queue filled level v t h f.queued;
      some = omega arith;
      count = count-more marks v filled m h.node none f.count;
    }

-- and no rank is above that of the node whose turns are followed, and one
pub near-more : (marks : List (Option Mark)) (level v : ℕ) (t : Turn) → v < length marks → IsNear marks level → IsNear (with_mark marks v (new_mark level t)) level
near-more marks level v t l h u n e =
    elim (old_or_new marks v u n (new_mark level t) l e) [
      | inl w ↦ omega (arith, w.1)
      | inr w ↦ h u n w
    ]

pub more-one : (marks : List (Option Mark)) (queue : List ℕ) (filled v w : ℕ) (m : Mark) → marked_rank marks v ≡ None
    → IsMore marks (with_mark marks v m) queue (set queue filled w) filled
more-one marks queue filled v w m none = record {
  keeps = λ u k e. keeps_rank marks v u k m none e;
  stays = λ i l. before_end queue filled i w l;
}

pub more-none : (marks : List (Option Mark)) (queue : List ℕ) (filled : ℕ) → IsMore marks marks queue queue filled
more-none marks queue filled = record { keeps = λ u k e. e; stays = λ i l. refl }

pub more-both : (a b c : List (Option Mark)) (p q r : List ℕ) (m n : ℕ) → m ≤ n → IsMore a b p q m → IsMore b c q r n → IsMore a c p r m
more-both a b c p q r m n l g h = record {
  keeps = λ u k e. h.keeps u k (g.keeps u k e);
  stays = λ i k. h.stays i (omega arith) ∙ g.stays i k;
}

-- a node that has a mark already
pub followed-marked : (s : Space) (marks : List (Option Mark)) (v level : ℕ) (t : Turn) → v ≡ turn_to s.net t → IsSome (mark_at marks v) → IsNear marks level
    → IsFollowed s marks level t
followed-marked s marks v level t e h near u =
    let r : (n : ℕ) × (marked_rank marks v ≡ Some n) = go (mark_at marks v) h in
    (r.0, subst (λ z. marked_rank marks z ≡ Some r.0) e r.1, near v r.0 r.1)
  where
    go : (o : Option Mark) → IsSome o → (n : ℕ) × (rank_of o ≡ Some n)
    go None h = cc
    go (Some m) h = (m.rank, refl)

-- a turn whose end gets a mark
pub followed-new : (s : Space) (marks : List (Option Mark)) (v level : ℕ) (t : Turn) → v ≡ turn_to s.net t → v < length marks
    → IsFollowed s (with_mark marks v (new_mark level t)) level t
followed-new s marks v level t e l u =
    (suc level, subst (λ z. marked_rank (with_mark marks v (new_mark level t)) z ≡ Some (suc level)) e (rank-here marks v (new_mark level t) l), omega arith)

pub no_mark : (o : Option Mark) → false ≡ is_some o → o ≡ None
no_mark None e = refl
no_mark (Some m) e = cc

-- the same in the words of the code
pub found-new : (s : Space) (marks : List (Option Mark)) (queue : List ℕ) (filled level v : ℕ) (t : Turn) → IsFound s marks queue filled → v < length marks → length queue ≡ length marks
    → mark_at marks v ≡ None → IsUsable s t → v ≡ turn_to s.net t → marked_rank marks (turn_from s.net t) ≡ Some level → IsNear marks level → level < filled
    → IsFound s (set marks v (Some (record { rank = level + 1; last = Some t }))) (set queue filled v) (filled + 1)
found-new s marks queue filled level v t f l e none usable to from near below =
    let one : level + 1 ≡ suc level = omega arith in
    let two : filled + 1 ≡ suc filled = omega arith in
    let c = sum_by-set (λ (o : Option Mark). cond (is_none o) 1 0) marks v (Some (new_mark level t)) None l in
    let k : ℕ = 1 in
    let b : cond (is_none (get_or marks v None)) k 0 ≡ k = rw none refl in
    rw (one, two)
    (found-more s marks queue filled level v t f
    (record { node = l; place = omega (arith, c, b, f.count); none = none_of marks v none; leads = record { usable = usable; to = sym to; from = from }; near = near; below = below })
    none)

-- a list without marks
pub none_at : (n v : ℕ) → mark_at (replicate n None) v ≡ None
none_at n v =
    elim (cases_lt v n) [
      | inl l ↦ get_or-replicate n v None None l
      | inr l ↦ get_or_past (replicate n None) v None (omega (arith, length-replicate {A = Option Mark} n None))
    ]

pub count-replicate : (n : ℕ) → count_by {X = Option Mark} is_none (replicate n None) ≡ n
count-replicate n = omega (arith, sum_by-replicate (λ (o : Option Mark). cond (is_none o) 1 0) n None)

abbrev pub first_mark : Mark
first_mark = record { rank = 0; last = None }

-- the marks of a search before its first turn
abbrev pub first_marks : ℕ → ℕ → List (Option Mark)
first_marks n start = with_mark (replicate n None) start first_mark

pub first_rank : (n start v m : ℕ) → start < n → marked_rank (first_marks n start) v ≡ Some m → (v ≡ start) × (m ≡ 0)
first_rank n start v m l e =
    elim (old_or_new (replicate n None) start v m first_mark (omega (arith, length-replicate {A = Option Mark} n None)) e) [
      | inl w ↦ w
      | inr w ↦ let none : marked_rank (replicate n None) v ≡ None = ap rank_of (none_at n v) in absurd (cc)
    ]

pub found-first : (s : Space) (n start : ℕ) (queue : List ℕ) → start < n → 0 < length queue → IsFound s (first_marks n start) (set queue 0 start) 1
found-first s n start queue l q =
    let marks : List (Option Mark) = first_marks n start in
    let len = length-replicate {A = Option Mark} n None in
    let in' : start < length {A = Option Mark} (replicate n None) = omega arith in
    let first : slice_index (set queue 0 start) 0 ≡ start = at_end queue 0 start q in
    let here : marked_rank marks start ≡ Some 0 = rank-here (replicate n None) start first_mark in' in
    let at-first : marked_rank marks (slice_index (set queue 0 start) 0) ≡ Some 0 = subst (λ z. marked_rank marks z ≡ Some 0) (sym first) here in
    record {
      begins = at-first;
      traced =
          λ v m e.
          elim (cases_eq v start) [
            | inl w ↦
                let top : mark_at marks start ≡ Some first_mark = get_or-set_same (replicate n None) start (Some first_mark) None in' in
                let there : mark_at marks start ≡ Some m = subst (λ z. mark_at marks z ≡ Some m) w e in
                let same : first_mark ≡ m = cc in
                let mine : IsTraced s (slice_index (set queue 0 start) 0) (marked_rank marks) start 0 None = (first, refl) in
                subst (λ z. IsTraced s (slice_index (set queue 0 start) 0) (marked_rank marks) z m.rank m.last) (sym w)
                (subst (λ (z : Mark). IsTraced s (slice_index (set queue 0 start) 0) (marked_rank marks) start z.rank z.last) same mine)
            | inr ne ↦
                let a : mark_at (replicate n None) v ≡ Some m = sym (get_or-set_other (replicate n None) start v (Some first_mark) None ne) ∙ e in
                let b = none_at n v in
                absurd (cc)
          ];
      queued = record {
        holds = λ i k. let e : 0 ≡ i = omega arith in (0, subst (λ z. marked_rank marks (slice_index (set queue 0 start) z) ≡ Some 0) e at-first, omega arith);
        found = λ v m e. let w = first_rank n start v m l e in (0, omega arith, first ∙ sym w.0);
        order = λ i a b k ea eb. absurd (omega arith);
      };
      some = omega arith;
      count = count-more (replicate n None) start 0 first_mark in' (none_at n start) (omega (arith, count-replicate n, len));
    }

-- the next node of the queue has a mark
pub next-mark : (rank : ℕ → Option ℕ) (queue : List ℕ) (filled next : ℕ) → IsQueue rank queue filled → next < filled → rank (slice_index queue next) ≡ None → ⊥
next-mark rank queue filled next q l e = let a = q.holds next l in cc

-- no rank is above that of the next node but one, and one
pub near-next : (rank : ℕ → Option ℕ) (queue : List ℕ) (filled next level : ℕ) → IsQueue rank queue filled → rank (slice_index queue next) ≡ Some level
    → ((v m : ℕ) → rank v ≡ Some m → m ≤ suc level)
    → (v m n : ℕ) → next + 1 < filled → rank v ≡ Some m → rank (slice_index queue (next + 1)) ≡ Some n → m ≤ suc n
near-next rank queue filled next level q here near v m n l ev en =
    let e : next + 1 ≡ suc next = omega arith in
    let after : rank (slice_index queue (suc next)) ≡ Some n = subst (λ z. rank (slice_index queue z) ≡ Some n) e en in
    omega (arith, near v m ev, q.order next level n (omega arith) here after)

-- the turns from one more node are followed
pub followed-next : (s : Space) (marks more : List (Option Mark)) (queue longer : List ℕ) (filled next level : ℕ) → next < filled → IsQueue (marked_rank marks) queue filled
    → marked_rank marks (slice_index queue next) ≡ Some level → IsMore marks more queue longer filled
    → ((i n : ℕ) (t : Turn) → i < next → turn_from s.net t ≡ slice_index queue i → marked_rank marks (slice_index queue i) ≡ Some n → IsFollowed s marks n t)
    → ((t : Turn) → turn_from s.net t ≡ slice_index queue next → IsFollowed s more level t)
    → (i n : ℕ) (t : Turn) → i < next + 1 → turn_from s.net t ≡ slice_index longer i → marked_rank more (slice_index longer i) ≡ Some n → IsFollowed s more n t
followed-next s marks more queue longer filled next level l q here m old new i n t k from e =
    let at : slice_index longer i ≡ slice_index queue i = m.stays i (omega arith) in
    let rank-i : marked_rank more (slice_index queue i) ≡ Some n = subst (λ z. marked_rank more z ≡ Some n) at e in
    elim (cases_lt i next) [
      | inl j ↦
          let a = q.holds i (omega arith) in
          let b = m.keeps (slice_index queue i) a.0 a.1 in
          let same : a.0 ≡ n = cc in
          followed-more s marks more n t m.keeps (old i n t j (from ∙ at) (a.1 ∙ ap Some same))
      | inr j ↦
          let w : i ≡ next = omega arith in
          let rank-next : marked_rank more (slice_index queue next) ≡ Some n = subst (λ z. marked_rank more (slice_index queue z) ≡ Some n) w rank-i in
          let b = m.keeps (slice_index queue next) level here in
          let same : level ≡ n = cc in
          let f : IsFollowed s more level t = new t (from ∙ at ∙ ap (slice_index queue) w) in
          subst (λ z. IsFollowed s more z t) same f
    ]

-- what is never Some is None
pub none_unless_some : {X : Type 0} (o : Option X) → ((x : X) → o ≡ Some x → ⊥) → o ≡ None
none_unless_some None h = refl
none_unless_some (Some x) h = absurd (h x refl)
