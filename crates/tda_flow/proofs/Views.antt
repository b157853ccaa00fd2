-- The ranks and last turns of marks, as lists.
use Rattle.std.proofs.Common.{◌≡◌, ◌<◌, ℕ, zero, suc, List, [], ◌∷◌, map, replicate, length, slice_index, get_or, Option, None, refl, sym, ap, subst, ◌∙◌, arith}
use Rattle.std.proofs.lemmas.List.{ext_get_or, get_or-replicate, length-replicate}
use Rattle.tda_flow.specs.declared.net.Turn.{Turn}
use Rattle.tda_flow.specs.declared.search.Mark.{Mark}
use Rattle.tda_flow.specs.Network.{Network}
use Rattle.tda_flow.specs.Reach.{IsSearched}
use Rattle.tda_flow.specs.Search.{rank_of, last_of, marked_rank, marked_last}
use Rattle.tda_flow.specs.Tables.{rank_at, last_at}
use Rattle.tda_flow.specs.Turns.{turn_from}
use Rattle.tda_flow.specs.Walk.{Space}

pub map-replicate : {X Y : Type 0} (f : X → Y) (n : ℕ) (x : X) → map f (replicate n x) ≡ replicate n (f x)
map-replicate f zero x = refl
map-replicate f (suc n) x = ap (λ xs. f x ∷ xs) (map-replicate f n x)

pub rank-map : (marks : List (Option Mark)) (v : ℕ) → rank_at (map rank_of marks) v ≡ marked_rank marks v
rank-map [] v = refl
rank-map (m ∷ marks) zero = refl
rank-map (m ∷ marks) (suc v) = rank-map marks v

pub last-map : (marks : List (Option Mark)) (v : ℕ) → last_at (map last_of marks) v ≡ marked_last marks v
last-map [] v = refl
last-map (m ∷ marks) zero = refl
last-map (m ∷ marks) (suc v) = last-map marks v

-- the answers of a search, by other names
pub searched-as : (s : Space) (start : ℕ) (rank rank' : ℕ → Option ℕ) (last last' : ℕ → Option Turn) → ((v : ℕ) → rank' v ≡ rank v) → ((v : ℕ) → last' v ≡ last v)
    → IsSearched s start rank last → IsSearched s start rank' last'
searched-as s start rank rank' last last' e f h = record {
  walks = λ v n q. h.walks v n (sym (e v) ∙ q);
  least = λ v ts w. let a = h.least v ts w in (a.0, e v ∙ a.1, a.2);
  below = λ v n q. h.below v n (sym (e v) ∙ q);
  turn =
      λ v n q.
      let a = h.turn v n (sym (e v) ∙ q) in
      (a.0, f v ∙ a.1, record { usable = a.2.usable; to = a.2.to; from = e (turn_from s.net a.0) ∙ a.2.from });
  first = λ v q. f v ∙ h.first v (sym (e v) ∙ q);
  none = λ v q. f v ∙ h.none v (sym (e v) ∙ q);
}

pub searched-lists : (s : Space) (start : ℕ) (marks : List (Option Mark)) → IsSearched s start (marked_rank marks) (marked_last marks)
    → IsSearched s start (rank_at (map rank_of marks)) (last_at (map last_of marks))
searched-lists s start marks h =
    searched-as s start (marked_rank marks) (rank_at (map rank_of marks)) (marked_last marks) (last_at (map last_of marks)) (rank-map marks) (last-map marks) h

pub all_none : (marks : List (Option Mark)) (n : ℕ) → length marks ≡ n → ((k : ℕ) → k < n → get_or marks k None ≡ None) → marks ≡ replicate n None
all_none marks n l h =
    ext_get_or None marks (replicate n None) (omega (arith, length-replicate {A = Option Mark} n None))
    (λ i k. h i (omega arith) ∙ sym (get_or-replicate n i None None (omega arith)))

-- the answers of a search over the lists of a work
pub searched-work : (net : Network) (flow : List ℕ) (delta start : ℕ) (low low' high high' : List ℕ) (marks marks' : List (Option Mark)) → low' ≡ low → high' ≡ high → marks' ≡ marks
    → IsSearched (record { net = net; flow = flow; low = slice_index low'; high = slice_index high'; step = delta }) start (marked_rank marks) (marked_last marks)
    → IsSearched (record { net = net; flow = flow; low = slice_index low; high = slice_index high; step = delta }) start (rank_at (map rank_of marks')) (last_at (map last_of marks'))
searched-work net flow delta start low low' high high' marks marks' el eh em h =
    let s : Space = record { net = net; flow = flow; low = slice_index low; high = slice_index high; step = delta } in
    let a = subst (λ z. IsSearched (record { net = net; flow = flow; low = slice_index z; high = slice_index high'; step = delta }) start (marked_rank marks) (marked_last marks)) el h in
    let b = subst (λ z. IsSearched (record { net = net; flow = flow; low = slice_index low; high = slice_index z; step = delta }) start (marked_rank marks) (marked_last marks)) eh a in
    subst (λ z. IsSearched s start (rank_at (map rank_of z)) (last_at (map last_of z))) (sym em) (searched-lists s start marks b)
