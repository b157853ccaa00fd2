-- Marks of values and of cells.
use Rattle.std.proofs.Common.{◌≡◌, ◌==◌, ℕ, ◌<◌, ◌≤◌, Bool, false, ◌&&◌, List, length, get_or, take, map, sym, ap, ◌∙◌, arith}
use Rattle.std.specs.List.{list_any, range_with_len}
use Rattle.std.proofs.lemmas.List.{ext_get_or, take_all}
use Rattle.std.proofs.lemmas.List.FromFn.{length-map-range_with_len, get_or-map-range_with_len}

-- the values so far are marked
pub record AreMarked (count : ℕ) (values : List ℕ) (i : ℕ) (marks : List Bool) : Type 0 where
  pub room : length marks ≡ count
  pub entry : (v : ℕ) → v < count → get_or marks v false ≡ list_any (λ w. w == v) (take i values)

pub marked_all : (count : ℕ) (values : List ℕ) (i : ℕ) (marks : List Bool) → length values ≤ i → AreMarked count values i marks → marks ≡ map (λ v. list_any (λ w. w == v) values) (range_with_len 0 count)
marked_all count values i marks all m =
    let f : ℕ → Bool = λ v. list_any (λ w. w == v) values in
    ext_get_or false marks (map f (range_with_len 0 count)) (m.room ∙ sym (length-map-range_with_len f 0 count))
    (λ v below.
    let near : v < count = omega (arith, m.room) in
    m.entry v near ∙ ap (list_any (λ w. w == v)) (take_all i values all) ∙ sym (get_or-map-range_with_len f 0 count v v false near (omega arith)))

-- the first cells are judged by a test, the others are as they were
pub record AreJudged (test : ℕ → Bool) (old : List Bool) (i : ℕ) (cells : List Bool) : Type 0 where
  pub room : length cells ≡ length old
  pub done : (k : ℕ) → k < i → get_or cells k false ≡ (get_or old k false && test k)
  pub rest : (k : ℕ) → i ≤ k → get_or cells k false ≡ get_or old k false

pub judged_all : (test : ℕ → Bool) (old : List Bool) (i : ℕ) (cells : List Bool) → length old ≤ i → AreJudged test old i cells
    → cells ≡ map (λ k. get_or old k false && test k) (range_with_len 0 (length old))
judged_all test old i cells all j =
    let f : ℕ → Bool = λ k. get_or old k false && test k in
    ext_get_or false cells (map f (range_with_len 0 (length old))) (j.room ∙ sym (length-map-range_with_len f 0 (length old)))
    (λ k below. let near : k < length old = omega (arith, j.room) in j.done k (omega arith) ∙ sym (get_or-map-range_with_len f 0 (length old) k k false near (omega arith)))
