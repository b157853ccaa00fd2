-- The table, row by row.
use Rattle.std.proofs.Common.{◌≡◌, ℕ, zero, suc, ◌+◌, ◌-◌, ◌*◌, ◌<◌, ◌≤◌, true, false, cond, leb, List, length, Option, Some, None, IsSome, ℤ, ◌≤ℤ◌, ◌<ℤ◌, refl, sym, ap, subst, ◌∙◌, inl, inr, arith, rules, add-zero, add-suc}
use Rattle.std.proofs.lemmas.Int.{ints}
use Rattle.std.proofs.lemmas.Bool.{cases_lt}
use Rattle.std.proofs.lemmas.List.{places}
use Rattle.std.proofs.Math.Nat.{mul-le-mul_left}
use borrow.Rule.Slice.PartMut.{put_mid}
use Rattle.tda_cancel.specs.declared.steps.Step.{Step}
use Rattle.tda_cancel.specs.Rows.{last_at, IsLast, IsLowered, IsNextRow, IsTable}
use Rattle.tda_cancel.proofs.Lowered.{row-falls}

-- the rows so far, the last of which is `costs`
pub record AreRows (steps : List Step) (n : ℕ) (lasts : List (Option ℕ)) (count : ℕ) (costs : ℕ → ℤ) : Type 0 where
  pub rows : ℕ → ℕ → ℤ
  pub next : (j : ℕ) → j < count → IsNextRow steps (length steps) n (rows j) (rows (suc j)) (λ v. last_at lasts (j * n + v))
  pub top : rows count ≡ costs

pub rows-none : (steps : List Step) (n : ℕ) (lasts : List (Option ℕ)) (costs : ℕ → ℤ) → AreRows steps n lasts 0 costs
rows-none steps n lasts costs = record { rows = λ j. costs; next = λ j l. absurd (omega arith); top = refl }

-- the same rows up to row k, and another one after it
abbrev with_row : (ℕ → ℕ → ℤ) → ℕ → (ℕ → ℤ) → ℕ → ℕ → ℤ
with_row rows k new j = cond (leb j k) (rows j) new

row-old : (rows : ℕ → ℕ → ℤ) (k : ℕ) (new : ℕ → ℤ) (j : ℕ) → j ≤ k → with_row rows k new j ≡ rows j
row-old rows k new j l = let e : leb j k ≡ true = search rules in ap (λ b. cond b (rows j) new) e

row-new : (rows : ℕ → ℕ → ℤ) (k : ℕ) (new : ℕ → ℤ) → with_row rows k new (suc k) ≡ new
row-new rows k new = let e : leb (suc k) k ≡ false = search rules in ap (λ b. cond b (rows (suc k)) new) e

-- other rows and last steps that are the same
row-as : (steps : List Step) (n : ℕ) (before before' after after' : ℕ → ℤ) (lasts lasts' : ℕ → Option ℕ) → before' ≡ before → after' ≡ after
    → ((v : ℕ) → v < n → lasts' v ≡ lasts v) → IsNextRow steps (length steps) n before after lasts → IsNextRow steps (length steps) n before' after' lasts'
row-as steps n before before' after after' lasts lasts' eb ea el h =
    let mine : IsNextRow steps (length steps) n before after lasts' = record {
      under = h.under;
      last = λ v l. subst (λ o. IsLast steps (length steps) before after v o) (sym (el v l)) (h.last v l);
    } in
    subst (λ z. IsNextRow steps (length steps) n z after' lasts') (sym eb) (subst (λ z. IsNextRow steps (length steps) n before z lasts') (sym ea) mine)

-- what is read of a table after a row was written
read-old : (xs ys : List (Option ℕ)) (a k i : ℕ) → i < a → a ≤ length xs → last_at (put_mid a k xs ys) i ≡ last_at xs i
read-old xs ys a k i l m = search (rules, places)

pub read-new : (xs ys : List (Option ℕ)) (a k v : ℕ) → v < length ys → a ≤ length xs → last_at (put_mid a k xs ys) (a + v) ≡ last_at ys v
read-new xs ys a k v l m = search (rules, places)

below : (n j k v : ℕ) → j < k → v < n → j * n + v < k * n
below n j k v l m = let a = mul-le-mul_left n (suc_le j k l) in omega (arith, a)
  where
    suc_le : (j k : ℕ) → j < k → suc j ≤ k
    suc_le j k l = omega arith

pub rows-more : (steps : List Step) (n : ℕ) (lasts ys : List (Option ℕ)) (count k : ℕ) (costs new : ℕ → ℤ) → AreRows steps n lasts count costs
    → IsNextRow steps (length steps) n costs new (last_at ys) → length ys ≡ n → count * n ≤ length lasts
    → AreRows steps n (put_mid (count * n) k lasts ys) (count + 1) new
rows-more steps n lasts ys count k costs new h row size room =
    let more : ℕ → ℕ → ℤ = with_row h.rows count new in
    let end : count + 1 ≡ suc count = omega arith in
    record {
      rows = more;
      next =
          λ j l.
          elim (cases_lt j count) [
            | inl m ↦
                row-as steps n (h.rows j) (more j) (h.rows (suc j)) (more (suc j)) (λ v. last_at lasts (j * n + v)) _
                (row-old h.rows count new j (omega arith)) (row-old h.rows count new (suc j) (omega arith))
                (λ v i. read-old lasts ys (count * n) k (j * n + v) (below n j count v m i) room) (h.next j m)
            | inr m ↦
                let e : count ≡ j = omega arith in
                subst (λ z. IsNextRow steps (length steps) n (more z) (more (suc z)) (λ v. last_at (put_mid (count * n) k lasts ys) (z * n + v))) e
                (row-as steps n costs (more count) new (more (suc count)) (last_at ys) _
                (row-old h.rows count new count (omega arith) ∙ h.top) (row-new h.rows count new)
                (λ v i. read-new lasts ys (count * n) k v (omega arith) room) row)
          ];
      top = ap more end ∙ row-new h.rows count new;
    }

pub table : (steps : List Step) (n : ℕ) (lasts : List (Option ℕ)) (count : ℕ) (costs : ℕ → ℤ) → AreRows steps n lasts count costs → IsTable steps n lasts count
table steps n lasts count costs h = (h.rows, h.next)

-- later rows are not above earlier ones
table-falls_by : (steps : List Step) (n : ℕ) (lasts : List (Option ℕ)) (count : ℕ) → (t : IsTable steps n lasts count) → (v i d : ℕ) → v < n → i + d ≤ count
    → t.0 (i + d) v ≤ℤ t.0 i v
table-falls_by steps n lasts count t v i zero l m = rw add-zero (omega (arith, ints))
table-falls_by steps n lasts count t v i (suc d) l m =
    let a = row-falls steps (length steps) n (t.0 (i + d)) (t.0 (suc (i + d))) (λ w. last_at lasts ((i + d) * n + w)) (t.1 (i + d) (omega arith)) v l in
    let b = table-falls_by steps n lasts count t v i d l (omega arith) in
    rw add-suc (omega (arith, ints))

pub table-falls : (steps : List Step) (n : ℕ) (lasts : List (Option ℕ)) (count : ℕ) → (t : IsTable steps n lasts count) → (v i j : ℕ) → v < n → i ≤ j → j ≤ count
    → t.0 j v ≤ℤ t.0 i v
table-falls steps n lasts count t v i j l m top =
    let e : i + (j - i) ≡ j = omega arith in
    subst (λ z. t.0 z v ≤ℤ t.0 i v) e (table-falls_by steps n lasts count t v i (j - i) l (omega arith))

-- a node whose number a row lowers has a last step there
pub last-some : (steps : List Step) (m : ℕ) (before after : ℕ → ℤ) (v : ℕ) (o : Option ℕ) → IsLast steps m before after v o → after v <ℤ before v
    → (i : ℕ) × (o ≡ Some i) × IsLowered steps m before after v i
last-some steps m before after v None e less = absurd (omega (arith, ints, e))
last-some steps m before after v (Some i) e less = (i, refl, e)

pub some-lowers : (steps : List Step) (m : ℕ) (before after : ℕ → ℤ) (v : ℕ) (o : Option ℕ) → IsLast steps m before after v o → IsSome o
    → after v <ℤ before v
some-lowers steps m before after v None e some = absurd (cc)
some-lowers steps m before after v (Some i) e some = e.less
