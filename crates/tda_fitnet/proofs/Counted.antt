-- Where a number stands first in a list.
use Rattle.std.proofs.Common.{◌≡◌, ◌⊎◌, ℕ, zero, suc, ◌+◌, ◌*◌, ◌<◌, ◌≤◌, cond, ◌==◌, nat_lt, Some, None, List, length, slice_index, set, refl, sym, ap, ◌∙◌, inl, inr, arith, ne_eqb, eq-eqb, lt-ltb, le-ltb, get_or-set_other, get_or-set_same, length-set}
use Rattle.std.specs.Prelude.{position}
use Rattle.std.specs.List.{position_or_len}
use Rattle.std.proofs.lemmas.Bool.{cases_eq}
use Rattle.std.proofs.lemmas.List.{ext_get_or}
use Rattle.std.proofs.lemmas.List.Sums.{position_or_len_is}
use Rattle.tda_fitnet.specs.declared.layout.Layout.{Layout}
use Rattle.tda_fitnet.specs.Layout.{rows, give_place}
use Rattle.tda_fitnet.proofs.Ranges.{length_rows, get_rows}
use Rattle.tda_fitnet.proofs.Places.{split_place}

-- nowhere from place m on and before place n
abbrev pub IsAbsent : List ℕ → ℕ → ℕ → ℕ → Type 0
IsAbsent cells m n j = (q : ℕ) → m ≤ q → q < n → slice_index cells q ≡ j → ⊥

pub record IsFirst (cells : List ℕ) (m q j : ℕ) : Type 0 where
  pub from : m ≤ q
  pub within : q < length cells
  pub is : slice_index cells q ≡ j
  pub before : IsAbsent cells m q j

first_or_none : (cells : List ℕ) (j n : ℕ) → n ≤ length cells → ((q : ℕ) × IsFirst cells 0 q j) ⊎ IsAbsent cells 0 n j
first_or_none cells j zero l = inr (λ q a b e. omega arith)
first_or_none cells j (suc n) l = elim (first_or_none cells j n (omega arith)) [
  | inl found ↦ inl found
  | inr none ↦ elim (cases_eq (slice_index cells n) j) [
    | inl e ↦ inl (n, record { from = omega arith; within = omega arith; is = e; before = none })
    | inr ne ↦ inr (λ q a b e. elim (cases_eq q n) [ inl same ↦ ne (ap (slice_index cells) (sym same) ∙ e) | inr other ↦ none q a (omega arith) e ])
  ]
]

-- what depends on the first place
pub by_position : (cells : List ℕ) (j n : ℕ) (value : ℕ → ℕ) → ((q : ℕ) → IsFirst cells 0 q j → n ≡ value q) → (IsAbsent cells 0 (length cells) j → n ≡ 0)
    → n ≡ elim (position (λ c. c == j) cells) [ Some q ↦ value q | None ↦ 0 ]
by_position cells j n value at none = elim (first_or_none cells j (length cells) (omega arith)) [
  | inl found ↦
      let q = found.0 in
      let f = found.1 in
      let place : position_or_len (λ c. c == j) cells ≡ q = position_or_len_is (λ c. c == j) cells q 0 (omega (arith, f.within)) (λ k l. ne_eqb _ _ (f.before k (omega arith) l)) (λ l. eq-eqb _ _ f.is) in
      at q f ∙ sym (ap (λ m. elim (cond (nat_lt m (length cells)) (Some m) None) [ Some r ↦ value r | None ↦ 0 ]) place
      ∙ ap (λ b. elim (cond b (Some q) None) [ Some r ↦ value r | None ↦ 0 ]) (lt-ltb q (length cells) f.within))
  | inr absent ↦
      let place : position_or_len (λ c. c == j) cells ≡ length cells = position_or_len_is (λ c. c == j) cells (length cells) 0 (omega arith) (λ k l. ne_eqb _ _ (absent k (omega arith) l)) (λ l. absurd (omega arith)) in
      none absent ∙ sym (ap (λ m. elim (cond (nat_lt m (length cells)) (Some m) None) [ Some r ↦ value r | None ↦ 0 ]) place
      ∙ ap (λ b. elim (cond b (Some (length cells)) None) [ Some r ↦ value r | None ↦ 0 ]) (le-ltb (length cells) (length cells) (omega arith)))
]

-- the cells from place m on are written, the last first
pub record AreWritten (cells flow : List ℕ) (start first : ℕ) (old : List ℕ) (m : ℕ) (counts : List ℕ) : Type 0 where
  pub count : length counts ≡ length old
  pub own : (j q : ℕ) → IsFirst cells m q j → slice_index counts (start + j) ≡ slice_index flow (first + q)
  pub absent : (j : ℕ) → IsAbsent cells m (length cells) j → slice_index counts (start + j) ≡ slice_index old (start + j)
  pub outside : (k : ℕ) → ((q : ℕ) → q < length cells → k ≡ start + slice_index cells q → ⊥) → slice_index counts k ≡ slice_index old k

pub written_start : (cells flow : List ℕ) (start first : ℕ) (old : List ℕ) → AreWritten cells flow start first old (length cells) old
written_start cells flow start first old = record {
  count = refl;
  own = λ j q f. absurd (omega (arith, f.from, f.within));
  absent = λ j a. refl;
  outside = λ k a. refl;
}

pub written_more : (cells flow : List ℕ) (start first : ℕ) (old : List ℕ) (m : ℕ) (counts : List ℕ) → m < length cells → start + slice_index cells m < length old
    → AreWritten cells flow start first old (suc m) counts
    → AreWritten cells flow start first old m (set counts (start + slice_index cells m) (slice_index flow (first + m)))
written_more cells flow start first old m counts low room h = record {
  count = length-set counts place value ∙ h.count;
  own = λ j q f. elim (cases_eq q m) [
    | inl e ↦
        let here : slice_index cells m ≡ j = ap (slice_index cells) (sym e) ∙ f.is in
        ap (λ v. slice_index (set counts place value) (start + v)) (sym here) ∙ get_or-set_same counts place value 0 (omega (arith, h.count)) ∙ ap (λ v. slice_index flow (first + v)) (sym e)
    | inr ne ↦
        get_or-set_other counts place (start + j) value 0 (λ e. f.before m (omega arith) (omega (arith, f.from)) (omega arith))
        ∙ h.own j q (record { from = omega (arith, f.from); within = f.within; is = f.is; before = λ r a b. f.before r (omega arith) b })
  ];
  absent = λ j a. get_or-set_other counts place (start + j) value 0 (λ e. a m (omega arith) low (omega arith)) ∙ h.absent j (λ q from till. a q (omega arith) till);
  outside = λ k a. get_or-set_other counts place k value 0 (a m low) ∙ h.outside k a;
}
  where
    place : ℕ
    place = start + slice_index cells m

    value : ℕ
    value = slice_index flow (first + m)

-- so each count is that of the first place where its cell stands
pub written_all : (l : Layout) (cells flow old counts : List ℕ) (start unit j : ℕ) → AreWritten cells flow start (give_place l unit 0) old 0 counts → slice_index old (start + j) ≡ 0
    → slice_index counts (start + j) ≡ elim (position (λ c. c == j) cells) [ Some r ↦ slice_index flow (give_place l unit r) | None ↦ 0 ]
written_all l cells flow old counts start unit j h none =
    by_position cells j (slice_index counts (start + j)) (λ r. slice_index flow (give_place l unit r))
    (λ q f. let e : give_place l unit 0 + q ≡ give_place l unit q = omega arith in h.own j q f ∙ ap (slice_index flow) e)
    (λ absent. h.absent j absent ∙ none)

-- a list that has what belongs to rows
pub rows_are : (xs : List ℕ) (m n : ℕ) (f : ℕ → ℕ → ℕ) → length xs ≡ m * n → ((i r : ℕ) → i < m → r < n → slice_index xs (i * n + r) ≡ f i r) → xs ≡ rows m n f
rows_are xs m n f size h =
    ext_get_or 0 xs (rows m n f) (size ∙ sym (length_rows m n f)) (λ k l.
    let q = split_place m n k (omega (arith, size)) in
    ap (slice_index xs) (sym q.4) ∙ h q.0 q.1 q.2 q.3 ∙ sym (get_rows m n q.0 q.1 f 0 q.2 q.3) ∙ ap (slice_index (rows m n f)) q.4)
