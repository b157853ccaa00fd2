-- Tables of numbers: made from a function, with one number changed, with another row.
use Rattle.std.proofs.Common.{◌≡◌, ◌≢◌, ℕ, zero, suc, ◌+◌, ◌*◌, ◌/◌, ◌%◌, ◌<◌, ◌≤◌, Bool, true, false, cond, List, length, set, map, All, nat_lt, refl, ap, sym, subst, ◌∙◌, inl, inr, arith, get_or, eq-eqb, ne_eqb}
use Rattle.std.proofs.lemmas.Bool.{lt-ltb, le-ltb, cases_lt, cases_eq}
use Rattle.std.proofs.lemmas.Nat.{div-mul-add, mod-mul-add, mul-add-lt, div-add-mod', div_below, mod_below, same_from_place}
use Rattle.std.proofs.lemmas.List.{get_or-set_same, get_or-set_other, length-set, get_or_past}
use Rattle.std.proofs.lemmas.List.Elements.{All-from_get_or}
use Rattle.std.proofs.lemmas.List.FromFn.{get_or-map-range_with_len, length-map-range_with_len, fill_by_all}
use Rattle.std.specs.List.{range_with_len}
use Rattle.tda_invar.specs.KindTable.{NumberTable, number_at, table_of, IsSized, IsChanged, HasRow}

-- ---- a table made from a function

pub number_in : (units kinds : ℕ) (f : ℕ → ℕ → ℕ) (u k : ℕ) → u < units → k < kinds → number_at (table_of units kinds f) u k ≡ f u k
number_in units kinds f u k lu lk =
    let numbers = (table_of units kinds f).numbers in
    let at = u * kinds + k in
    ap (λ b. cond b (get_or numbers at 0) 0) (lt-ltb k kinds lk)
    ∙ get_or-map-range_with_len (λ place. f (place / kinds) (place % kinds)) 0 (units * kinds) at at 0 (below units kinds u k lu lk) (from_zero at)
    ∙ ap (λ v. f v (at % kinds)) (div-mul-add u kinds k lk)
    ∙ ap (f u) (mod-mul-add u kinds k lk)
  where
    from_zero : (n : ℕ) → 0 + n ≡ n
    from_zero n = omega arith

    below : (units kinds u k : ℕ) → u < units → k < kinds → u * kinds + k < units * kinds
    below units kinds u k lu lk = omega (arith, mul-add-lt u kinds k units lu lk)

pub some_kind : (units kinds place : ℕ) → place < units * kinds → 0 < kinds
some_kind units zero place l = absurd (omega arith)
some_kind units (suc kinds) place l = omega arith

-- each number of such a table passes where the function does
pub each_number : (P : ℕ → Type 0) (units kinds : ℕ) (f : ℕ → ℕ → ℕ) → ((u k : ℕ) → u < units → k < kinds → P (f u k)) → All P (table_of units kinds f).numbers
each_number P units kinds f h =
    let at : ℕ → ℕ = λ place. f (place / kinds) (place % kinds) in
    All-from_get_or P (map at (range_with_len 0 (units * kinds))) 0 (λ i l.
    let below : i < units * kinds = omega (arith, length-map-range_with_len at 0 (units * kinds)) in
    let some = some_kind units kinds i below in
    let from_zero : 0 + i ≡ i = omega arith in
    subst P (sym (get_or-map-range_with_len at 0 (units * kinds) i i 0 below from_zero))
    (h (i / kinds) (i % kinds) (div_below i kinds units some below) (mod_below i kinds some)))

-- a table with these numbers is made from the function
pub table_is : (t : NumberTable) (units kinds : ℕ) (f : ℕ → ℕ → ℕ) → t.units ≡ units → t.kinds ≡ kinds → length t.numbers ≡ units * kinds
    → ((u k : ℕ) → u < units → k < kinds → number_at t u k ≡ f u k) → t ≡ table_of units kinds f
table_is t units kinds f units_is kinds_is size h = rw (units_is, kinds_is, numbers_are) refl
  where
    at : ℕ → ℕ
    at place = f (place / kinds) (place % kinds)

    at_place : (i : ℕ) → i < units * kinds → get_or t.numbers i 0 ≡ at i
    at_place i below =
        let some = some_kind units kinds i below in
        let kind = mod_below i kinds some in
        let back : i / kinds * kinds + i % kinds ≡ i = div-add-mod' i kinds in
        let number : number_at t (i / kinds) (i % kinds) ≡ get_or t.numbers i 0 =
        ap (λ n. cond (nat_lt (i % kinds) n) (get_or t.numbers (i / kinds * n + i % kinds) 0) 0) kinds_is
        ∙ ap (λ b. cond b (get_or t.numbers (i / kinds * kinds + i % kinds) 0) 0) (lt-ltb (i % kinds) kinds kind)
        ∙ ap (λ n. get_or t.numbers n 0) back in
        sym number ∙ h (i / kinds) (i % kinds) (div_below i kinds units some below) kind

    numbers_are : t.numbers ≡ map at (range_with_len 0 (units * kinds))
    numbers_are = fill_by_all at t.numbers (units * kinds) 0 size at_place

-- ---- any table

-- what bounds all numbers bounds each
pub number_small : (t : NumberTable) (most : ℕ) → All (λ n. n ≤ most) t.numbers → (u k : ℕ) → number_at t u k ≤ most
number_small t most small u k = by (nat_lt k t.kinds)
  where
    at : (i : ℕ) → get_or t.numbers i 0 ≤ most
    at i = elim (cases_lt i (length t.numbers)) [
      | inl below ↦ small i 0 below
      | inr past ↦ let none = get_or_past t.numbers i 0 past in omega (arith, none)
    ]

    by : (b : Bool) → cond b (get_or t.numbers (u * t.kinds + k) 0) 0 ≤ most
    by true = at (u * t.kinds + k)
    by false = omega arith

pub same_size : (t : NumberTable) → IsSized t t
same_size t = record { units = refl; kinds = refl; size = refl }

-- one number changed
module _ (t : NumberTable) (u k n : ℕ) (size : length t.numbers ≡ t.units * t.kinds) (lu : u < t.units) (lk : k < t.kinds) where
  abbrev changed : NumberTable
  changed = record { units = t.units; kinds = t.kinds; numbers = set t.numbers (u * t.kinds + k) n }

  within : u * t.kinds + k < length t.numbers
  within = omega (arith, mul-add-lt u t.kinds k t.units lu lk, size)

  other : (v m : ℕ) → (v ≡ u → m ≡ k → ⊥) → number_at changed v m ≡ number_at t v m
  other v m ne = elim (cases_lt m t.kinds) [
    | inl below ↦
        ap (λ x. cond (nat_lt m t.kinds) x 0)
        (get_or-set_other t.numbers (u * t.kinds + k) (v * t.kinds + m) n 0 (λ e. let same = same_from_place v m u k t.kinds below lk e in ne same.0 same.1))
    | inr past ↦
        let none : nat_lt m t.kinds ≡ false = le-ltb m t.kinds past in
        rw none refl
  ]

  pub number_set : IsChanged t (record { units = t.units; kinds = t.kinds; numbers = set t.numbers (u * t.kinds + k) n }) u k n
  number_set = record {
    sized = record { units = refl; kinds = refl; size = length-set t.numbers (u * t.kinds + k) n };
    own =
        ap (λ b. cond b (get_or (set t.numbers (u * t.kinds + k) n) (u * t.kinds + k) 0) 0) (lt-ltb k t.kinds lk)
        ∙ get_or-set_same t.numbers (u * t.kinds + k) n 0 within;
    others = other;
  }

-- a row, kind by kind
pub row_start : (t : NumberTable) (u : ℕ) (row : ℕ → ℕ) → HasRow t t u 0 row
row_start t u row = record {
  sized = same_size t;
  own = λ k l. absurd (omega arith);
  others = λ v k ne. refl;
}

pub row_more : (old mid new : NumberTable) (u k n : ℕ) (row : ℕ → ℕ) → HasRow old mid u k row → IsChanged mid new u k n → n ≡ row k → HasRow old new u (k + 1) row
row_more old mid new u k n row h c is = record {
  sized = record {
    units = c.sized.units ∙ h.sized.units;
    kinds = c.sized.kinds ∙ h.sized.kinds;
    size = c.sized.size ∙ h.sized.size;
  };
  own = λ m l. elim (cases_eq m k) [
    | inl e ↦ ap (number_at new u) e ∙ c.own ∙ is ∙ ap row (sym e)
    | inr ne ↦ c.others u m (λ _ e. ne e) ∙ h.own m (omega (arith, l, ne))
  ];
  others = λ v m ne. c.others v m (λ e f. ne e (omega (arith, f))) ∙ h.others v m (λ e f. ne e (omega (arith, f)));
}
