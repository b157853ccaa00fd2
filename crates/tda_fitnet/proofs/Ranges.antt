-- Lists by rows, what stands where in them, and sums over their places.
use Rattle.std.proofs.Common.{◌≡◌, ℕ, zero, suc, ◌+◌, ◌-◌, ◌*◌, ◌<◌, ◌≤◌, List, ◌++◌, length, get_or, sym, ap, ◌∙◌, arith, length-append, suc-mul, mul-le-mul_right}
use Rattle.std.specs.List.{sum_by, range_with_len, flat_map}
use Rattle.std.proofs.lemmas.List.{get_or_append_left, get_or-append_right}
use Rattle.std.proofs.lemmas.List.FromFn.{length-map-range_with_len, get_or-map-range_with_len}
use Rattle.tda_model.proofs.Sums.{sum_same, each_range}
use Rattle.tda_model.proofs.Shares.{sum_range_more}
use Rattle.tda_fitnet.specs.declared.layout.Layout.{Layout}
use Rattle.tda_fitnet.specs.Layout.{row, rows, layout_list, arc_number}

-- ---- sums over the numbers below n
abbrev pub below : ℕ → (ℕ → ℕ) → ℕ
below n f = sum_by f (range_with_len 0 n)

pub below_same : (n : ℕ) (f g : ℕ → ℕ) → ((i : ℕ) → i < n → f i ≡ g i) → below n f ≡ below n g
below_same n f g h = sum_same f g _ (each_range _ 0 n (λ i low high. h i (omega arith)))

pub below_add : (a b : ℕ) (f : ℕ → ℕ) → below (a + b) f ≡ below a f + below b (λ k. f (a + k))
below_add a zero f = let e : a + 0 ≡ a = omega arith in ap (λ n. below n f) e ∙ omega arith
below_add a (suc b) f =
    let e : a + suc b ≡ suc (a + b) = omega arith in
    ap (λ n. below n f) e ∙ sum_range_more f (a + b) ∙ omega (arith, below_add a b f, sum_range_more (λ k. f (a + k)) b)

pub below_mul : (m n : ℕ) (f : ℕ → ℕ) → below (m * n) f ≡ below m (λ i. below n (λ r. f (i * n + r)))
below_mul zero n f = let e : zero * n ≡ 0 = omega arith in ap (λ k. below k f) e
below_mul (suc m) n f =
    let e : suc m * n ≡ m * n + n = omega (arith, suc-mul m n) in
    ap (λ k. below k f) e ∙ below_add (m * n) n f ∙ ap (λ k. k + below n (λ r. f (m * n + r))) (below_mul m n f)
    ∙ sym (sum_range_more (λ i. below n (λ r. f (i * n + r))) m)

-- ---- rows
pub place_below : (m n i r : ℕ) → i < m → r < n → i * n + r < m * n
place_below m n i r l lr =
    let a : suc i * n ≤ m * n = mul-le-mul_right n l in
    let b = suc-mul i n in omega arith

module _ {A : Type 0} where
  rows_from : ℕ → ℕ → ℕ → (ℕ → ℕ → A) → List A
  rows_from a m n f = flat_map (λ i. row n (f i)) (range_with_len a m)

  length_from : (a m n : ℕ) (f : ℕ → ℕ → A) → length (rows_from a m n f) ≡ m * n
  unfolding rows_from
  length_from a zero n f = omega arith
  length_from a (suc m) n f =
      length-append (row n (f a)) _ ∙ omega (arith, length-map-range_with_len (f a) 0 n, length_from (a + 1) m n f, suc-mul m n)

  get_from : (a m n i r : ℕ) (f : ℕ → ℕ → A) (d : A) → i < m → r < n → get_or (rows_from a m n f) (i * n + r) d ≡ f (a + i) r
  unfolding rows_from
  get_from a zero n i r f d l lr = absurd (omega arith)
  get_from a (suc m) n zero r f d l lr =
      let first = row n (f a) in
      let size : length first ≡ n = length-map-range_with_len (f a) 0 n in
      let e : zero * n + r ≡ r = omega arith in
      let z : a + 0 ≡ a = omega arith in
      ap (λ k. get_or (first ++ rows_from (a + 1) m n f) k d) e
      ∙ get_or_append_left first (rows_from (a + 1) m n f) d r (omega arith)
      ∙ get_or-map-range_with_len (f a) 0 n r r d lr (omega arith)
      ∙ ap (λ k. f k r) (sym z)
  get_from a (suc m) n (suc i) r f d l lr =
      let first = row n (f a) in
      let size : length first ≡ n = length-map-range_with_len (f a) 0 n in
      let s = suc-mul i n in
      let e : suc i * n + r - n ≡ i * n + r = omega arith in
      let z : a + 1 + i ≡ a + suc i = omega arith in
      get_or-append_right first (rows_from (a + 1) m n f) n (suc i * n + r) d size (omega arith)
      ∙ ap (λ k. get_or (rows_from (a + 1) m n f) k d) e
      ∙ get_from (a + 1) m n i r f d (omega arith) lr
      ∙ ap (λ k. f k r) z

  pub length_rows : (m n : ℕ) (f : ℕ → ℕ → A) → length (rows m n f) ≡ m * n
  unfolding rows_from
  length_rows m n f = length_from 0 m n f

  pub get_rows : (m n i r : ℕ) (f : ℕ → ℕ → A) (d : A) → i < m → r < n → get_or (rows m n f) (i * n + r) d ≡ f i r
  unfolding rows_from
  get_rows m n i r f d l lr = let z : 0 + i ≡ i = omega arith in get_from 0 m n i r f d l lr ∙ ap (λ k. f k r) z

  -- ---- the whole list
  module _ (l : Layout) (source : ℕ → A) (share give group : ℕ → ℕ → A) where
    abbrev all : List A
    all = layout_list l source share give group

    sources_are : length (row l.sources source) ≡ l.sources
    sources_are = length-map-range_with_len source 0 l.sources

    pub length_all : length all ≡ arc_number l
    length_all =
        length-append (row l.sources source) _
        ∙ omega (
          arith,
          sources_are,
          length-append (rows l.states l.kinds share) (rows l.units l.cells give ++ rows l.units l.groups group),
          length-append (rows l.units l.cells give) (rows l.units l.groups group),
          length_rows l.states l.kinds share,
          length_rows l.units l.cells give,
          length_rows l.units l.groups group,
        )

    after_sources : (k : ℕ) (d : A) → get_or all (l.sources + k) d ≡ get_or (rows l.states l.kinds share ++ (rows l.units l.cells give ++ rows l.units l.groups group)) k d
    after_sources k d =
        let e : l.sources + k - l.sources ≡ k = omega arith in
        get_or-append_right (row l.sources source) _ l.sources (l.sources + k) d sources_are (omega arith)
        ∙ ap (λ n. get_or (rows l.states l.kinds share ++ (rows l.units l.cells give ++ rows l.units l.groups group)) n d) e

    after_shares : (k : ℕ) (d : A) → get_or all (l.sources + (l.states * l.kinds + k)) d ≡ get_or (rows l.units l.cells give ++ rows l.units l.groups group) k d
    after_shares k d =
        let m : ℕ = l.states * l.kinds in
        let e : m + k - m ≡ k = omega arith in
        after_sources (m + k) d
        ∙ get_or-append_right (rows l.states l.kinds share) _ m (m + k) d (length_rows l.states l.kinds share) (omega arith)
        ∙ ap (λ n. get_or (rows l.units l.cells give ++ rows l.units l.groups group) n d) e

    pub at_source : (n : ℕ) (d : A) → n < l.sources → get_or all n d ≡ source n
    at_source n d low =
        get_or_append_left (row l.sources source) _ d n (omega (arith, sources_are)) ∙ get_or-map-range_with_len source 0 l.sources n n d low (omega arith)

    pub at_share : (n k : ℕ) (d : A) → n < l.states → k < l.kinds → get_or all (l.sources + (n * l.kinds + k)) d ≡ share n k
    at_share n k d low lk =
        after_sources (n * l.kinds + k) d
        ∙ get_or_append_left (rows l.states l.kinds share) _ d (n * l.kinds + k) (omega (arith, length_rows l.states l.kinds share, place_below l.states l.kinds n k low lk))
        ∙ get_rows l.states l.kinds n k share d low lk

    pub at_give : (u r : ℕ) (d : A) → u < l.units → r < l.cells → get_or all (l.sources + (l.states * l.kinds + (u * l.cells + r))) d ≡ give u r
    at_give u r d low lr =
        after_shares (u * l.cells + r) d
        ∙ get_or_append_left (rows l.units l.cells give) _ d (u * l.cells + r) (omega (arith, length_rows l.units l.cells give, place_below l.units l.cells u r low lr))
        ∙ get_rows l.units l.cells u r give d low lr

    pub at_group : (u g : ℕ) (d : A) → u < l.units → g < l.groups → get_or all (l.sources + (l.states * l.kinds + (l.units * l.cells + (u * l.groups + g)))) d ≡ group u g
    at_group u g d low lg =
        let m : ℕ = l.units * l.cells in
        let e : m + (u * l.groups + g) - m ≡ u * l.groups + g = omega arith in
        after_shares (m + (u * l.groups + g)) d
        ∙ get_or-append_right (rows l.units l.cells give) _ m (m + (u * l.groups + g)) d (length_rows l.units l.cells give) (omega arith)
        ∙ ap (λ n. get_or (rows l.units l.groups group) n d) e
        ∙ get_rows l.units l.groups u g group d low lg
