-- What comes into a node and what goes out of it, node by node.
use Rattle.std.proofs.Common.{◌≡◌, ℕ, suc, ◌+◌, ◌*◌, ◌<◌, ◌≤◌, Bool, true, false, cond, ◌&&◌, eqb, nat_lt, refl, sym, ap, ◌∙◌, inl, inr, arith, ne_eqb, eq-eqb, suc-mul, mul-le-mul_right, lt-ltb, le-ltb}
use Rattle.std.proofs.lemmas.Bool.{cases_eq, cases_lt}
use Rattle.std.specs.List.{range_with_len}
use Rattle.tda_model.proofs.Sums.{sum_zero, sum_one}
use Rattle.tda_fitnet.specs.declared.layout.Layout.{Layout}
use Rattle.tda_fitnet.specs.Layout.{source_node, kind_node, group_node}
use Rattle.tda_fitnet.proofs.Ranges.{below, below_same}
use Rattle.tda_fitnet.proofs.Places.{by_place}

pub below_none : (n : ℕ) (f : ℕ → ℕ) → ((i : ℕ) → i < n → f i ≡ 0) → below n f ≡ 0
below_none n f h = below_same n f (λ i. 0) h ∙ sum_zero (range_with_len 0 n)

pub below_one : (n c : ℕ) (f : ℕ → ℕ) → c < n → below n (λ i. cond (eqb i c) (f i) 0) ≡ f c
below_one n c f l = sum_one f c 0 n (omega arith) (omega arith)

pub fails : (b : Bool) (n : ℕ) → b ≡ false → cond b n 0 ≡ 0
fails true n e = absurd cc
fails false n e = refl

pub off : (a b n : ℕ) → (a ≡ b → ⊥) → cond (eqb a b) n 0 ≡ 0
off a b n ne = fails _ n (ne_eqb a b ne)

pub below_off : (n : ℕ) (end : ℕ → ℕ) (v : ℕ) (f : ℕ → ℕ) → ((i : ℕ) → i < n → end i ≡ v → ⊥) → below n (λ i. cond (eqb (end i) v) (f i) 0) ≡ 0
below_off n end v f ne = below_none n (λ i. cond (eqb (end i) v) (f i) 0) (λ i l. off (end i) v (f i) (ne i l))

pub below_off2 : (m n : ℕ) (end : ℕ → ℕ → ℕ) (v : ℕ) (f : ℕ → ℕ → ℕ) → ((i k : ℕ) → i < m → k < n → end i k ≡ v → ⊥)
    → below m (λ i. below n (λ k. cond (eqb (end i k) v) (f i k) 0)) ≡ 0
below_off2 m n end v f ne = below_none m (λ i. below n (λ k. cond (eqb (end i k) v) (f i k) 0)) (λ i l. below_off n (end i) v (f i) (λ k lk. ne i k l lk))

-- where the end tells the number
pub below_at : (n c v : ℕ) (end : ℕ → ℕ) (f : ℕ → ℕ) → c < n → end c ≡ v → ((i : ℕ) → i < n → end i ≡ v → i ≡ c) → below n (λ i. cond (eqb (end i) v) (f i) 0) ≡ f c
below_at n c v end f l here only =
    below_same n _ (λ i. cond (eqb i c) (f i) 0) (λ i li. ap (λ b. cond b (f i) 0) (elim (cases_eq i c) [
      | inl e ↦ eq-eqb (end i) v (ap end e ∙ here) ∙ sym (eq-eqb i c e)
      | inr ne ↦ ne_eqb (end i) v (λ e. ne (only i li e)) ∙ sym (ne_eqb i c ne)
    ])) ∙ below_one n c f l

-- where the end tells the first number
pub below_at_row : (m n c v : ℕ) (end : ℕ → ℕ → ℕ) (f : ℕ → ℕ → ℕ) → c < m → ((i k : ℕ) → i < m → k < n → end i k ≡ v → i ≡ c)
    → below m (λ i. below n (λ k. cond (eqb (end i k) v) (f i k) 0)) ≡ below n (λ k. cond (eqb (end c k) v) (f c k) 0)
below_at_row m n c v end f l only =
    below_same m _ (λ i. cond (eqb i c) (below n (λ k. cond (eqb (end i k) v) (f i k) 0)) 0) (λ i li. elim (cases_eq i c) [
      | inl e ↦ sym (ap (λ b. cond b (below n (λ k. cond (eqb (end i k) v) (f i k) 0)) 0) (eq-eqb i c e))
      | inr ne ↦ below_off n (end i) v (f i) (λ k lk e. ne (only i k li lk e)) ∙ sym (off i c (below n (λ k. cond (eqb (end i k) v) (f i k) 0)) ne)
    ]) ∙ below_one m c (λ i. below n (λ k. cond (eqb (end i k) v) (f i k) 0)) l

module _ (G : ℕ) where
  before : (i k g h : ℕ) → i < k → g < G → i * G + g < k * G + h
  before i k g h lt l =
      let a : suc i * G ≤ k * G = mul-le-mul_right G lt in
      let b = suc-mul i G in omega arith

  pub same_place : (i k g h : ℕ) → g < G → h < G → i * G + g ≡ k * G + h → (i ≡ k) × (g ≡ h)
  same_place i k g h lg lh e = elim (cases_eq i k) [
    | inl same ↦ (same, let d = ap (λ m. m * G) same in omega arith)
    | inr ne ↦ elim (cases_lt i k) [
      | inl lt ↦ let b = before i k g h lt lg in absurd (omega arith)
      | inr ge ↦ let b = before k i h g (omega arith) lh in absurd (omega arith)
    ]
  ]

-- the ends of the arcs of a fit: a give arc begins at a source's or a kind's node
module _ (l : Layout) (some_sources : l.states ≤ l.sources) (from : ℕ → ℕ) (small next : ℕ → ℕ)
    (from_low : (r : ℕ) → r < l.cells → 1 ≤ from r) (from_high : (r : ℕ) → r < l.cells → from r < 1 + l.sources + l.kinds)
    (small_in : (r : ℕ) → r < l.cells → small r < l.groups) (down : (g : ℕ) → 1 ≤ g → g < l.groups → next g < g)
    (source : ℕ → ℕ) (share give group : ℕ → ℕ → ℕ) where
  abbrev pub end_of : ℕ → ℕ → ℕ
  end_of u g = cond (eqb g 0) 0 (group_node l u (next g))

  abbrev pub comes_in : ℕ → ℕ
  comes_in v = by_place l
      (λ n. cond (eqb (source_node n) v) (source n) 0)
      (λ n k. cond (eqb (kind_node l k) v) (share n k) 0)
      (λ u r. cond (eqb (group_node l u (small r)) v) (give u r) 0)
      (λ u g. cond (eqb (end_of u g) v) (group u g) 0)

  abbrev pub goes_out : ℕ → ℕ
  goes_out v = by_place l
      (λ n. cond (eqb 0 v) (source n) 0)
      (λ n k. cond (eqb (source_node n) v) (share n k) 0)
      (λ u r. cond (eqb (from r) v) (give u r) 0)
      (λ u g. cond (eqb (group_node l u g) v) (group u g) 0)

  four : (a b c d e f g h : ℕ) → a ≡ e → b ≡ f → c ≡ g → d ≡ h → a + (b + (c + d)) ≡ e + (f + (g + h))
  four a b c d e f g h p q r s = omega arith

  -- an end at a group's node or the hub is none at a source's or a kind's
  end_high : (u g v : ℕ) → g < l.groups → 1 ≤ v → v < 1 + l.sources + l.kinds → end_of u g ≡ v → ⊥
  end_high u g v lg low high e = high_end (eqb g 0) e
    where
      high_end : (b : Bool) → cond b 0 (group_node l u (next g)) ≡ v → ⊥
      high_end true d = omega arith
      high_end false d = omega arith

  pub in_source : (n : ℕ) → n < l.sources → comes_in (source_node n) ≡ source n
  in_source n low =
      four _ _ _ _ (source n) 0 0 0
      (below_at l.sources n (source_node n) source_node source low refl (λ i li e. omega arith))
      (below_off2 l.states l.kinds (λ i k. kind_node l k) (source_node n) share (λ i k li lk e. omega arith))
      (below_off2 l.units l.cells (λ u r. group_node l u (small r)) (source_node n) give (λ u r lu lr e. omega arith))
      (below_off2 l.units l.groups end_of (source_node n) group (λ u g lu lg. end_high u g (source_node n) lg (omega arith) (omega arith)))
      ∙ omega arith

  -- what goes out of a source's node: the shares of a state, or what is given of a cell
  pub out_source : (n : ℕ) → n < l.sources
      → goes_out (source_node n) ≡ below l.states (λ i. below l.kinds (λ k. cond (eqb (source_node i) (source_node n)) (share i k) 0))
      + below l.units (λ u. below l.cells (λ r. cond (eqb (from r) (source_node n)) (give u r) 0))
  out_source n low =
      let shares = below l.states (λ i. below l.kinds (λ k. cond (eqb (source_node i) (source_node n)) (share i k) 0)) in
      let gives = below l.units (λ u. below l.cells (λ r. cond (eqb (from r) (source_node n)) (give u r) 0)) in
      four _ _ _ _ 0 shares gives 0
      (below_off l.sources (λ i. 0) (source_node n) source (λ i li e. omega arith))
      refl refl
      (below_off2 l.units l.groups (group_node l) (source_node n) group (λ u g lu lg e. omega arith))
      ∙ omega arith

  pub in_kind : (k : ℕ) → k < l.kinds → comes_in (kind_node l k) ≡ below l.states (λ n. share n k)
  in_kind k low =
      four _ _ _ _ 0 (below l.states (λ n. share n k)) 0 0
      (below_off l.sources source_node (kind_node l k) source (λ i li e. omega arith))
      (below_same l.states _ (λ n. share n k) (λ n ln. below_at l.kinds k (kind_node l k) (kind_node l) (share n) low refl (λ i li e. omega arith)))
      (below_off2 l.units l.cells (λ u r. group_node l u (small r)) (kind_node l k) give (λ u r lu lr e. omega arith))
      (below_off2 l.units l.groups end_of (kind_node l k) group (λ u g lu lg. end_high u g (kind_node l k) lg (omega arith) (omega arith)))
      ∙ omega arith

  pub out_kind : (k : ℕ) → k < l.kinds → goes_out (kind_node l k) ≡ below l.units (λ u. below l.cells (λ r. cond (eqb (from r) (kind_node l k)) (give u r) 0))
  out_kind k low =
      let gives = below l.units (λ u. below l.cells (λ r. cond (eqb (from r) (kind_node l k)) (give u r) 0)) in
      four _ _ _ _ 0 0 gives 0
      (below_off l.sources (λ i. 0) (kind_node l k) source (λ i li e. omega arith))
      (below_off2 l.states l.kinds (λ i j. source_node i) (kind_node l k) share (λ i j li lj e. omega arith))
      refl
      (below_off2 l.units l.groups (group_node l) (kind_node l k) group (λ u g lu lg e. omega arith))
      ∙ omega arith

  node_tells : (u v g h : ℕ) → g < l.groups → h < l.groups → group_node l u g ≡ group_node l v h → (u ≡ v) × (g ≡ h)
  node_tells u v g h lg lh e = same_place l.groups u v g h lg lh (omega arith)

  end_tells : (u v h g : ℕ) → h < l.groups → g < l.groups → end_of u h ≡ group_node l v g → u ≡ v
  end_tells u v h g lh lg e = elim (cases_eq h 0) [
    | inl z ↦ let d : 0 ≡ group_node l v g = sym (ap (λ b. cond b 0 (group_node l u (next h))) (eq-eqb h 0 z)) ∙ e in absurd (omega arith)
    | inr ne ↦
        let lt = down h (omega arith) lh in
        (node_tells u v (next h) g (omega arith) lg (sym (ap (λ b. cond b 0 (group_node l u (next h))) (ne_eqb h 0 ne)) ∙ e)).0
  ]

  end_test : (u h g : ℕ) → h < l.groups → g < l.groups → eqb (end_of u h) (group_node l u g) ≡ (nat_lt 0 h && eqb (next h) g)
  end_test u h g lh lg = elim (cases_eq h 0) [
    | inl z ↦ ap (λ b. eqb (cond b 0 (group_node l u (next h))) (group_node l u g)) (eq-eqb h 0 z) ∙ ne_eqb 0 (group_node l u g) (λ d. omega arith)
        ∙ sym (ap (λ b. b && eqb (next h) g) (le-ltb 0 h (omega arith)))
    | inr ne ↦
        let lt = down h (omega arith) lh in
        ap (λ b. eqb (cond b 0 (group_node l u (next h))) (group_node l u g)) (ne_eqb h 0 ne)
        ∙ elim (cases_eq (next h) g) [
          | inl e ↦ eq-eqb _ _ (ap (group_node l u) e) ∙ sym (eq-eqb (next h) g e)
          | inr other ↦ ne_eqb _ _ (λ d. other (node_tells u u (next h) g (omega arith) lg d).1) ∙ sym (ne_eqb (next h) g other)
        ]
        ∙ ap (λ b. b && eqb (next h) g) (sym (lt-ltb 0 h (omega arith)))
  ]

  -- what comes into a group: its own cells' flows, and those of the groups to which it is next
  pub in_group : (u g : ℕ) → u < l.units → g < l.groups
      → comes_in (group_node l u g) ≡ below l.cells (λ r. cond (eqb (small r) g) (give u r) 0) + below l.groups (λ h. cond (nat_lt 0 h && eqb (next h) g) (group u h) 0)
  in_group u g lu lg =
      let v = group_node l u g in
      let gives = below l.cells (λ r. cond (eqb (small r) g) (give u r) 0) in
      let groups = below l.groups (λ h. cond (nat_lt 0 h && eqb (next h) g) (group u h) 0) in
      four _ _ _ _ 0 0 gives groups
      (below_off l.sources source_node v source (λ i li e. omega arith))
      (below_off2 l.states l.kinds (λ i k. kind_node l k) v share (λ i k li lk e. omega arith))
      (below_at_row l.units l.cells u v (λ i r. group_node l i (small r)) give lu (λ i r li lr e. (node_tells i u (small r) g (small_in r lr) lg e).0)
      ∙ below_same l.cells _ _ (λ r lr. ap (λ b. cond b (give u r) 0) (elim (cases_eq (small r) g) [
        | inl e ↦ eq-eqb _ _ (ap (group_node l u) e) ∙ sym (eq-eqb (small r) g e)
        | inr other ↦ ne_eqb _ _ (λ d. other (node_tells u u (small r) g (small_in r lr) lg d).1) ∙ sym (ne_eqb (small r) g other)
      ])))
      (below_at_row l.units l.groups u v end_of group lu (λ i h li lh e. end_tells i u h g lh lg e)
      ∙ below_same l.groups _ _ (λ h lh. ap (λ b. cond b (group u h) 0) (end_test u h g lh lg)))
      ∙ omega arith

  pub out_group : (u g : ℕ) → u < l.units → g < l.groups → goes_out (group_node l u g) ≡ group u g
  out_group u g lu lg =
      let v = group_node l u g in
      four _ _ _ _ 0 0 0 (group u g)
      (below_off l.sources (λ i. 0) v source (λ i li e. omega arith))
      (below_off2 l.states l.kinds (λ i k. source_node i) v share (λ i k li lk e. omega arith))
      (below_off2 l.units l.cells (λ i r. from r) v give (λ i r li lr e. let h = from_high r lr in omega arith))
      (below_at_row l.units l.groups u v (group_node l) group lu (λ i h li lh e. (node_tells i u h g lh lg e).0)
      ∙ below_at l.groups g v (group_node l u) (group u) lg refl (λ h lh e. (node_tells u u h g lh lg e).1))
      ∙ omega arith
