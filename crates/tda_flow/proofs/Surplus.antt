-- What comes into a node and what goes out of it, as a sum over the turns that begin there.
use Rattle.std.proofs.Common.{◌≡◌, ℕ, zero, suc, ◌+◌, ◌-◌, ◌*◌, ◌/◌, ◌%◌, ◌<◌, ◌≤◌, ◌^◌, ℤ, pos, ◌+ℤ◌, ◌-ℤ◌, neg_ℤ, refl, ap, subst, ◌∙◌, Bool, true, false, cond, eqb, List, slice_index, Option, Some, None, inl, inr, arith, to_z, of_z, FitsSigned}
use Rattle.std.specs.Int.{w64}
use Rattle.std.proofs.lemmas.Int.{ints, to_z-of_z}
use Rattle.std.proofs.lemmas.Bool.{cases_eq, eq-eqb, ne_eqb}
use Rattle.tda_loss.specs.Curve.{IsWithin}
use Rattle.tda_flow.specs.Sum.{sum_below}
use Rattle.tda_flow.specs.declared.net.Turn.{Turn}
use Rattle.tda_flow.specs.Network.{Network, arc_count, arc_at}
use Rattle.tda_flow.specs.Turns.{turn_from, turn_number, turn_limit, Leaves, IsLastBelow}
use Rattle.tda_flow.specs.Flow.{into, out_of}
use Rattle.tda_flow.proofs.Sums.{sum_below-ext, sum_below-sub}

-- the turn of number n
abbrev pub turn_at : ℕ → Turn
turn_at n = record { arc = n / 2; back = eqb (n % 2) 1 }

turn_at-even : (k : ℕ) → turn_at (2 * k) ≡ record { arc = k; back = false }
turn_at-even k =
    let a : 2 * k / 2 ≡ k = omega arith in
    let b : 2 * k % 2 ≡ 0 = omega arith in
    rw (a, b) refl

turn_at-odd : (k : ℕ) → turn_at (2 * k + 1) ≡ record { arc = k; back = true }
turn_at-odd k =
    let a : (2 * k + 1) / 2 ≡ k = omega arith in
    let b : (2 * k + 1) % 2 ≡ 1 = omega arith in
    rw (a, b) refl

at_number : (k : ℕ) (b : Bool) → turn_at (2 * k + cond b 1 0) ≡ record { arc = k; back = b }
at_number k true = turn_at-odd k
at_number k false = let e : 2 * k + 0 ≡ 2 * k = omega arith in rw e (turn_at-even k)

turn_number-turn_at : (n : ℕ) → turn_number (turn_at n) ≡ n
turn_number-turn_at n =
    elim (cases_eq (n % 2) 1) [
      | inl odd ↦ rw (eq-eqb (n % 2) 1 odd) (omega arith)
      | inr even ↦ rw (ne_eqb (n % 2) 1 even) (omega arith)
    ]

-- what comes into the node where a turn begins over its arc
abbrev pub come_over : List ℕ → Turn → ℤ
come_over flow t = cond t.back (pos (slice_index flow t.arc)) (neg_ℤ (pos (slice_index flow t.arc)))

-- what comes into node v by the turn of number n
abbrev pub share : Network → List ℕ → ℕ → ℕ → ℤ
share net flow v n = cond (eqb (turn_from net (turn_at n)) v) (come_over flow (turn_at n)) (pos 0)

share_of : (net : Network) (flow : List ℕ) (v : ℕ) (t : Turn) → Leaves net v t → share net flow v (turn_number t) ≡ come_over flow t
share_of net flow v t out =
    ap (λ u. cond (eqb (turn_from net u) v) (come_over flow u) (pos 0)) (at_number t.arc t.back)
    ∙ ap (λ b. cond b (come_over flow t) (pos 0)) (eq-eqb (turn_from net t) v out.from)

sum_below-tail : (m n : ℕ) (f : ℕ → ℤ) → m ≤ n → ((k : ℕ) → m ≤ k → k < n → f k ≡ pos 0) → sum_below n f ≡ sum_below m f
unfolding sum_below
sum_below-tail m zero f l h = let e : m ≡ 0 = omega arith in rw e refl
sum_below-tail m (suc n) f l h =
    elim (cases_eq m (suc n)) [
      | inl e ↦ rw e refl
      | inr ne ↦
          let rest = sum_below-tail m n f (omega arith) (λ k a b. h k a (omega arith)) in
          omega (arith, ints, rest, h n (omega arith) (omega arith))
    ]

limit_within : (net : Network) (v n : ℕ) (found : Option Turn) → IsLastBelow net v n found → turn_limit found ≤ n
limit_within net v n None h = omega arith
limit_within net v n (Some t) h = let l = h.below t refl in omega arith

-- between a number and the last turn below it that begins at v nothing comes in
pub down_to_last : (net : Network) (flow : List ℕ) (v n : ℕ) (found : Option Turn) → n ≤ 2 * arc_count net → IsLastBelow net v n found
    → sum_below n (share net flow v) ≡ sum_below (turn_limit found) (share net flow v)
down_to_last net flow v n found few h =
    sum_below-tail (turn_limit found) n (share net flow v) (limit_within net v n found h) (λ k past low.
    elim (cases_eq (turn_from net (turn_at k)) v) [
      | inl here ↦
          let e = turn_number-turn_at k in
          let l : k / 2 < arc_count net = omega arith in
          let last = h.last (turn_at k) (record { arc = l; from = here }) (omega arith) in
          absurd (omega arith)
      | inr away ↦ ap (λ b. cond b (come_over flow (turn_at k)) (pos 0)) (ne_eqb (turn_from net (turn_at k)) v away)
    ])

-- a turn's own part
pub over_turn : (net : Network) (flow : List ℕ) (v : ℕ) (t : Turn) → Leaves net v t
    → sum_below (turn_number t + 1) (share net flow v) ≡ sum_below (turn_number t) (share net flow v) +ℤ come_over flow t
unfolding sum_below
over_turn net flow v t out =
    let e : turn_number t + 1 ≡ suc (turn_number t) = omega arith in
    ap (λ n. sum_below n (share net flow v)) e ∙ ap (λ z. sum_below (turn_number t) (share net flow v) +ℤ z) (share_of net flow v t out)

in_pairs : (n : ℕ) (f : ℕ → ℤ) → sum_below (2 * n) f ≡ sum_below n (λ k. f (2 * k + 1) +ℤ f (2 * k))
unfolding sum_below
in_pairs zero f = refl
in_pairs (suc n) f =
    let e : 2 * suc n ≡ suc (suc (2 * n)) = omega arith in
    let d : suc (2 * n) ≡ 2 * n + 1 = omega arith in
    ap (λ m. sum_below m f) e ∙ omega (arith, ints, in_pairs n f, ap f d)

arc_share : (net : Network) (flow : List ℕ) (v k : ℕ)
    → share net flow v (2 * k + 1) +ℤ share net flow v (2 * k)
    ≡ cond (eqb (arc_at net k).to v) (pos (slice_index flow k)) (pos 0) -ℤ cond (eqb (arc_at net k).from v) (pos (slice_index flow k)) (pos 0)
arc_share net flow v k =
    let at : Turn → ℤ = λ u. cond (eqb (turn_from net u) v) (come_over flow u) (pos 0) in
    let odd : share net flow v (2 * k + 1) ≡ at (record { arc = k; back = true }) = ap at (turn_at-odd k) in
    let even : share net flow v (2 * k) ≡ at (record { arc = k; back = false }) = ap at (turn_at-even k) in
    let out = negated (eqb (arc_at net k).from v) (pos (slice_index flow k)) in
    omega (arith, ints, odd, even, out)
  where
    negated : (b : Bool) (x : ℤ) → cond b (neg_ℤ x) (pos 0) ≡ neg_ℤ (cond b x (pos 0))
    negated true x = refl
    negated false x = refl

-- all turns
pub all_turns : (net : Network) (flow : List ℕ) (v : ℕ) → sum_below (2 * arc_count net) (share net flow v) ≡ into net flow v -ℤ out_of net flow v
unfolding into out_of
all_turns net flow v =
    in_pairs (arc_count net) (share net flow v)
    ∙ sum_below-ext (arc_count net) _ _ (λ k l. arc_share net flow v k)
    ∙ sum_below-sub (arc_count net) _ _

-- in the middle of a walk over the turns that begin at v: what is left, and how large the sum is
pub record IsSummed (net : Network) (flow : List ℕ) (v : ℕ) (sum : ℤ) (next : Option Turn) : Type 0 where
  pub left : sum +ℤ sum_below (turn_limit next) (share net flow v) ≡ into net flow v -ℤ out_of net flow v
  pub near : IsWithin ((2 * arc_count net - turn_limit next) * 2 ^ 30) sum
  pub few : turn_limit next ≤ 2 * arc_count net
  pub leaves : (t : Turn) → next ≡ Some t → Leaves net v t

pub summed-none : (net : Network) (flow : List ℕ) (v : ℕ) (first : Option Turn) → IsLastBelow net v (2 * arc_count net) first → IsSummed net flow v (pos 0) first
summed-none net flow v first h = record {
  left = omega (arith, ints, down_to_last net flow v (2 * arc_count net) first (omega arith) h, all_turns net flow v);
  near = record { low = omega (arith, ints); high = omega (arith, ints) };
  few = limit_within net v (2 * arc_count net) first h;
  leaves = h.leaves;
}

pub summed-all : (net : Network) (flow : List ℕ) (v : ℕ) (sum : ℤ) → IsSummed net flow v sum None → sum ≡ into net flow v -ℤ out_of net flow v
unfolding sum_below
summed-all net flow v sum h = omega (arith, ints, h.left)

come_near : (b : Bool) (x : ℕ) → x ≤ 2 ^ 30 → IsWithin (2 ^ 30) (cond b (pos x) (neg_ℤ (pos x)))
come_near true x h = record { low = omega (arith, ints); high = omega (arith, ints) }
come_near false x h = record { low = omega (arith, ints); high = omega (arith, ints) }

pub summed-more : (net : Network) (flow : List ℕ) (v : ℕ) (sum : ℤ) (t : Turn) (after : Option Turn) → IsSummed net flow v sum (Some t)
    → slice_index flow t.arc ≤ 2 ^ 30 → IsLastBelow net (turn_from net t) (turn_number t) after → IsSummed net flow v (sum +ℤ come_over flow t) after
summed-more net flow v sum t after h few last =
    let out = h.leaves t refl in
    let here : IsLastBelow net v (turn_number t) after = subst (λ w. IsLastBelow net w (turn_number t) after) out.from last in
    let bound = h.few in
    let limit = limit_within net v (turn_number t) after here in
    let come = come_near t.back (slice_index flow t.arc) few in
    record {
      left = omega (arith, ints, h.left, over_turn net flow v t out, down_to_last net flow v (turn_number t) after (omega arith) here);
      near = record {
        low = omega (arith, ints, h.near.low, come.low);
        high = omega (arith, ints, h.near.high, come.high);
      };
      few = omega arith;
      leaves = here.leaves;
    }

-- the sum that the code makes fits, and is that sum
pub code_sum : (net : Network) (flow : List ℕ) (v : ℕ) (sum come : ℤ) (t : Turn) → arc_count net ≤ 2 ^ 20 → IsSummed net flow v sum (Some t)
    → slice_index flow t.arc ≤ 2 ^ 30 → come ≡ come_over flow t
    → FitsSigned w64 (sum +ℤ to_z w64 (of_z w64 come)) × (to_z w64 (of_z w64 (sum +ℤ to_z w64 (of_z w64 come))) ≡ sum +ℤ come_over flow t)
code_sum net flow v sum come t arcs h few e =
    let near = come_near t.back (slice_index flow t.arc) few in
    let come_fits : FitsSigned w64 come = rw e (omega (arith, ints, near.low, near.high)) in
    let whole : FitsSigned w64 (sum +ℤ come) = rw e (omega (arith, ints, near.low, near.high, h.near.low, h.near.high)) in
    rw (to_z-of_z w64 come come_fits) (whole, to_z-of_z w64 (sum +ℤ come) whole ∙ ap (λ z. sum +ℤ z) e)
