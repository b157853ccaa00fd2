-- Common denominators, share by share.
use Rattle.std.proofs.Common.{ℕ, suc, ◌≡◌, ◌≤◌, ◌<◌, ◌+◌, ◌*◌, ◌^◌, ◌↔◌, nat_le, Bool, true, false, cond, List, [], ◌∷◌, ◌++◌, length, get_or, take, drop, Option, Some, None, IsSome, IfSome, arith, refl, sym, ap, subst, ◌∙◌}
use Rattle.std.specs.Int.{◌∣◌}
use Rattle.std.specs.List.{All}
use Rattle.std.proofs.Math.Nat.{pos_of_dvd_of_pos, one-dvd, dvd-mul_left, dvd-mul_right, mul-pos}
use Rattle.std.proofs.lemmas.Bool.{le-leb, lt-leb, leb-true, leb-false}
use Rattle.std.proofs.lemmas.List.{take-append-drop, take_more, flat_map_more}
use Rattle.std.proofs.lemmas.List.Concat.{flat_map-append}
use Rattle.std.proofs.lemmas.List.Elements.{All-append, All-cons, All-take, All-drop}
use Rattle.std.proofs.lemmas.List.Sums.{fold-append, fold_more}
use Rattle.std.proofs.lemmas.Nat.Gcd.{dvd_refl, dvd_trans, le_of_dvd}
use Rattle.std.proofs.lemmas.Option.{cond_some}
use Rattle.tda_frac.specs.Whole.{IsLcm}
use Rattle.tda_frac.proofs.Multiples.{IsLcm-unique}
use Rattle.tda_model.specs.Schema.{Query, Level}
use Rattle.tda_schema.specs.Lowest.{lcm}
use Rattle.tda_schema.specs.Shares.{IsShare, QueriesArePaid, LevelsArePaid, queries_in, common_after, IsLeastCommon, limited, denominator_limit}
use Rattle.tda_schema.proofs.LowestTerms.{IsLcm-lcm}

pub limited-within : (m n : ℕ) → m ≡ n → m ≤ denominator_limit → Some m ≡ limited n
limited-within m n is within = let small = le-leb n denominator_limit (omega arith) in rw small (ap Some is)

pub limited-over : (n : ℕ) → denominator_limit < n → None ≡ limited n
limited-over n over = let large = lt-leb n denominator_limit over in rw large refl

pub over-limited : (n : ℕ) → None ≡ limited n → denominator_limit < n
over-limited n none = leb-false n denominator_limit (by (nat_le n denominator_limit) none)
  where
    by : (t : Bool) → None ≡ cond t (Some n) None → t ≡ false
    by true h = cc
    by false h = refl

pub within-limited : (m n : ℕ) → Some m ≡ limited n → (m ≡ n) × (m ≤ denominator_limit)
within-limited m n some =
    let given = cond_some (nat_le n denominator_limit) n m (sym some) in
    let small = leb-true n denominator_limit given.0 in
    (sym given.1, omega (arith, given.1))

-- The code's multiple is the definition's.
pub lcm_found : (a b m : ℕ) → 1 ≤ b → IsLcm a b m → m ≡ lcm a b
lcm_found a b m some multiple = IsLcm-unique a b m (lcm a b) multiple (IsLcm-lcm a b some)

-- where the code has none, the definition's doesn't fit 64 bits
pub lcm_missing : (a b : ℕ) (o : Option ℕ) → 1 ≤ b → o ≡ None → IsSome o ↔ ((m : ℕ) × IsLcm a b m × (m < 2 ^ 64)) → 2 ^ 64 ≤ lcm a b
lcm_missing a b None some none fits =
    let large : lcm a b < 2 ^ 64 → ⊥ = λ below. let found = fits.1 (lcm a b, IsLcm-lcm a b some, below) in absurd cc in
    omega arith
lcm_missing a b (Some m) some none fits = absurd cc

-- each share has a denominator
abbrev pub HaveDenominators : List Query → Type 0
HaveDenominators qs = All (λ q. 1 ≤ q.share.den) qs

pub denominators : (qs : List Query) → QueriesArePaid qs → HaveDenominators qs
denominators qs paid k d below = let share = paid k d below in omega (arith, share.some, share.most)

pub All-tail : {X : Type 0} (P : X → Type 0) (x : X) (xs : List X) → All P (x ∷ xs) → All P xs
All-tail P x xs all k d below = all (suc k) d (omega arith)

pub paid_in : (levels : List Level) → LevelsArePaid levels → QueriesArePaid (queries_in levels)
paid_in [] paid = λ k d below. absurd (omega arith)
paid_in (l ∷ rest) paid = All-append (λ q. IsShare q.share) l.queries (queries_in rest) (paid 0 l (omega arith)) (paid_in rest (All-tail (λ l. QueriesArePaid l.queries) l rest paid))

pub some-lcm : (a b : ℕ) → 1 ≤ a → 1 ≤ b → 1 ≤ lcm a b
some-lcm a b left right = pos_of_dvd_of_pos ((IsLcm-lcm a b right).least (a * b) (dvd-mul_right a b) (dvd-mul_left b a)) (mul-pos left right)

pub le-lcm : (a b : ℕ) → 1 ≤ a → 1 ≤ b → a ≤ lcm a b
le-lcm a b left right = le_of_dvd (some-lcm a b left right) (IsLcm-lcm a b right).first

pub le-common_after : (m : ℕ) (qs : List Query) → 1 ≤ m → HaveDenominators qs → m ≤ common_after m qs
le-common_after m [] some dens = omega arith
le-common_after m (q ∷ qs) some dens =
    let den : 1 ≤ q.share.den = dens 0 q (omega arith) in
    let first = le-lcm m q.share.den some den in
    let rest = le-common_after (lcm m q.share.den) qs (some-lcm m q.share.den some den) (All-tail (λ q. 1 ≤ q.share.den) q qs dens) in
    omega arith

-- what comes later makes it no less
pub common_after-front : (m : ℕ) (xs ys : List Query) → 1 ≤ m → HaveDenominators xs → HaveDenominators ys → common_after m xs ≤ common_after m (xs ++ ys)
common_after-front m xs ys some first second =
    let joined = fold-append (λ m q. lcm m q.share.den) m xs ys in
    let here = le-common_after m xs some first in
    rw joined (le-common_after (common_after m xs) ys (omega arith) second)

module _ (m : ℕ) (some : 1 ≤ m) where
  -- the multiple so far, of the queries of a level
  abbrev pub IsSoFar : List Query → ℕ → ℕ → Type 0
  IsSoFar qs i common = common ≡ common_after m (take i qs)

  module _ (qs : List Query) (paid : QueriesArePaid qs) (i : ℕ) (q : Query) (below : i < length qs) (is : q ≡ get_or qs i q) where
    pub one_more : (common : ℕ) → IsSoFar qs i common → lcm common q.share.den ≡ common_after m (take (i + 1) qs)
    one_more common so_far =
        ap (λ n. lcm n q.share.den) so_far ∙ ap (λ (x : Query). lcm (common_after m (take i qs)) x.share.den) is ∙ sym (fold_more (λ n (x : Query). lcm n x.share.den) m qs i q below)

    -- where that is too large, all is
    pub passes : (common : ℕ) → IsSoFar qs i common → None ≡ limited (lcm common q.share.den) → None ≡ limited (common_after m qs)
    passes common so_far none =
        let dens = denominators qs paid in
        let over = over-limited (lcm common q.share.den) none in
        let here = one_more common so_far in
        let grows = common_after-front m (take (i + 1) qs) (drop (i + 1) qs) some (All-take (λ x. 1 ≤ x.share.den) (i + 1) qs dens) (All-drop (λ x. 1 ≤ x.share.den) (i + 1) qs dens) in
        let whole : common_after m (take (i + 1) qs ++ drop (i + 1) qs) ≡ common_after m qs = ap (common_after m) (take-append-drop (i + 1) qs) in
        limited-over (common_after m qs) (omega arith)

  module _ (levels : List Level) (paid : LevelsArePaid levels) (i : ℕ) (l : Level) (below : i < length levels) (is : l ≡ get_or levels i l) where
    -- with the queries of one more level
    pub one_more_level : (common : ℕ) → common ≡ common_after m (queries_in (take i levels)) → common_after common l.queries ≡ common_after m (queries_in (take (i + 1) levels))
    one_more_level common so_far =
        let front : queries_in (take i levels) ++ (get_or levels i l).queries ≡ queries_in (take (i + 1) levels) = flat_map_more (λ x. x.queries) [] (take i levels) (get_or levels i l) ∙ ap queries_in (sym (take_more levels i l below)) in
        let joined = fold-append (λ n (x : Query). lcm n x.share.den) m (queries_in (take i levels)) (get_or levels i l).queries in
        ap (λ n. common_after n l.queries) so_far ∙ ap (λ (x : Level). common_after (common_after m (queries_in (take i levels))) x.queries) is ∙ sym joined ∙ ap (common_after m) front

    pub passes_level : (common : ℕ) → common ≡ common_after m (queries_in (take i levels)) → None ≡ limited (common_after common l.queries) → None ≡ limited (common_after m (queries_in levels))
    passes_level common so_far none =
        let dens : (n : ℕ) → HaveDenominators (queries_in (take n levels)) = λ n. denominators (queries_in (take n levels)) (paid_in (take n levels) (All-take (λ x. QueriesArePaid x.queries) n levels paid)) in
        let rest = denominators (queries_in (drop (i + 1) levels)) (paid_in (drop (i + 1) levels) (All-drop (λ x. QueriesArePaid x.queries) (i + 1) levels paid)) in
        let over = over-limited (common_after common l.queries) none in
        let here = one_more_level common so_far in
        let grows = common_after-front m (queries_in (take (i + 1) levels)) (queries_in (drop (i + 1) levels)) some (dens (i + 1)) rest in
        let whole : common_after m (queries_in (take (i + 1) levels) ++ queries_in (drop (i + 1) levels)) ≡ common_after m (queries_in levels) =
        ap (common_after m) (sym (flat_map-append (λ x. x.queries) (take (i + 1) levels) (drop (i + 1) levels)) ∙ ap queries_in (take-append-drop (i + 1) levels)) in
        limited-over (common_after m (queries_in levels)) (omega arith)

-- it is a multiple of what came before and of each denominator
pub multiples : (m : ℕ) (qs : List Query) → HaveDenominators qs → (m ∣ common_after m qs) × All (λ q. q.share.den ∣ common_after m qs) qs
multiples m [] dens = (dvd_refl m, λ k d below. absurd (omega arith))
multiples m (q ∷ qs) dens =
    let both = IsLcm-lcm m q.share.den (dens 0 q (omega arith)) in
    let rest = multiples (lcm m q.share.den) qs (All-tail (λ x. 1 ≤ x.share.den) q qs dens) in
    let whole = common_after (lcm m q.share.den) qs in
    (dvd_trans m both.first rest.0, All-cons (λ x. x.share.den ∣ whole) q qs (dvd_trans q.share.den both.second rest.0) rest.1)

-- and it divides each other number that is
pub least_multiple : (m : ℕ) (qs : List Query) (k : ℕ) → HaveDenominators qs → m ∣ k → All (λ q. q.share.den ∣ k) qs → common_after m qs ∣ k
least_multiple m [] k dens first all = first
least_multiple m (q ∷ qs) k dens first all =
    let den : 1 ≤ q.share.den = dens 0 q (omega arith) in
    least_multiple (lcm m q.share.den) qs k (All-tail (λ x. 1 ≤ x.share.den) q qs dens) ((IsLcm-lcm m q.share.den den).least k first (all 0 q (omega arith))) (All-tail (λ x. x.share.den ∣ k) q qs all)

pub least_common : (qs : List Query) → HaveDenominators qs → IsLeastCommon qs (common_after 1 qs)
least_common qs dens = record { multiple = (multiples 1 qs dens).1; least = λ k all. least_multiple 1 qs k dens (one-dvd k) all }

pub least_where_found : (levels : List Level) (o : Option ℕ) → LevelsArePaid levels → o ≡ limited (common_after 1 (queries_in levels)) → IfSome o (IsLeastCommon (queries_in levels))
least_where_found levels None paid is = tt
least_where_found levels (Some m) paid is =
    let qs = queries_in levels in
    subst (IsLeastCommon qs) (sym (within-limited m (common_after 1 qs) is).0) (least_common qs (denominators qs (paid_in levels paid)))
