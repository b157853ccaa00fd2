-- The common denominator and the sum of a schema whose shares are shares.
use Rattle.std.proofs.Common.{ℕ, ◌≡◌, ◌≤◌, ◌*◌, ◌↔◌, Option, Some, None, IsSome, IsNone, arith, refl, sym, ap, subst}
use Rattle.std.specs.Int.{◌∣◌}
use Rattle.std.specs.List.{sum_by}
use Rattle.tda_frac.specs.Fraction as frac
use Rattle.tda_frac.specs.Fraction.{IsFracOf}
use Rattle.tda_model.specs.Schema.{Schema}
use Rattle.tda_model.specs.Deviation.{weight_of}
use Rattle.tda_schema.specs.Stated.{fraction_of}
use Rattle.tda_schema.specs.Shares.{LevelsArePaid, QueriesDivide, LevelsDivide, queries_of, common_of, spent_of}
use Rattle.tda_schema.proofs.Commons.{HaveDenominators, denominators, paid_in, multiples, le-common_after}
use Rattle.tda_schema.proofs.Weights.{All-by_level, spent_is, lowest_parts}

module _ (s : Schema) (paid : LevelsArePaid s.levels) where
  pub have_denominators : HaveDenominators (queries_of s)
  have_denominators = denominators (queries_of s) (paid_in s.levels paid)

  pub some_common : 1 ≤ common_of s
  some_common = le-common_after 1 (queries_of s) (omega arith) have_denominators

  pub queries_divide : QueriesDivide (common_of s) (queries_of s)
  queries_divide = (multiples 1 (queries_of s) have_denominators).1

  pub levels_divide : LevelsDivide (common_of s) s.levels
  levels_divide = All-by_level (λ q. q.share.den ∣ common_of s) s.levels queries_divide

  pub sum_is : (m w : ℕ) (f : frac.Fraction) → m ≡ common_of s → w ≡ sum_by (weight_of m) (queries_of s) → IsFracOf f (record { num = w; den = m }) → fraction_of f ≡ spent_of s
  sum_is m w f common weights is =
      let above : 1 ≤ common_of s = some_common in
      let some : 1 ≤ m = omega arith in
      let parts : QueriesDivide m (queries_of s) = subst (λ n. QueriesDivide n (queries_of s)) (sym common) queries_divide in
      let sum = subst (λ n. IsFracOf f (record { num = n; den = m })) weights is in
      ap fraction_of (spent_is m (queries_of s) f some have_denominators parts sum)

  -- the sum of the shares is so many common parts as the weights together
  pub spent_parts : (spent_of s).num * common_of s ≡ sum_by (weight_of (common_of s)) (queries_of s) * (spent_of s).den
  spent_parts = lowest_parts (common_of s) (queries_of s) have_denominators queries_divide

pub some_where_positive : (o : Option frac.Fraction) (d : ℕ) → IsNone o ↔ (d ≡ 0) → 1 ≤ d → IsSome o
some_where_positive None d none some = absurd (omega (arith, none.0 refl))
some_where_positive (Some f) d none some = refl
