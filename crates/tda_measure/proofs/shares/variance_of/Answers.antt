use Rattle.std.proofs.Common.{◌∙◌, ap, arith}
use Rattle.tda_frac.specs.Fraction.{reciprocal_of}
use Rattle.tda_schema.specs.Shares.{frac_of}
use Rattle.tda_measure.proofs.Variances.{flipped_is}
use Rattle.tda_measure.proofs.shares.variance_of.Goals as goal

pub returns-clause-value : goal.returns-clause-value
returns-clause-value c =
    flipped_is c.in-Some.variance c.share-share.result c.num.ensures.reduced.reduced.denominator c.num.ensures.only c.in-Some.ensures.value
    ∙ ap (λ f. reciprocal_of (frac_of f)) c.share-share.ensures.value

pub returns-clause-numerator_limit : goal.returns-clause-numerator_limit
returns-clause-numerator_limit c =
    let is = flipped_is c.in-Some.variance c.share-share.result c.num.ensures.reduced.reduced.denominator c.num.ensures.only c.in-Some.ensures.value in
    let num = ap (λ f. f.num) is in
    omega (arith, num, c.share-share.ensures.denominator)

pub returns-clause-denominator_limit : goal.returns-clause-denominator_limit
returns-clause-denominator_limit c =
    let is = flipped_is c.in-Some.variance c.share-share.result c.num.ensures.reduced.reduced.denominator c.num.ensures.only c.in-Some.ensures.value in
    let den = ap (λ f. f.den) is in
    omega (arith, den, c.share-share.ensures.limit, c.share-share.ensures.denominator)
