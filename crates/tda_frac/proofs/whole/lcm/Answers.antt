use Rattle.tda_frac.proofs.Multiples.{IsLcm-product, IsLcm-unique}
use Rattle.tda_frac.proofs.Narrow.{value_of_narrow, fits_of_narrow}
use Rattle.tda_frac.specs.Whole.{IsLcm}
use Rattle.tda_frac.proofs.whole.lcm.Goals as goal

pub returns-clause-multiple : goal.returns-clause-multiple
returns-clause-multiple c =
    value_of_narrow c.checked_mul.result _ (IsLcm c.args.a c.args.b) (IsLcm-product c.args.a c.args.b c.gcd.result (c.gcd.ensures.some c.requires.b) c.gcd.ensures.divisor) c.checked_mul.ensures

pub returns-clause-fits : goal.returns-clause-fits
returns-clause-fits c =
    let product = IsLcm-product c.args.a c.args.b c.gcd.result (c.gcd.ensures.some c.requires.b) c.gcd.ensures.divisor in
    fits_of_narrow c.checked_mul.result _ (IsLcm c.args.a c.args.b) product (λ m h. IsLcm-unique c.args.a c.args.b m _ h product) c.checked_mul.ensures
