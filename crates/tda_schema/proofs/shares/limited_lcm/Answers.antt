use Rattle.std.proofs.Common.{arith}
use Rattle.tda_schema.proofs.Commons.{limited-within, limited-over, lcm_found, lcm_missing}
use Rattle.tda_schema.proofs.shares.limited_lcm.Goals as goal

pub returns-in-Some : goal.returns-in-Some
returns-in-Some c =
    let is = lcm_found c.args.first c.args.second c.in-Some.multiple c.requires.second c.in-Some.ensures.multiple in
    limited-within _ _ is (omega arith)

pub returns-in_default : goal.returns-in_default
returns-in_default c =
    let is = lcm_found c.args.first c.args.second c.in-Some.multiple c.requires.second c.in-Some.ensures.multiple in
    limited-over _ (omega arith)

pub returns-in_default-2 : goal.returns-in_default-2
returns-in_default-2 c =
    let over = lcm_missing c.args.first c.args.second c.lcm.result c.requires.second c.in_default.is c.lcm.ensures.fits in
    limited-over _ (omega arith)
