use Rattle.std.proofs.Common.{◌≡◌, ap, subst, length, IfOk, arith}
use Rattle.tda_schema.proofs.ClassFamilies.{whole_is}
use Rattle.tda_schema.proofs.WholeLemmas.{length-possible}
use Rattle.tda_schema.proofs.classes.whole_family.Goals as goal

pub whole-requires : goal.whole-requires
whole-requires c = omega (arith, ap length c.requires.possible, length-possible c.args.stated.now, c.requires.looked_up.limits.cells)

pub returns : goal.returns
returns c = subst (λ x. IfOk c.whole.result (λ f. f ≡ x)) (whole_is c.args.stated.now c.args.possible.now c.requires.possible) c.whole.ensures
