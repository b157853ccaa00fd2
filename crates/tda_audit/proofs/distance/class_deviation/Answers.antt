use Rattle.std.proofs.Common.{arith}
use Rattle.tda_audit.proofs.Deviations.{distance, class_is}
use Rattle.tda_audit.proofs.distance.class_deviation.Goals as goal

pub overflow_mul-result : goal.overflow_mul-result
overflow_mul-result g c =
    let d = distance c.args.persons c.args.target c.requires.few c.requires.target in
    let few = (class_is c.args.loss.now.curve c.args.weight c.from.result c.unsigned_abs.result c.args.persons c.args.target _ c.value.result c.requires.weight c.requires.target c.requires.few c.from.ensures d c.value.ensures c.unsigned_abs.ensures.value).1 in
    omega arith

pub returns-clause-value : goal.returns-clause-value
returns-clause-value g c =
    let d = distance c.args.persons c.args.target c.requires.few c.requires.target in
    (class_is c.args.loss.now.curve c.args.weight c.from.result c.unsigned_abs.result c.args.persons c.args.target _ c.value.result c.requires.weight c.requires.target c.requires.few c.from.ensures d c.value.ensures c.unsigned_abs.ensures.value).0

pub returns-clause-limit : goal.returns-clause-limit
returns-clause-limit g c =
    let d = distance c.args.persons c.args.target c.requires.few c.requires.target in
    (class_is c.args.loss.now.curve c.args.weight c.from.result c.unsigned_abs.result c.args.persons c.args.target _ c.value.result c.requires.weight c.requires.target c.requires.few c.from.ensures d c.value.ensures c.unsigned_abs.ensures.value).1
