use Rattle.std.proofs.Common.{arith}
use Rattle.tda_model.specs.Groups.{kind_count}
use Rattle.tda_out.specs.Counts.{count_at}
use Rattle.tda_hist.specs.Agreement.{faults_at}
use Rattle.tda_hist.proofs.Agreeing.{number_empty, number_found, no_number}
use Rattle.tda_hist.proofs.agreement.block_fault.Goals as goal

pub returns-in-Some : goal.returns-in-Some
returns-in-Some c =
    number_found (faults_at c.args.schema.now c.args.facilities.now (count_at c.args.tables.now) c.args.block) (kind_count c.args.schema.now) c.loop-kind.kind c.loop-kind.invariant
    (omega (arith, c.loop-kind-test.true, c.kinds-kind-end.ensures.count)) c.in-Some.fault c.in-Some.ensures

pub loop-kind-preserved : goal.loop-kind-preserved
loop-kind-preserved c =
    number_empty (faults_at c.args.schema.now c.args.facilities.now (count_at c.args.tables.now) c.args.block) (kind_count c.args.schema.now) c.loop-kind.kind c.loop-kind.invariant
    (omega (arith, c.loop-kind-test.true, c.kinds-kind-end.ensures.count)) c.in_default.ensures

pub returns : goal.returns
returns c =
    no_number (faults_at c.args.schema.now c.args.facilities.now (count_at c.args.tables.now) c.args.block) (kind_count c.args.schema.now) c.loop-kind.kind c.loop-kind.invariant
    (omega (arith, c.loop-kind-test.false, c.kinds-kind-end.ensures.count))
