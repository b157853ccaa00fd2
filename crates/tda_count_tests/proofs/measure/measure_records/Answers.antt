use Rattle.std.proofs.Common.{◌≤◌, arith}
use Rattle.std.proofs.lemmas.List.Sums.{count_by-le-length}
use Rattle.tda_hist.specs.TrueTable.{lives_in}
use Rattle.tda_count_tests.proofs.measure.measure_records.Goals as goal

pub measure_tables-requires-clause-few : goal.measure_tables-requires-clause-few
measure_tables-requires-clause-few c = λ u here.
    let all = c.in_ok-tables.ensures.persons u here in
    let part = count_by-le-length (lives_in c.args.spine.now u) c.in_ok-records.records in
    let few = c.in_ok-records.ensures.records.few in
    omega (arith, all, part, few)
