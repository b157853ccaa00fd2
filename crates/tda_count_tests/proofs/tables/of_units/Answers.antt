use Rattle.std.proofs.Common.{subst, sym}
use Rattle.tda_out.specs.Counts.{AreCountsOf}
use Rattle.tda_out.proofs.RowLemmas.{counts_are}
use Rattle.tda_count_tests.proofs.tables.of_units.Goals as goal

pub set_all-requires : goal.set_all-requires
set_all-requires g c =
    let s = c.args.schema.now in
    let sp = c.args.spine.now in
    subst (AreCountsOf s sp) (sym c.in_ok-tables.ensures) (counts_are s sp (λ unit cell. 0))
