use Rattle.tda_invar.proofs.TotalsLength.{text_length}
use Rattle.tda_invar.proofs.WrittenTotals.{read_back}
use Rattle.tda_invar.proofs.totals_writer.write_totals.Goals as goal

pub returns-then-is_err-clause-read_back : goal.returns-then-is_err-clause-read_back
returns-then-is_err-clause-read_back c = read_back c.args.spine.now c.units.ensures.sound c.args.totals.now c.requires

pub returns-else-is_err-clause-read_back : goal.returns-else-is_err-clause-read_back
returns-else-is_err-clause-read_back c = read_back c.args.spine.now c.units.ensures.sound c.args.totals.now c.requires

pub returns-then-is_err-clause-limit : goal.returns-then-is_err-clause-limit
returns-then-is_err-clause-limit c = text_length c.args.spine.now c.units.ensures.sound c.args.totals.now c.requires

pub returns-else-is_err-clause-limit : goal.returns-else-is_err-clause-limit
returns-else-is_err-clause-limit c = text_length c.args.spine.now c.units.ensures.sound c.args.totals.now c.requires
