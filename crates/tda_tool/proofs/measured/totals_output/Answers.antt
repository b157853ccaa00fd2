use Rattle.std.proofs.Common.{◌≡◌, subst, Ok}
use Rattle.tda_invar.specs.Totals as totals_file
use Rattle.tda_invar.specs.Totals.{totals_text}
use Rattle.tda_tool.proofs.measured.totals_output.Goals as goal

pub returns-clause-read : goal.returns-clause-read
returns-clause-read c =
    subst (λ t. totals_file.read c.args.counted.now.spine (totals_text c.args.counted.now.spine t) ≡ Ok t) c.in_ok-totals.ensures.totals c.write_totals.ensures.read_back
