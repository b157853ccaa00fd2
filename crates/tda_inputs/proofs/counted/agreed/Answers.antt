use Rattle.std.proofs.Common.{refl, sym, inr}
use Rattle.tda_out.specs.Counts.{count_at}
use Rattle.tda_hist.specs.Agreement.{agree_due}
use Rattle.tda_refusal.specs.Refusal.{hist_text}
use Rattle.tda_inputs.specs.declared.reading.File.TheVariants as file
use Rattle.tda_inputs.proofs.Agreed.{hist_names}
use Rattle.tda_inputs.proofs.Beside.{judged_fault}
use Rattle.tda_inputs.proofs.counted.agreed.Goals as goal

pub refused_beside-requires : goal.refused_beside-requires
refused_beside-requires c = hist_names c.args.schema.now c.args.spine.now c.args.facilities.now (count_at c.args.tables.now) _ (sym c.in-Err.ensures.due)

pub returns-in-Err-clause-judges : goal.returns-in-Err-clause-judges
returns-in-Err-clause-judges c =
    let s = c.args.schema.now in
    let sp = c.args.spine.now in
    judged_fault file.Records (hist_text s sp) (agree_due s sp c.args.facilities.now (count_at c.args.tables.now)) (Unit {0}) c.in-Err.fault _ (sym c.in-Err.ensures.due) c.refused_beside.ensures
    (inr (inr (s, sp, c.in-Err.fault, refl)))
