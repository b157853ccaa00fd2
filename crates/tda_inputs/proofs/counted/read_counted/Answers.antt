use Rattle.std.proofs.Common.{map, string_bytes, ◌∙◌, rules}
use Rattle.tda_inputs.specs.declared.noise.Noise.{Noise}
use Rattle.tda_inputs.specs.declared.counted.Counted.{Counted}
use Rattle.tda_inputs.proofs.Stops.{counts_later}
use Rattle.tda_inputs.proofs.Surveys.{tables_halt, noise_halts, all_read}
use Rattle.tda_inputs.proofs.counted.read_counted.Goals as goal

pub returns-in_err-tables : goal.returns-in_err-tables
returns-in_err-tables g c =
    let words = map string_bytes c.args.words.now in
    let halts = tables_halt words c.requires.reads _ _ c.in_ok-base.base c.in_ok-base.ensures.base c.in_ok-base.ensures.asked _ _ _ c.from_residual-in_err-tables.ensures.1 c.in_err-tables.ensures.tables c.in_err-tables.ensures.asked in
    record { survey = halts.0; asked = halts.1; cause = search rules }

pub returns-in_err-noise : goal.returns-in_err-noise
returns-in_err-noise g c =
    let words = map string_bytes c.args.words.now in
    let halts = noise_halts words c.requires.reads _ _ c.in_ok-base.base c.in_ok-base.ensures.base c.in_ok-base.ensures.asked _ c.in_ok-tables.tables c.in_ok-tables.ensures.tables c.in_ok-tables.ensures.asked
    _ _ _ c.from_residual-in_err-noise.ensures.1 c.in_err-noise.ensures.noise c.in_err-noise.ensures.asked in
    record {
      survey = halts.0;
      asked = halts.1;
      cause = counts_later Noise Counted _ _ _ _ _ c.from_residual-in_err-noise.ensures.1 (c.in_ok-tables.ensures.cause ∙ c.in_ok-base.ensures.cause) c.in_err-noise.ensures.cause;
    }

pub returns : goal.returns
returns g c =
    let words = map string_bytes c.args.words.now in
    let all = all_read words c.requires.reads _ _ c.in_ok-base.base c.in_ok-base.ensures.base c.in_ok-base.ensures.asked _ c.in_ok-tables.tables c.in_ok-tables.ensures.tables c.in_ok-tables.ensures.asked
    _ c.in_ok-noise.noise c.in_ok-base.ensures.limits c.in_ok-base.ensures.table c.in_ok-tables.ensures.enough c.in_ok-noise.ensures.noise c.in_ok-noise.ensures.asked in
    record { survey = all.0; asked = all.1; cause = search rules }
