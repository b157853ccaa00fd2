use Rattle.std.proofs.Common.{map, string_bytes, ◌∙◌, rules, List, ℤ}
use Rattle.tda_inputs.specs.declared.inputs.Inputs.{Inputs}
use Rattle.tda_inputs.proofs.Stops.{counts_later}
use Rattle.tda_inputs.proofs.Gathered.{invariants_halt, measurements_halt, all_read}
use Rattle.tda_inputs.proofs.inputs.read_inputs.Goals as goal

pub returns-in_err-invariants : goal.returns-in_err-invariants
returns-in_err-invariants g c =
    let words = map string_bytes c.args.words.now in
    let halts = invariants_halt words c.requires.reads _ _ c.in_ok-schema.field-0 c.in_ok-schema.ensures.base c.in_ok-schema.ensures.asked _ _ _ c.from_residual-in_err-invariants.ensures.1 c.in_err-invariants.ensures.given
    c.in_err-invariants.ensures.asked in
    record { inputs = halts.0; asked = halts.1; cause = search rules }

pub returns-in_err-measurements : goal.returns-in_err-measurements
returns-in_err-measurements g c =
    let words = map string_bytes c.args.words.now in
    let halts = measurements_halt words c.requires.reads _ _ c.in_ok-schema.field-0 c.in_ok-schema.ensures.base c.in_ok-schema.ensures.asked _ c.in_ok-invariants.invariants c.in_ok-invariants.ensures.given c.in_ok-invariants.ensures.asked
    _ _ _ c.from_residual-in_err-measurements.ensures.1 c.in_err-measurements.ensures.file c.in_err-measurements.ensures.asked in
    record {
      inputs = halts.0;
      asked = halts.1;
      cause = counts_later (List ℤ) Inputs _ _ _ _ _ c.from_residual-in_err-measurements.ensures.1 (c.in_ok-invariants.ensures.cause ∙ c.in_ok-schema.ensures.cause) c.in_err-measurements.ensures.cause;
    }

pub returns : goal.returns
returns g c =
    let words = map string_bytes c.args.words.now in
    let all = all_read words c.requires.reads _ _ c.in_ok-schema.field-0 c.in_ok-schema.ensures.base c.in_ok-schema.ensures.asked _ c.in_ok-invariants.invariants c.in_ok-invariants.ensures.given c.in_ok-invariants.ensures.asked
    _ c.in_ok-measurements.measurements c.in_ok-measurements.ensures.file c.in_ok-measurements.ensures.asked in
    record {
      inputs = (record { limits = c.in_ok-schema.ensures.limits; joined = c.in_ok-invariants.ensures.joined; measured = c.in_ok-measurements.ensures.measured }, all.0);
      asked = all.1;
      cause = search rules;
    }
