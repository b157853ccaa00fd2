use Rattle.std.proofs.Common.{map, string_bytes, ◌∙◌, rules}
use Rattle.tda_out.specs.Counts.{Counts}
use Rattle.tda_prices.specs.Kept.{PriceList}
use Rattle.tda_inputs.specs.declared.evidence.Evidence.{Evidence}
use Rattle.tda_inputs.proofs.Stops.{counts_later}
use Rattle.tda_inputs.proofs.Cases.{inputs_halt, tables_halt, prices_halt, all_read}
use Rattle.tda_inputs.proofs.evidence.read_evidence.Goals as goal

pub returns-in_err-inputs : goal.returns-in_err-inputs
returns-in_err-inputs g c =
    let halts = inputs_halt (map string_bytes c.args.words.now) _ _ _ _ c.from_residual.ensures.1 c.in_err-inputs.ensures.inputs c.in_err-inputs.ensures.asked in
    record { evidence = halts.0; asked = halts.1; cause = search rules }

pub returns-in_err-tables : goal.returns-in_err-tables
returns-in_err-tables g c =
    let words = map string_bytes c.args.words.now in
    let halts = tables_halt words c.requires.reads _ _ c.in_ok-inputs.inputs c.in_ok-inputs.ensures.inputs.1 c.in_ok-inputs.ensures.asked _ _ _ c.from_residual-in_err-tables.ensures.1 c.in_err-tables.ensures.file c.in_err-tables.ensures.asked in
    record {
      evidence = halts.0;
      asked = halts.1;
      cause = counts_later Counts Evidence _ _ _ _ _ c.from_residual-in_err-tables.ensures.1 c.in_ok-inputs.ensures.cause c.in_err-tables.ensures.cause;
    }

pub returns-in_err-prices : goal.returns-in_err-prices
returns-in_err-prices g c =
    let words = map string_bytes c.args.words.now in
    let halts = prices_halt words c.requires.reads _ _ c.in_ok-inputs.inputs c.in_ok-inputs.ensures.inputs.1 c.in_ok-inputs.ensures.asked _ c.in_ok-tables.tables c.in_ok-tables.ensures.file c.in_ok-tables.ensures.asked
    _ _ _ c.from_residual-in_err-prices.ensures.1 c.in_err-prices.ensures.file c.in_err-prices.ensures.asked in
    record {
      evidence = halts.0;
      asked = halts.1;
      cause = counts_later PriceList Evidence _ _ _ _ _ c.from_residual-in_err-prices.ensures.1 (c.in_ok-tables.ensures.cause ∙ c.in_ok-inputs.ensures.cause) c.in_err-prices.ensures.cause;
    }

pub returns : goal.returns
returns g c =
    let words = map string_bytes c.args.words.now in
    let all = all_read words c.requires.reads _ _ c.in_ok-inputs.inputs c.in_ok-inputs.ensures.inputs.1 c.in_ok-inputs.ensures.asked _ c.in_ok-tables.tables c.in_ok-tables.ensures.file c.in_ok-tables.ensures.asked
    _ c.in_ok-prices.prices (record { inputs = c.in_ok-inputs.ensures.inputs.0; counts = c.in_ok-tables.ensures.counts; prices = c.in_ok-prices.ensures.prices }) c.in_ok-prices.ensures.file c.in_ok-prices.ensures.asked in
    record { evidence = all.0; asked = all.1; cause = search rules }
