use Rattle.std.proofs.Common.{map, string_bytes}
use Rattle.tda_inputs.proofs.Surveys.{tables_given, tables_disagree, tables_unread}
use Rattle.tda_inputs.proofs.counted.read_tables.Goals as goal

pub returns-in_err-agreed-clause-tables : goal.returns-in_err-agreed-clause-tables
returns-in_err-agreed-clause-tables g c =
    tables_disagree (map string_bytes c.args.words.now) c.args.base.now _ c.in_ok-records.records _ c.in_ok-tables.ensures.ok c.in_ok-records.ensures.file _ _ c.from_residual-in_err-agreed.ensures.1 c.in_err-agreed.ensures.judges

pub returns-clause-tables : goal.returns-clause-tables
returns-clause-tables g c =
    tables_given (map string_bytes c.args.words.now) c.args.base.now _ c.in_ok-records.records _ c.in_ok-tables.ensures.ok c.in_ok-records.ensures.file tt c.in_ok-agreed.ensures.judges

pub returns-clause-enough : goal.returns-clause-enough
returns-clause-enough g c = c.in_ok-agreed.ensures.enough c.in_ok-tables.ensures.ok.blocks

pub returns-in_err-records-clause-tables : goal.returns-in_err-records-clause-tables
returns-in_err-records-clause-tables g c =
    tables_unread (map string_bytes c.args.words.now) c.args.base.now _ _ _ c.from_residual.ensures.1 c.in_err-records.ensures.file
