use Rattle.std.proofs.Common.{◌≡◌, ap}
use Rattle.tda_model.specs.Schema.{Fraction}
use Rattle.tda_schema.specs.Shares.{frac_of}
use Rattle.tda_ledger.specs.declared.row.LedgerRow.{LedgerRow}
use Rattle.tda_ledger.specs.Ledger as spec
use Rattle.tda_ledger.proofs.Rows.{one_more_row}
use Rattle.tda_ledger.proofs.make.push_level.Goals as goal

pub loop-query-preserved : goal.loop-query-preserved
loop-query-preserved c =
    let row : LedgerRow = record { level = c.args.level; query = c.loop-query.query; share = c.share-share.result } in
    let is : row ≡ spec.row_at c.args.schema.now c.args.level c.loop-query.query = ap (λ (f : Fraction). record { level = c.args.level; query = c.loop-query.query; share = frac_of f }) c.share-share.ensures.value in
    one_more_row c.args.schema.now c.args.level c.loop-query.query c.args.rows.now.items c.loop-query.rows.items c.push.new.self.items row c.loop-query.invariant c.in_ok-push.ensures.items is
