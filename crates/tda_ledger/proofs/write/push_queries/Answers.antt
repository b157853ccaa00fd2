use Rattle.std.proofs.Common.{◌≡◌, ◌++◌, List, ℕ, take, length, sym, ap, ◌∙◌, arith}
use Rattle.std.specs.List.{flat_map}
use Rattle.std.proofs.Math.Seq.{take-length}
use Rattle.std.proofs.lemmas.Option.{get_or_from_slice_get}
use Rattle.tda_ledger.specs.Ledger.{Ledger}
use Rattle.tda_ledger.specs.LedgerText as spec
use Rattle.tda_ledger.proofs.Appends.{kept_start, on_err, one_more}
use Rattle.tda_ledger.proofs.Rows.{row_kept}
use Rattle.tda_ledger.proofs.write.push_queries.Goals as goal

pub push_query-requires : goal.push_query-requires
push_query-requires c = row_kept c.args.schema.now c.args.ledger.now.rows c.loop-i.i c.row.result (ap (λ (l : Ledger). l.rows) c.requires) c.row.ensures

pub returns-in_err-push_query-clause-err : goal.returns-in_err-push_query-clause-err
returns-in_err-push_query-clause-err c =
    on_err c.from_residual.result
    (kept_start c.args.out.now.items c.loop-i.out.items c.push_query.new.out.items (flat_map (spec.query_row c.args.schema.now) (take c.loop-i.i c.args.ledger.now.rows)) c.loop-i.invariant c.in_err-push_query.ensures.err)

pub loop-i-preserved : goal.loop-i-preserved
loop-i-preserved c =
    let s = c.args.schema.now in
    let rows = c.args.ledger.now.rows in
    let r = c.row.result in
    let is = ap (spec.query_row s) (sym (get_or_from_slice_get rows c.loop-i.i r r c.row.ensures)) in
    one_more (spec.query_row s) rows c.loop-i.i r c.args.out.now.items c.loop-i.out.items c.push_query.new.out.items (spec.query_row s r) (omega arith) c.loop-i.invariant c.in_ok-push_query.ensures.ok is

pub returns-clause-ok : goal.returns-clause-ok
returns-clause-ok c =
    let rows = c.args.ledger.now.rows in
    let all : c.loop-i.i ≡ length rows = omega (arith, c.loop-i-test.false, c.loop-i.auto.i-end) in
    let whole = ap (λ n. take n rows) all ∙ take-length rows ∙ ap (λ (l : Ledger). l.rows) c.requires in
    c.loop-i.invariant ∙ ap (λ rs. c.args.out.now.items ++ flat_map (spec.query_row c.args.schema.now) rs) whole
