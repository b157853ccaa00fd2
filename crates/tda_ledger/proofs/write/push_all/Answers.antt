use Rattle.std.proofs.Common.{◌≡◌, ◌++◌, codes, ap, ◌∙◌}
use Rattle.std.specs.List.{flat_map}
use Rattle.tda_frac.specs.Fraction.{Fraction}
use Rattle.tda_schema.specs.Shares.{frac_of, spent_of}
use Rattle.tda_ledger.specs.Ledger.{Ledger, rows_of}
use Rattle.tda_ledger.specs.LedgerText as spec
use Rattle.tda_ledger.proofs.Appends.{on_ok, four_parts}
use Rattle.tda_ledger.proofs.write.push_all.Goals as goal

pub returns-clause-ok : goal.returns-clause-ok
returns-clause-ok c =
    let s = c.args.schema.now in
    let spent : c.spent.result ≡ frac_of (spent_of s) = c.spent.ensures.value ∙ ap (λ (l : Ledger). l.spent) c.requires in
    let total : c.total.result ≡ frac_of s.total = c.total.ensures ∙ ap (λ (l : Ledger). l.total) c.requires in
    let third = c.in_ok-push_row.ensures.ok ∙ ap (λ (f : Fraction). c.push_queries.new.out.items ++ spec.share_row (codes "-") (codes "spent") f) spent in
    on_ok c.push_row-2.result c.push_row-2.ensures.ok
    (λ last. four_parts c.args.out.now.items spec.ledger_header (flat_map (spec.query_row s) (rows_of s)) (spec.share_row (codes "-") (codes "spent") (frac_of (spent_of s))) (spec.share_row (codes "-") (codes "total") (frac_of s.total))
    c.push_header.new.out.items c.push_queries.new.out.items c.push_row.new.out.items c.push_row-2.new.out.items
    c.in_ok-push_header.ensures.ok c.in_ok-push_queries.ensures.ok third
    (last ∙ ap (λ (f : Fraction). c.push_row.new.out.items ++ spec.share_row (codes "-") (codes "total") f) total))
