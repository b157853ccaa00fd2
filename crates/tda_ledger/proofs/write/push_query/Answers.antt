use Rattle.std.proofs.Common.{◌≡◌, List, ℕ, subst, sym, ap, ◌∙◌}
use Rattle.tda_io.specs.Texts.{IsPlain}
use Rattle.tda_model.specs.Schema.{Level}
use Rattle.tda_schema.specs.Stated.{level_at, query_at}
use Rattle.tda_io.proofs.PlainNames.{plain_name}
use Rattle.tda_ledger.proofs.Rows.{named_at}
use Rattle.tda_ledger.proofs.write.push_query.Goals as goal

pub push_row-requires-clause-first : goal.push_row-requires-clause-first
push_row-requires-clause-first c = subst IsPlain (sym c.as_bytes.ensures.value) (plain_name 32 _ c.level_name-level.ensures.name)

pub push_row-requires-clause-second : goal.push_row-requires-clause-second
push_row-requires-clause-second c = subst IsPlain (sym c.as_bytes-2.ensures.value) (plain_name 32 _ c.query_name-query.ensures.name)

pub returns-clause-ok : goal.returns-clause-ok
returns-clause-ok c =
    let s = c.args.schema.now in
    let r = c.args.row in
    let level : c.as_bytes.result.now ≡ (level_at s r.level).name = c.as_bytes.ensures.value ∙ named_at (λ l. l.name) s.levels r.level _ c.level_name-level.result.now c.requires.level c.level_name-level.ensures.value in
    let query : c.as_bytes-2.result.now ≡ (query_at s r.level r.query).name = c.as_bytes-2.ensures.value ∙ c.query_name-query.ensures.value in
    rw (level, query) at c.push_row.ensures.ok
