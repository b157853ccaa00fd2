use Rattle.std.proofs.Common.{◌∙◌, ◌==◌, ap, sym}
use Rattle.tda_schema.specs.Stated.{query_at}
use Rattle.tda_hist.proofs.ClassCells.{over_whole, class_at, in_class, not_in_class}
use Rattle.tda_hist.proofs.sums.is_in_class.Goals as goal

pub returns-then-possible : goal.returns-then-possible
returns-then-possible c =
    let s = c.args.schema.now in
    let q = query_at s c.args.level c.args.query in
    let whole = over_whole s c.args.level c.args.query c.queries.ensures.over_all c.requires.query in
    let class = class_at s q whole c.args.class c.requires.class in
    ap (λ n. n == c.args.class) c.class_of.ensures
    ∙ sym (in_class s q whole c.args.cell c.args.class (sym c.possible.ensures ∙ c.if-possible.true) class.first class.possible)

pub returns-else-possible : goal.returns-else-possible
returns-else-possible c =
    let s = c.args.schema.now in
    let q = query_at s c.args.level c.args.query in
    let whole = over_whole s c.args.level c.args.query c.queries.ensures.over_all c.requires.query in
    c.if-possible.false ∙ sym (not_in_class s q whole c.args.cell c.args.class (sym c.possible.ensures ∙ c.if-possible.false))
