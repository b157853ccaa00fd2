use Rattle.std.proofs.Common.{◌≡◌, ◌<◌, Some, length, get_or, ap, ◌∙◌, arith, rules}
use Rattle.tda_schema.specs.Parts.{QueryParts}
use Rattle.tda_schema.specs.Stated.{query_at, class_of}
use Rattle.tda_schema.proofs.WholeLemmas.{cell_of_possible, length-classed, class_found}
use Rattle.tda_schema.proofs.readers.Schema.class_of.Goals as goal

pub index-requires : goal.index-requires
index-requires c =
    let s = c.args.self.now in
    let q = query_at s c.args.level c.args.query in
    let items = ap (λ (p : QueryParts). length p.class_of) (c.behind-self.view_is ∙ c.query_parts.ensures) in
    let below = cell_of_possible s c.args.cell c.requires.possible in
    let all = length-classed s q in
    let room : c.args.cell < length c.behind-self.inside.class_of.items = omega (arith, items, below, all) in
    grind (arith, room)

pub unwrap-requires : goal.unwrap-requires
unwrap-requires c =
    let s = c.args.self.now in
    let q = query_at s c.args.level c.args.query in
    let items = ap (λ (p : QueryParts). get_or p.class_of c.args.cell c.index.result.now) (c.behind-self.view_is ∙ c.query_parts.ensures) in
    let found : c.index.result.now ≡ Some (class_of s q c.args.cell) = c.index.ensures ∙ items ∙ class_found s q c.args.cell c.index.result.now c.requires.possible in
    rw found (search rules)

pub returns : goal.returns
returns c =
    let s = c.args.self.now in
    let q = query_at s c.args.level c.args.query in
    let items = ap (λ (p : QueryParts). get_or p.class_of c.args.cell c.index.result.now) (c.behind-self.view_is ∙ c.query_parts.ensures) in
    let found : c.index.result.now ≡ Some (class_of s q c.args.cell) = c.index.ensures ∙ items ∙ class_found s q c.args.cell c.index.result.now c.requires.possible in
    cc
