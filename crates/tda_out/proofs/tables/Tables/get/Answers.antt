use Rattle.std.proofs.Common.{◌+◌, ◌*◌, ◌∙◌, ap, sym, arith}
use Rattle.std.proofs.lemmas.List.{get_or_read}
use Rattle.tda_out.specs.Counts.{count_at}
use Rattle.tda_out.proofs.RowLemmas.{in_range, in_rows}
use Rattle.tda_out.proofs.tables.Tables.get.Goals as goal

pub overflow_mul-unit : goal.overflow_mul-unit
overflow_mul-unit c =
    let t = c.self.inside in
    let place = in_range t.units t.cells t.counts.items c.args.self.now c.args.unit c.args.cell c.self.invariant c.self.view_is c.requires.unit c.requires.cell in
    omega (arith, t.counts.ok.0, t.counts.small)

pub overflow_add-unit : goal.overflow_add-unit
overflow_add-unit c =
    let t = c.self.inside in
    let place = in_range t.units t.cells t.counts.items c.args.self.now c.args.unit c.args.cell c.self.invariant c.self.view_is c.requires.unit c.requires.cell in
    omega (arith, t.counts.ok.0, t.counts.small)

pub index-requires : goal.index-requires
index-requires c =
    let t = c.self.inside in
    let place = in_range t.units t.cells t.counts.items c.args.self.now c.args.unit c.args.cell c.self.invariant c.self.view_is c.requires.unit c.requires.cell in
    omega (arith, t.counts.ok.0)

pub returns-clause-count : goal.returns-clause-count
returns-clause-count c =
    let t = c.self.inside in
    let place = in_range t.units t.cells t.counts.items c.args.self.now c.args.unit c.args.cell c.self.invariant c.self.view_is c.requires.unit c.requires.cell in
    c.from.ensures ∙ get_or_read t.counts.items (c.args.unit * t.cells + c.args.cell) _ place.below c.index.ensures 0
    ∙ sym (in_rows t.units t.cells t.counts.items c.args.unit c.args.cell place.unit place.cell)
    ∙ ap (λ rows. count_at rows c.args.unit c.args.cell) c.self.view_is

pub returns-clause-limit : goal.returns-clause-limit
returns-clause-limit c =
    let t = c.self.inside in
    let place = in_range t.units t.cells t.counts.items c.args.self.now c.args.unit c.args.cell c.self.invariant c.self.view_is c.requires.unit c.requires.cell in
    let few = c.self.invariant.few (c.args.unit * t.cells + c.args.cell) 0 place.below in
    let read = c.from.ensures ∙ get_or_read t.counts.items (c.args.unit * t.cells + c.args.cell) _ place.below c.index.ensures 0 in
    omega (arith, few, read)
