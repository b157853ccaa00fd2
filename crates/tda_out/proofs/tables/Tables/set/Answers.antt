use Rattle.std.proofs.Common.{◌∙◌, ap, arith}
use Rattle.tda_out.specs.Counts.{with_count}
use Rattle.tda_out.proofs.RowLemmas.{in_range, rows_changed}
use Rattle.tda_out.proofs.tables.Tables.set.Goals as goal

pub overflow_mul-unit : goal.overflow_mul-unit
overflow_mul-unit c =
    let t = c.self.inside in
    let place = in_range t.units t.cells t.counts.items c.args.self.now c.args.unit c.args.cell c.self.invariant c.self.view_is c.requires.unit c.requires.cell in
    omega (arith, t.counts.ok.0, t.counts.small)

pub overflow_add-unit : goal.overflow_add-unit
overflow_add-unit c =
    let t = c.self.inside in
    let place = in_range t.units t.cells t.counts.items c.args.self.now c.args.unit c.args.cell c.self.invariant c.self.view_is c.requires.unit c.requires.cell in
    omega (arith, t.counts.ok.0, t.counts.small)

pub index_mut-requires : goal.index_mut-requires
index_mut-requires c =
    let t = c.self.inside in
    let place = in_range t.units t.cells t.counts.items c.args.self.now c.args.unit c.args.cell c.self.invariant c.self.view_is c.requires.unit c.requires.cell in
    omega (arith, t.counts.ok.0)

pub returns-clause-ok : goal.returns-clause-ok
returns-clause-ok c =
    let t = c.self.inside in
    let place = in_range t.units t.cells t.counts.items c.args.self.now c.args.unit c.args.cell c.self.invariant c.self.view_is c.requires.unit c.requires.cell in
    rows_changed t.units t.cells t.counts.items c.args.unit c.args.cell c.args.count c.self.invariant.size place.unit place.cell
    ∙ ap (λ rows. with_count rows c.args.unit c.args.cell c.args.count) c.self.view_is
