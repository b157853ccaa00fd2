use Rattle.tda_out.proofs.RowLemmas.{counts_zero}
use Rattle.tda_out.proofs.tables.Tables.new.Goals as goal

pub returns : goal.returns
returns c =
    counts_zero c.args.schema.now c.args.spine.now c.units-units.result c.cells-cells.result c.in_ok-counts.counts.items c.units-units.ensures.count c.cells-cells.ensures.count
    (c.in_ok-counts.ensures.items_if_clones_equal (λ y same. same))
