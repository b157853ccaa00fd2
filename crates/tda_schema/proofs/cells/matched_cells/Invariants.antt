use Rattle.std.proofs.Common.{◌≡◌, map, take}
use Rattle.tda_model.specs.Cells.{is_listed, all_cells}
use Rattle.tda_schema.proofs.cells.matched_cells.Given as goal

abbrev pub invariant-loop-listed : goal.invariant-loop-listed
invariant-loop-listed l = l.matched.items ≡ map (is_listed l.stated (take l.listed-index l.row)) (all_cells l.stated)
