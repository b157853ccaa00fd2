use Rattle.std.proofs.lemmas.List.{map-set}
use Rattle.tda_descent.proofs.tables.UnitTables.put.Goals as goal

pub returns : goal.returns
returns c = rw (← c.self.view_is) (map-set (λ v. v.items) c.self.inside.tables.items c.args.unit c.args.table)
