use Rattle.std.proofs.Common.{◌≡◌, ◌<◌, sym, subst}
use Rattle.tda_invar.specs.KindTable.{NumberTable, IsChanged}
use Rattle.tda_invar.proofs.TableLemmas.{number_set}
use Rattle.tda_invar.proofs.kind_table.KindTable.set.Goals as goal

pub returns : goal.returns
returns c =
    let t : NumberTable = record { units = c.self.inside.units; kinds = c.self.inside.kinds; numbers = c.self.inside.numbers.items } in
    let is : t ≡ c.args.self.now = c.self.view_is in
    let lu : c.args.unit < t.units = subst (λ v. c.args.unit < v.units) (sym is) c.requires.unit in
    let lk : c.args.kind < t.kinds = subst (λ v. c.args.kind < v.kinds) (sym is) c.requires.kind in
    rw (c.from.ensures, c.from-2.ensures, sym is) (number_set t c.args.unit c.args.kind c.args.number c.self.invariant.0 lu lk)
