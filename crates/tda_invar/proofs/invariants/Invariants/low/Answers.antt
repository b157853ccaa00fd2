use Rattle.std.proofs.Common.{◌∙◌, ap}
use Rattle.tda_invar.specs.KindTable.{number_at}
use Rattle.tda_invar.proofs.Existence.{low_is}
use Rattle.tda_invar.proofs.invariants.Invariants.low.Goals as goal

pub returns-clause-low : goal.returns-clause-low
returns-clause-low c = λ s sp j.
    c.get.ensures.number
    ∙ ap (λ v. number_at v.lows c.args.unit c.args.kind) c.self.view_is
    ∙ low_is s sp c.args.self.now j c.args.unit c.args.kind c.requires.unit c.requires.kind
