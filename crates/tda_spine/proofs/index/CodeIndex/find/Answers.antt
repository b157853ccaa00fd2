use Rattle.std.proofs.Common.{◌∙◌}
use Rattle.tda_spine.proofs.Finds.{lookup-codes}
use Rattle.tda_spine.proofs.index.CodeIndex.find.Goals as goal

pub returns : goal.returns
returns c = rw (← c.self.view_is) (c.copied.ensures ∙ c.get.ensures.value ∙ lookup-codes c.args.code.now c.self.inside.places.entries)
