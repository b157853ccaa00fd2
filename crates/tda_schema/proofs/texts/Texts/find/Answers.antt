use Rattle.std.proofs.Common.{◌∙◌, sym}
use Rattle.std.specs.Str.{bytes_eq}
use Rattle.tda_schema.proofs.Positions.{position-map}
use Rattle.tda_schema.proofs.texts.Texts.find.Goals as goal

pub returns : goal.returns
returns c = rw (← c.self.view_is) (c.get_index_of.ensures.index ∙ sym (position-map (bytes_eq c.args.text.now) (λ v. v.items) c.self.inside.texts.keys))
