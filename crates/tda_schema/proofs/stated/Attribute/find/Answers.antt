use Rattle.std.proofs.Common.{◌∙◌, sym, string_bytes}
use Rattle.std.specs.Str.{bytes_eq}
use Rattle.tda_schema.proofs.Positions.{position-map}
use Rattle.tda_schema.proofs.stated.Attribute.find.Goals as goal

pub returns : goal.returns
returns c =
    let found = position-map (λ v. bytes_eq v c.args.bytes.now) (λ t. string_bytes t) c.self.inside.values.items in
    rw (← c.self.view_is) (rw c.deref.ensures.value at c.position_in.ensures ∙ sym found)
