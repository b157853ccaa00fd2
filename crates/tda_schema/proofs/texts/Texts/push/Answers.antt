use Rattle.tda_schema.proofs.TextLemmas.{text_pushed}
use Rattle.tda_schema.proofs.texts.Texts.push.Goals as goal

pub returns-clause-ok : goal.returns-clause-ok
returns-clause-ok c =
    rw (← c.self.view_is)
    (text_pushed c.self.inside.texts.keys c.insert.new.self.keys c.in_ok-from_slice.field-0 c.args.text.now c.in_ok-from_slice.ensures.items
    (rw c.self.view_is c.requires) c.in_ok-insert.ensures.keys)
