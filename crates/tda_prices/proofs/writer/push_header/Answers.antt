use Rattle.std.proofs.lemmas.Result.{on_ok_weaker}
use Rattle.std.specs.Prelude.{codes}
use Rattle.tda_prices.proofs.Writing.{five_fields}
use Rattle.tda_prices.proofs.writer.push_header.Goals as goal

pub returns-clause-ok : goal.returns-clause-ok
returns-clause-ok c =
    on_ok_weaker c.push_field-5.result
    (λ last. five_fields c.args.out.now.items c.push_field.new.out.items c.push_field-2.new.out.items c.push_field-3.new.out.items c.push_field-4.new.out.items c.push_field-5.new.out.items
    (codes "fit") (codes "part") (codes "unit") (codes "item") (codes "price")
    c.in_ok-push_field.ensures.ok c.in_ok-push_field-2.ensures.ok c.in_ok-push_field-3.ensures.ok c.in_ok-push_field-4.ensures.ok last)
    c.push_field-5.ensures.ok
