use Rattle.std.proofs.Common.{◌≡◌, ◌∙◌, ◌++◌, ◌∷◌, refl, [], ap, arith, length, of_z, take, to_z}
use Rattle.std.proofs.lemmas.Int.{ints, to_z-of_z}
use Rattle.std.specs.Int.{w128}
use Rattle.std.specs.Fmt.{decimal, signed_decimal}
use Rattle.tda_io.specs.Texts.{row_text}
use Rattle.tda_io.proofs.Appends.{on_err}
use Rattle.tda_prices.proofs.Writing.{five_fields, grown_start, grows_field, grows_none, grows_on, two_numbers}
use Rattle.tda_prices.proofs.writer.push_price.Goals as goal

pub returns-in_err-push-2-clause-err : goal.returns-in_err-push-2-clause-err
returns-in_err-push-2-clause-err c =
    let start = c.args.out.now.items in
    let first = grows_field start start c.push_field.new.out.items _ _ (grows_none start) c.in_ok-push_field.ensures.ok in
    let second = grows_field start c.push_field.new.out.items c.push_field-2.new.out.items _ _ first c.in_ok-push_field-2.ensures.ok in
    let third = grows_field start c.push_field-2.new.out.items c.push_field-3.new.out.items _ _ second c.in_ok-push_field-3.ensures.ok in
    let fourth = grows_on start c.push_field-3.new.out.items c.push_number.new.out.items _ third c.in_ok-push_number.ensures.ok in
    let fifth = grows_on start c.push_number.new.out.items c.push.new.self.items _ fourth c.in_ok-push.ensures.items in
    let sixth = grows_on start c.push.new.self.items c.push_int.new.out.items _ fifth c.in_ok-push_int.ensures.ok in
    on_err c.from_residual-in_err-push-2.result
    (ap (take (length start)) c.in_err-push-2.ensures.items ∙ grown_start start c.push_int.new.out.items sixth)

pub returns-clause-ok : goal.returns-clause-ok
returns-clause-ok c =
    let start = c.args.out.now.items in
    let price : to_z w128 (of_z w128 c.args.price) ≡ c.args.price = to_z-of_z w128 c.args.price (omega (arith, ints, c.ranges.price.sfits)) in
    five_fields start c.push_field.new.out.items c.push_field-2.new.out.items c.push_field-3.new.out.items (c.push_field-3.new.out.items ++ decimal c.args.place.item ++ 44 ∷ []) c.push-2.new.self.items
    c.as_bytes.result.now c.as_bytes-2.result.now c.as_bytes-3.result.now (decimal c.args.place.item) (signed_decimal c.args.price)
    c.in_ok-push_field.ensures.ok c.in_ok-push_field-2.ensures.ok c.in_ok-push_field-3.ensures.ok refl
    (two_numbers c.push_field-3.new.out.items c.push_number.new.out.items c.push.new.self.items c.push_int.new.out.items c.push-2.new.self.items (decimal c.args.place.item) (signed_decimal c.args.price)
    c.in_ok-push_number.ensures.ok c.in_ok-push.ensures.items (c.in_ok-push_int.ensures.ok ∙ ap (λ z. c.push.new.self.items ++ signed_decimal z) price) c.in_ok-push-2.ensures.items)
    ∙ ap (λ x. start ++ row_text (x ∷ c.as_bytes-2.result.now ∷ c.as_bytes-3.result.now ∷ decimal c.args.place.item ∷ signed_decimal c.args.price ∷ [])) c.as_bytes.ensures.value
    ∙ ap (λ x. start ++ row_text (c.args.place.fit.now ∷ x ∷ c.as_bytes-3.result.now ∷ decimal c.args.place.item ∷ signed_decimal c.args.price ∷ [])) c.as_bytes-2.ensures.value
    ∙ ap (λ x. start ++ row_text (c.args.place.fit.now ∷ c.args.place.part.now ∷ x ∷ decimal c.args.place.item ∷ signed_decimal c.args.price ∷ [])) c.as_bytes-3.ensures.value
