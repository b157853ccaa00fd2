use Rattle.std.proofs.Common.{◌≡◌, ◌∙◌, ◌++◌, ◌∷◌, [], List, ℕ, ℤ, ap, append_assoc, arith, of_z, pos, subst, sym, to_z}
use Rattle.std.proofs.lemmas.Int.{ints, to_z-of_z}
use Rattle.std.specs.Int.{w64, w128}
use Rattle.std.specs.Fmt.{decimal, signed_decimal}
use Rattle.tda_io.specs.Texts.{row_text, IsPlain}
use Rattle.tda_io.proofs.PlainNames.{plain_name}
use Rattle.tda_places.proofs.writer.push_measurement.Goals as goal

pub push_field-requires : goal.push_field-requires
push_field-requires c = subst IsPlain (sym c.as_bytes.ensures.value) (plain_name 16 c.args.code.now c.requires.code)

pub push_field-requires-2 : goal.push_field-requires-2
push_field-requires-2 c = subst IsPlain (sym c.as_bytes-2.ensures.value) (plain_name 32 c.args.query.now c.requires.query)

-- four fields, one after the other
pushed : (o0 o1 o2 o3 o4 o5 o6 a b c d : List ℕ) → o1 ≡ o0 ++ a ++ 44 ∷ [] → o2 ≡ o1 ++ b ++ 44 ∷ [] → o3 ≡ o2 ++ c → o4 ≡ o3 ++ 44 ∷ [] → o5 ≡ o4 ++ d → o6 ≡ o5 ++ 10 ∷ []
    → o6 ≡ o0 ++ row_text (a ∷ b ∷ c ∷ d ∷ [])
pushed o0 o1 o2 o3 o4 o5 o6 a b c d e1 e2 e3 e4 e5 e6 = rw (e6, e5, e4, e3, e2, e1) (simp append_assoc)

pub returns-clause-ok : goal.returns-clause-ok
returns-clause-ok c =
    let start = c.args.out.now.items in
    let a = c.as_bytes.result.now in
    let b = c.as_bytes-2.result.now in
    let whole = λ (z : ℤ). to_z w128 (of_z w128 z) in
    let class : whole c.from.result ≡ pos c.args.class = ap whole c.from.ensures ∙ to_z-of_z w128 (pos c.args.class) (omega (arith, ints, c.ranges.class.fits)) in
    let passed : to_z w64 (of_z w64 c.args.value) ≡ c.args.value = to_z-of_z w64 c.args.value c.ranges.value in
    let value : whole c.from-2.result ≡ c.args.value = ap whole (c.from-2.ensures ∙ passed) ∙ to_z-of_z w128 c.args.value (omega (arith, ints, c.ranges.value.sfits)) in
    pushed start c.push_field.new.out.items c.push_field-2.new.out.items c.push_int.new.out.items c.push.new.self.items c.push_int-2.new.out.items c.push-2.new.self.items a b (signed_decimal (whole c.from.result)) (signed_decimal (whole c.from-2.result))
    c.in_ok-push_field.ensures.ok c.in_ok-push_field-2.ensures.ok c.in_ok-push_int.ensures.ok c.in_ok-push.ensures.items c.in_ok-push_int-2.ensures.ok c.in_ok-push-2.ensures.items
    ∙ ap (λ x. start ++ row_text (x ∷ b ∷ signed_decimal (whole c.from.result) ∷ signed_decimal (whole c.from-2.result) ∷ [])) c.as_bytes.ensures.value
    ∙ ap (λ x. start ++ row_text (c.args.code.now ∷ x ∷ signed_decimal (whole c.from.result) ∷ signed_decimal (whole c.from-2.result) ∷ [])) c.as_bytes-2.ensures.value
    ∙ ap (λ z. start ++ row_text (c.args.code.now ∷ c.args.query.now ∷ signed_decimal z ∷ signed_decimal (whole c.from-2.result) ∷ [])) class
    ∙ ap (λ z. start ++ row_text (c.args.code.now ∷ c.args.query.now ∷ decimal c.args.class ∷ signed_decimal z ∷ [])) value
