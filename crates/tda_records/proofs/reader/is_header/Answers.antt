use Rattle.std.proofs.Common.{◌≡◌, ◌+◌, ◌<◌, ◌∙◌, [], ap, arith, get_or, length, refl, sym}
use Rattle.tda_records.specs.Records.{header}
use Rattle.tda_io.proofs.Headers.{field_agrees, field_differs}
use Rattle.tda_records.proofs.HeaderLemmas.{header-long, header_name, other_width}
use Rattle.tda_records.proofs.reader.is_header.Goals as goal
use Rattle.tda_records.proofs.reader.is_header.Goals.{then-len-attributes-via-then-len-attributes, then-len-attributes-via-else-len-attributes+then-ne}

pub returns-then-len-attributes-clause-header : goal.returns-then-len-attributes-clause-header
returns-then-len-attributes-clause-header c =
    let s = c.args.schema.now in
    let row = c.args.row.now.row in
    elim c.then-len-attributes.branch [
      | then-len-attributes-via-then-len-attributes w ↦
          other_width s row (λ e. w.if-len-attributes.true (c.len.ensures ∙ e ∙ ap (λ n. n + 1) (sym c.attributes-attributes.ensures.count)))
      | then-len-attributes-via-else-len-attributes+then-ne w ↦
          let some : 0 < length row = omega (arith, c.len.ensures, w.if-len-attributes.false) in
          field_differs (header s) row _ 0 (omega (arith, header-long s)) some refl w.ne.result (rw (w.as_slice.ensures, w.field.ensures) at w.ne.ensures) w.if-ne.true
    ]

pub returns-then-ne-2-clause-header : goal.returns-then-ne-2-clause-header
returns-then-ne-2-clause-header c =
    let s = c.args.schema.now in
    let row = c.args.row.now.row in
    let a = c.loop-a.a in
    let attributes = c.attributes-attributes.ensures.count in
    let in_x : a + 1 < length (header s) = omega (arith, header-long s, c.loop-a-test.true, attributes) in
    let in_y : a + 1 < length row = omega (arith, c.len.ensures, c.if-len-attributes.false, c.loop-a-test.true) in
    let name : get_or (header s) (a + 1) [] ≡ c.attribute_name.result.now = header_name s a c.attribute_name.result.now (omega (arith, c.loop-a-test.true, attributes)) c.attribute_name.ensures.value in
    field_differs (header s) row _ (a + 1) in_x in_y c.loop-a.invariant c.ne-in-loop-a.result (rw (c.as_bytes.ensures.value, c.field-in-loop-a.ensures, ← name) at c.ne-in-loop-a.ensures) c.if-ne-2.true

pub loop-a-preserved : goal.loop-a-preserved
loop-a-preserved c =
    let s = c.args.schema.now in
    let row = c.args.row.now.row in
    let a = c.loop-a.a in
    let attributes = c.attributes-attributes.ensures.count in
    let in_x : a + 1 < length (header s) = omega (arith, header-long s, c.loop-a-test.true, attributes) in
    let in_y : a + 1 < length row = omega (arith, c.len.ensures, c.if-len-attributes.false, c.loop-a-test.true) in
    let name : get_or (header s) (a + 1) [] ≡ c.attribute_name.result.now = header_name s a c.attribute_name.result.now (omega (arith, c.loop-a-test.true, attributes)) c.attribute_name.ensures.value in
    field_agrees (header s) row _ (a + 1) in_x in_y c.loop-a.invariant c.ne-in-loop-a.result (rw (c.as_bytes.ensures.value, c.field-in-loop-a.ensures, ← name) at c.ne-in-loop-a.ensures) c.if-ne-2.false
