use Rattle.std.proofs.Common.{◌∙◌, ◌∷◌, [], refl, sym}
use Rattle.std.proofs.lemmas.List.{length-map}
use Rattle.tda_io.specs.Csv.{same_row}
use Rattle.tda_io.proofs.Headers.{goes_on, same_row-long, stops, texts_of}
use Rattle.tda_io.proofs.row_reader.RowReader.has_fields.Goals as goal

pub returns-then-len-fields-clause-same : goal.returns-then-len-fields-clause-same
returns-then-len-fields-clause-same c =
    sym (same_row-long (texts_of c.args.fields.now) c.args.self.now.row (λ same. c.if-len-fields.true (c.len.ensures ∙ sym same ∙ length-map c.args.fields.now (λ n. n.now))))

pub returns-then-ne-clause-same : goal.returns-then-ne-clause-same
returns-then-ne-clause-same c =
    let row = c.args.self.now.row in
    stops c.args.fields.now (row ∷ []) c.loop-col.col c.loop-col-test.true (sym c.len.ensures ∙ c.if-len-fields.false)
    (record { ref_ptr = (0, 0); now = [] }) (same_row (texts_of c.args.fields.now) row) refl c.loop-col.invariant c.ne.result (rw (c.as_bytes.ensures.value, c.field.ensures) at c.ne.ensures) c.if-ne.true

pub loop-col-preserved : goal.loop-col-preserved
loop-col-preserved c =
    let row = c.args.self.now.row in
    goes_on c.args.fields.now (row ∷ []) c.loop-col.col c.loop-col-test.true (sym c.len.ensures ∙ c.if-len-fields.false)
    (record { ref_ptr = (0, 0); now = [] }) (same_row (texts_of c.args.fields.now) row) refl c.loop-col.invariant c.ne.result (rw (c.as_bytes.ensures.value, c.field.ensures) at c.ne.ensures) c.if-ne.false
