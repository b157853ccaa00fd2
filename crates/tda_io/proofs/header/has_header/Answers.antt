use Rattle.std.proofs.Common.{◌∙◌, sym, refl, arith, []}
use Rattle.std.proofs.lemmas.List.{length-map}
use Rattle.tda_io.specs.Csv.{has_header}
use Rattle.tda_io.proofs.Headers.{no_header, other_header, texts_of, goes_on, stops}
use Rattle.tda_io.proofs.header.has_header.Goals as goal
use Rattle.tda_io.proofs.header.has_header.Goals.{then-len-eq0-via-then-len-eq0, then-len-eq0-via-else-len-eq0+then-width-names}

pub returns-then-len-eq0-clause-header : goal.returns-then-len-eq0-clause-header
returns-then-len-eq0-clause-header c =
    elim c.then-len-eq0.branch [
      | then-len-eq0-via-then-len-eq0 w ↦ no_header (texts_of c.args.names.now) c.args.rows.now (omega (arith, c.len.ensures, w.if-len-eq0.true))
      | then-len-eq0-via-else-len-eq0+then-width-names w ↦
          other_header (texts_of c.args.names.now) c.args.rows.now (λ same. w.if-width-names.true (w.width.ensures ∙ same ∙ (length-map c.args.names.now (λ n. n.now))))
    ]

pub returns-then-ne-clause-header : goal.returns-then-ne-clause-header
returns-then-ne-clause-header c =
    stops c.args.names.now c.args.rows.now c.loop-col.col c.loop-col-test.true (sym c.width.ensures ∙ c.if-width-names.false)
    (record { ref_ptr = (0, 0); now = [] }) (has_header (texts_of c.args.names.now) c.args.rows.now) refl c.loop-col.invariant c.ne.result (rw (c.as_bytes.ensures.value, c.field.ensures) at c.ne.ensures) c.if-ne.true

pub loop-col-preserved : goal.loop-col-preserved
loop-col-preserved c =
    goes_on c.args.names.now c.args.rows.now c.loop-col.col c.loop-col-test.true (sym c.width.ensures ∙ c.if-width-names.false)
    (record { ref_ptr = (0, 0); now = [] }) (has_header (texts_of c.args.names.now) c.args.rows.now) refl c.loop-col.invariant c.ne.result (rw (c.as_bytes.ensures.value, c.field.ensures) at c.ne.ensures) c.if-ne.false
