use Rattle.std.proofs.Common.{◌≡◌, ◌+◌, ◌∙◌, length, arith, ap}
use Rattle.csv.specs.Records.{fields_of}
use Rattle.tda_io.proofs.Tables.{all_pushed, pushed, row_size-take}
use Rattle.tda_io.proofs.rows.push_fields.Goals as goal

pub overflow_cast-len : goal.overflow_cast-len
overflow_cast-len c =
    let inv = c.loop-field.invariant in
    let there = rw inv.0 at c.in-Some.ensures.steps.1 in
    let size = (pushed _ _ _ _ _ _ c.in-Some.field.now inv.1 there).size in
    let most = row_size-take (c.loop-field.field-iterator.at + 1) (fields_of c.args.row.now) in
    let long : c.len.result ≡ length c.extend_from_slice.new.self.items = c.len.ensures ∙ c.extend_from_slice.new.self.ok.0 in
    omega (arith, long, rw (← c.in_ok-extend_from_slice.ensures.items) at size, most, c.requires.room)

pub loop-field-preserved : goal.loop-field-preserved
loop-field-preserved c =
    let inv = c.loop-field.invariant in
    let step = c.in-Some.ensures.steps in
    let there = rw inv.0 at step.1 in
    let long : c.len.result ≡ length c.extend_from_slice.new.self.items = c.len.ensures ∙ c.extend_from_slice.new.self.ok.0 in
    let more = pushed _ _ _ _ _ _ c.in-Some.field.now inv.1 there in
    (ap (λ r. r.now) step.0 ∙ inv.0, rw (step.2, c.in_ok-push.ensures.items, long, c.in_ok-extend_from_slice.ensures.items) more)

pub returns-clause-fields : goal.returns-clause-fields
returns-clause-fields c =
    let inv = c.loop-field.invariant in
    (all_pushed _ _ _ _ _ _ inv.1 (rw (c.in-None.is, inv.0) at c.next.ensures.steps.1)).0

pub returns-clause-size : goal.returns-clause-size
returns-clause-size c =
    let inv = c.loop-field.invariant in
    (all_pushed _ _ _ _ _ _ inv.1 (rw (c.in-None.is, inv.0) at c.next.ensures.steps.1)).1
