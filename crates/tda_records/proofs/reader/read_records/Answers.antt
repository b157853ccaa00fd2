use Rattle.std.proofs.Common.{◌≡◌, ◌∙◌, arith, sym}
use Rattle.tda_io.specs.RowReading.{bad_rest, unread}
use Rattle.tda_records.proofs.Gathering.{rest_few, tells_bad}
use Rattle.tda_records.proofs.reader.read_records.Goals as goal
use Rattle.tda_records.proofs.reader.read_records.Goals.{then-not-branch-via-then-not-branch, then-not-branch-via-else-not-branch+then-not-is_header}

pub returns-in_err-finish-clause-given : goal.returns-in_err-finish-clause-given
returns-in_err-finish-clause-given c =
    let text = c.args.bytes.now in
    let same : bad_rest c.next_row.new.self ≡ bad_rest (unread text) = elim c.then-not-branch.branch [
      | then-not-branch-via-then-not-branch w ↦
          let ends = rw (w.if-not-branch.true, c.new-rows.ensures) at c.in_ok-next_row.ensures in
          ends.stays_even ∙ sym ends.even
      | then-not-branch-via-else-not-branch+then-not-is_header w ↦
          let takes = rw (w.if-not-branch.false, c.new-rows.ensures) at c.in_ok-next_row.ensures in
          takes.bad
    ] in
    tells_bad text c.next_row.new.self c.in_err-finish.field-0.0 c.from_residual-in_err-finish.result c.from_residual-in_err-finish.ensures.1 c.in_err-finish.ensures same c.args.schema.now c.args.spine.now

pub records_of-requires-clause-few : goal.records_of-requires-clause-few
records_of-requires-clause-few c =
    let takes = rw c.if-not-branch.false at c.in_ok-next_row.ensures in
    rest_few c.args.bytes.now c.next_row.new.self (rw c.new-rows.ensures at takes) (omega (arith, c.if-not-is_header.ensures.width)) c.requires.limit
