use Rattle.std.proofs.Common.{◌≡◌, ◌<◌, ◌∙◌, length, arith, inr, sym}
use Rattle.csv.specs.Records.{cut_from, fields_of}
use Rattle.tda_io.proofs.Gather.{bad, ends_with, fine, fits, goes, smaller, starts}
use Rattle.tda_io.proofs.Tables.{length-rows_by}
use Rattle.tda_io.proofs.rows.read_rows.Goals as goal
use Rattle.tda_io.proofs.rows.read_rows.Goals.{else-count-gt0-via-then-count-gt0+else-len-width, else-count-gt0-via-else-count-gt0}

pub loop-found-init : goal.loop-found-init
loop-found-init c =
    let made = c.from_reader-reader.ensures in
    let headers = c.has_headers.ensures in
    let flexible = c.flexible.ensures in
    rw (c.new-ends.ensures.items, c.in_ok-text.ensures.items) (starts c.args.bytes.now c.from_reader-reader.result
    (rw (flexible, headers) at made.trim ∙ c.new.ensures.trim)
    (inr (inr (rw (flexible, headers) at made.has_headers, made.headers)))
    (rw (flexible, headers) at made.config ∙ c.new.ensures.config)
    made.state
    made.source)

pub returns-then-len-width-clause-bad : goal.returns-then-len-width-clause-bad
returns-then-len-width-clause-bad c =
    let inv = c.loop-found.invariant in
    let read = rw c.if-not-found.false at (c.in-Ok.ensures.reads inv.reads.plain inv.reads.ready) in
    let due = bad _ c.loop-found.reader c.read_byte_record.new.self _ _ _ _ (fields_of c.read_byte_record.new.row) inv read (c.in-Ok.ensures.ready inv.reads.plain) c.if-count-gt0.true (λ same. c.if-len-width.true (c.len.ensures ∙ same)) in
    λ n is. cc (due, is)

pub push_fields-requires-clause-room : goal.push_fields-requires-clause-room
push_fields-requires-clause-room c =
    let inv = c.loop-found.invariant in
    let read = rw c.if-not-found.false at (c.in-Ok.ensures.reads inv.reads.plain inv.reads.ready) in
    let first = c.in-Ok.ensures.ready inv.reads.plain in
    omega (arith, c.requires.limit, fits _ c.loop-found.reader c.read_byte_record.new.self _ _ _ _ (fields_of c.read_byte_record.new.row) inv read first)

pub loop-found-smaller : goal.loop-found-smaller
loop-found-smaller c =
    let inv = c.loop-found.invariant in
    let read = rw c.if-not-found.false at (c.in-Ok.ensures.reads inv.reads.plain inv.reads.ready) in
    smaller _ c.loop-found.reader c.read_byte_record.new.self _ _ _ _ (fields_of c.read_byte_record.new.row) inv read (c.in-Ok.ensures.ready inv.reads.plain)

pub loop-found-preserved : goal.loop-found-preserved
loop-found-preserved c =
    let inv = c.loop-found.invariant in
    let read = rw c.if-not-found.false at (c.in-Ok.ensures.reads inv.reads.plain inv.reads.ready) in
    let made = c.in_ok-push_fields.ensures in
    let same : 0 < c.loop-found.count → length (fields_of c.read_byte_record.new.row) ≡ c.loop-found.width = λ some. elim c.else-count-gt0.branch [
      | else-count-gt0-via-then-count-gt0+else-len-width w ↦ sym w.len.ensures ∙ w.if-len-width.false
      | else-count-gt0-via-else-count-gt0 w ↦ absurd (omega (arith, some, w.if-count-gt0.false))
    ] in
    rw c.len-width.ensures (goes _ c.loop-found.reader c.read_byte_record.new.self _ _ _ _ (fields_of c.read_byte_record.new.row) inv read (c.in-Ok.ensures.ready inv.reads.plain) _ _ same made.fields made.rising made.full made.size)

pub returns-clause-ok : goal.returns-clause-ok
returns-clause-ok c =
    let inv = c.loop-found.invariant in
    let read = rw c.if-not-found.true at (c.in-Ok.ensures.reads inv.reads.plain inv.reads.ready) in
    (ends_with _ c.loop-found.reader c.read_byte_record.new.self _ _ _ _ (fields_of c.read_byte_record.new.row) inv read, fine _ c.loop-found.reader c.read_byte_record.new.self _ _ _ _ (fields_of c.read_byte_record.new.row) inv read)

pub returns-clause-bound : goal.returns-clause-bound
returns-clause-bound c =
    omega (arith, c.loop-found.invariant.fewer, length-rows_by c.loop-found.width c.loop-found.count (cut_from 0 c.loop-found.ends.items c.loop-found.text.items))
