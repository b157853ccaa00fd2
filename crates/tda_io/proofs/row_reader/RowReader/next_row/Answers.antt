use Rattle.std.proofs.Common.{◌≡◌, false, ◌<◌, ◌+◌, ◌∙◌, Some, ap, ◌∷◌, [], arith, refl, sym}
use Rattle.csv.specs.Records.{fields_of}
use Rattle.tda_io.specs.RowReading.{left_of, rest_of}
use Rattle.tda_io.proofs.OneByOne.{differs, ended, ends, fits, goes_on, rest, takes}
use Rattle.tda_io.proofs.row_reader.RowReader.next_row.Goals as goal
use Rattle.tda_io.proofs.row_reader.RowReader.next_row.Goals.{else-self-gt1-via-then-self-gt1+else-len-self, else-self-gt1-via-else-self-gt1}

pub returns-then-not-found : goal.returns-then-not-found
returns-then-not-found c =
    let reading = c.self.invariant c.in-Reading.is in
    let read = rw c.if-not-found.true at (c.in-Ok.ensures.reads reading.reads.plain reading.reads.ready) in
    let none = ended c.self.inside.reader c.read_byte_record.new.self c.self.inside.number (fields_of c.read_byte_record.new.row) reading read in
    let gone : c.args.self.now.rest ≡ [] = rw (← c.self.view_is, c.in-Reading.is) none in
    let number : c.self.inside.number ≡ c.args.self.now.number = rw (← c.self.view_is) refl in
    let width : c.self.inside.width ≡ c.args.self.now.width = rw (← c.self.view_is) refl in
    let sound : c.args.self.now.failed ≡ false = rw (← c.self.view_is, c.in-Reading.is) refl in
    ends c.args.self.now _ gone refl number width sound refl

pub overflow_add-self : goal.overflow_add-self
overflow_add-self c =
    let reading = c.self.invariant c.in-Reading.is in
    let read = rw c.if-not-found.false at (c.in-Ok.ensures.reads reading.reads.plain reading.reads.ready) in
    let few = fits c.self.inside.reader c.read_byte_record.new.self c.self.inside.number (fields_of c.read_byte_record.new.row) reading read (c.in-Ok.ensures.ready reading.reads.plain) in
    omega (arith, few)

pub invariant_of-self-then-len-self : goal.invariant_of-self-then-len-self
invariant_of-self-then-len-self c =
    let reading = c.self.invariant c.in-Reading.is in
    let read = rw c.if-not-found.false at (c.in-Ok.ensures.reads reading.reads.plain reading.reads.ready) in
    λ _. goes_on c.self.inside.reader c.read_byte_record.new.self c.self.inside.number (fields_of c.read_byte_record.new.row) reading read (c.in-Ok.ensures.ready reading.reads.plain)

pub returns-then-len-self : goal.returns-then-len-self
returns-then-len-self c =
    let reading = c.self.invariant c.in-Reading.is in
    let read = rw c.if-not-found.false at (c.in-Ok.ensures.reads reading.reads.plain reading.reads.ready) in
    let one = rest c.self.inside.reader c.read_byte_record.new.self c.self.inside.number (fields_of c.read_byte_record.new.row) reading read (c.in-Ok.ensures.ready reading.reads.plain) in
    let is : c.args.self.now.rest ≡ fields_of c.read_byte_record.new.row ∷ rest_of c.read_byte_record.new.self.state (left_of c.read_byte_record.new.self) = rw (← c.self.view_is, c.in-Reading.is) one in
    let number : c.args.self.now.number ≡ c.self.inside.number = rw (← c.self.view_is) refl in
    let width : c.args.self.now.width ≡ c.self.inside.width = rw (← c.self.view_is) refl in
    let sound : c.args.self.now.failed ≡ false = rw (← c.self.view_is, c.in-Reading.is) refl in
    record {
      bad = differs c.args.self.now _ _ is (omega (arith, c.if-self-gt1.true, number)) (λ e. c.if-len-self.true (c.len.ensures ∙ e ∙ width)) ∙ ap (λ n. Some (n + 1)) number;
      rest = is ∙ rw c.in-Reading.is refl;
      number = refl;
      next = ap (λ n. n + 1) (sym number);
      width = sym width;
      sound = sound;
      stays_sound = rw c.in-Reading.is refl;
    }

pub invariant_of-self-2 : goal.invariant_of-self-2
invariant_of-self-2 c =
    let reading = c.self.invariant c.in-Reading.is in
    let read = rw c.if-not-found.false at (c.in-Ok.ensures.reads reading.reads.plain reading.reads.ready) in
    λ _. goes_on c.self.inside.reader c.read_byte_record.new.self c.self.inside.number (fields_of c.read_byte_record.new.row) reading read (c.in-Ok.ensures.ready reading.reads.plain)

pub returns : goal.returns
returns c =
    let reading = c.self.invariant c.in-Reading.is in
    let read = rw c.if-not-found.false at (c.in-Ok.ensures.reads reading.reads.plain reading.reads.ready) in
    let one = rest c.self.inside.reader c.read_byte_record.new.self c.self.inside.number (fields_of c.read_byte_record.new.row) reading read (c.in-Ok.ensures.ready reading.reads.plain) in
    let same : 0 < c.self.inside.number → c.len-self-inside.result ≡ c.self.inside.width = λ some. elim c.else-self-gt1.branch [
      | else-self-gt1-via-then-self-gt1+else-len-self w ↦ c.len-self-inside.ensures ∙ sym w.len.ensures ∙ w.if-len-self.false
      | else-self-gt1-via-else-self-gt1 w ↦ absurd (omega (arith, some, w.if-self-gt1.false))
    ] in
    rw (← c.self.view_is, c.in-Reading.is) (takes _ _ one refl c.len-self-inside.ensures same refl refl)
