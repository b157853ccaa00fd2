use Rattle.std.proofs.Common.{◌∙◌, inr}
use Rattle.tda_io.proofs.OneByOne.{starts}
use Rattle.tda_io.proofs.row_reader.RowReader.new.Goals as goal

pub invariant_of-result : goal.invariant_of-result
invariant_of-result c =
    let made = c.from_reader.ensures in
    let headers = c.has_headers.ensures in
    let flexible = c.flexible.ensures in
    λ reading. starts c.args.bytes.now c.from_reader.result c.requires.limit
    (rw (flexible, headers) at made.trim ∙ c.new.ensures.trim)
    (inr (inr (rw (flexible, headers) at made.has_headers, made.headers)))
    (rw (flexible, headers) at made.config ∙ c.new.ensures.config)
    made.state
    made.source
