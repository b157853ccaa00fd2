use Rattle.std.proofs.Common.{sym}
use Rattle.csv.specs.Records.{fields_of}
use Rattle.csv.proofs.RecordFacts.{field-get}
use Rattle.tda_io.proofs.OneByOne.{is_there}
use Rattle.tda_io.proofs.row_reader.RowReader.field.Goals as goal

pub unwrap-requires : goal.unwrap-requires
unwrap-requires c =
    is_there (fields_of c.self.inside.row) c.args.col (rw (← c.self.view_is) at c.requires) c.get.result c.get.ensures.value

pub returns : goal.returns
returns c =
    let there = rw c.unwrap.ensures at c.get.ensures.value in
    rw (← c.self.view_is) (sym (field-get (fields_of c.self.inside.row) c.args.col c.unwrap.result.now (sym there)))
