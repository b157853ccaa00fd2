use Rattle.std.proofs.Common.{map, string_bytes, rules}
use Rattle.tda_inputs.proofs.Asked.{path_at}
use Rattle.tda_inputs.proofs.reading.path_of.Goals as goal

pub returns : goal.returns
returns c = rw (path_at (map string_bytes c.args.words.now) c.args.file c.requires) (search rules)
