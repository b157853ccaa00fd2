use Rattle.std.proofs.Common.{rules}
use Rattle.tda_command.proofs.Values.{count_by-map}
use Rattle.tda_command.proofs.words.having.Goals as goal

pub returns : goal.returns
returns c = simp count_by-map (search rules)
