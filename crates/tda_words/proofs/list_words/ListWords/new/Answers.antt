use Rattle.std.proofs.Common.{arith}
use Rattle.tda_words.proofs.Supplies.{bytes_are_words}
use Rattle.tda_words.proofs.list_words.ListWords.new.Goals as goal

pub invariant_of-result : goal.invariant_of-result
invariant_of-result c = (c.requires.whole, bytes_are_words _ (λ i. omega (arith, c.type_inv.bytes i)) c.requires.limit)
