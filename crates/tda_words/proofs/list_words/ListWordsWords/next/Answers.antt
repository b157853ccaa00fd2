use Rattle.tda_words.proofs.Supplies.{bytes_after_word}
use Rattle.tda_words.proofs.list_words.ListWordsWords.next.Goals as goal

pub invariant_of-self : goal.invariant_of-self
invariant_of-self c = bytes_after_word _ _ c.in-len4-up.len_at_least c.self.invariant.0 c.self.invariant.1
