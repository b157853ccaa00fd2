use Rattle.tda_words.proofs.Supplies.{stream_is_words}
use Rattle.tda_words.proofs.seed_words.SeedWordsWords.taken.Goals as goal

pub returns-clause-known : goal.returns-clause-known
returns-clause-known c = rw (← c.self.view_is) (stream_is_words _ _ _ _ c.self.invariant.2)
