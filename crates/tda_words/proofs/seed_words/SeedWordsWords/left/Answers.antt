use Rattle.std.proofs.Common.{◌∙◌, ap, length}
use Rattle.tda_words.specs.Words.{Supply}
use Rattle.tda_words.proofs.Supplies.{stream_length, stream_is_words}
use Rattle.tda_words.proofs.seed_words.SeedWordsWords.left.Goals as goal

pub returns-clause-value : goal.returns-clause-value
returns-clause-value c = stream_length _ _ _ ∙ ap (λ (s : Supply). length s.words) c.self.view_is

pub returns-clause-known : goal.returns-clause-known
returns-clause-known c = rw (← c.self.view_is) (stream_is_words _ _ _ _ c.self.invariant.2)
