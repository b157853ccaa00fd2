use Rattle.std.proofs.Common.{◌∙◌, ap, length}
use Rattle.tda_words.specs.Words.{Supply}
use Rattle.tda_words.proofs.Supplies.{words_length}
use Rattle.tda_words.proofs.list_words.ListWordsWords.left.Goals as goal

pub returns-clause-value : goal.returns-clause-value
returns-clause-value c = words_length _ ∙ ap (λ (s : Supply). length s.words) c.self.view_is
