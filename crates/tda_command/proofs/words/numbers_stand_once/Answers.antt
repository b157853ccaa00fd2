use Rattle.std.proofs.Common.{rules, tests, map, string_bytes, ◌==◌}
use Rattle.std.proofs.lemmas.List.Folds.{list_all-map}
use Rattle.std.proofs.lemmas.Iterator.{YieldsList-from_slice}
use Rattle.std.proofs.lemmas.Iterator.Search.{all_from_yields_List}
use Rattle.tda_command.specs.Words.{pairs_of, times_in, number_name}
use Rattle.tda_command.proofs.words.numbers_stand_once.Goals as goal

pub returns : goal.returns
returns c = simp list_all-map (all_from_yields_List (λ n. times_in (pairs_of (map string_bytes c.args.pairs.now)) (number_name n) == 1) _ _ _ c.all.ensures.ran (YieldsList-from_slice c.args.numbers.now cc) (λ x b q k. search (rules, tests)))
