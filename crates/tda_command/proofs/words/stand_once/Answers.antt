use Rattle.std.proofs.Common.{rules, tests, map, string_bytes, ◌==◌}
use Rattle.std.proofs.lemmas.List.Folds.{list_all-map}
use Rattle.std.proofs.lemmas.Iterator.{YieldsList-from_slice}
use Rattle.std.proofs.lemmas.Iterator.Search.{all_from_yields_List}
use Rattle.tda_command.specs.Words.{pairs_of, times_in}
use Rattle.tda_command.proofs.words.stand_once.Goals as goal

pub returns : goal.returns
returns c = simp list_all-map (all_from_yields_List (λ name. times_in (pairs_of (map string_bytes c.args.pairs.now)) name.now == 1) _ _ _ c.all.ensures.ran (YieldsList-from_slice c.args.names.now cc) (λ x b q k. search (rules, tests)))
