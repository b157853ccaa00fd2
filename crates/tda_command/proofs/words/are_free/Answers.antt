use Rattle.std.proofs.Common.{rules, tests, map, string_bytes}
use Rattle.std.proofs.lemmas.List.Folds.{list_all-map}
use Rattle.std.proofs.lemmas.Iterator.{YieldsList-from_slice}
use Rattle.std.proofs.lemmas.Iterator.Search.{all_from_yields_List}
use Rattle.tda_command.specs.Words.{pairs_of, value_or_empty, values_in, form_of, is_free}
use Rattle.tda_command.proofs.words.are_free.Goals as goal

pub returns : goal.returns
returns c =
    let ps = pairs_of (map string_bytes c.args.pairs.now) in
    let f = form_of c.args.source c.args.command in
    simp list_all-map (all_from_yields_List (λ name. is_free (values_in ps f.reads) (values_in ps f.writes) (value_or_empty ps name.now)) _ _ _ c.all.ensures.ran (YieldsList-from_slice c.args.names.now cc) (λ x b q k. search (rules, tests) fits 8000))
