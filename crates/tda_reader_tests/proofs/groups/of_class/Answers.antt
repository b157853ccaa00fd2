use Rattle.std.proofs.Common.{◌≡◌, ◌∙◌, ◌<◌, get_or, length, Contains, ap, sym, subst}
use Rattle.std.proofs.lemmas.List.{get_or_default}
use Rattle.std.proofs.lemmas.List.Elements.{Contains-get_or}
use Rattle.std.proofs.lemmas.Option.{slice_get-get_or}
use Rattle.tda_model.specs.Groups.{classes_of}
use Rattle.tda_schema.specs.Stated.{level_at, queries_at, query_at}
use Rattle.tda_groups.proofs.Callers.{class_known}
use Rattle.tda_reader_tests.proofs.groups.of_class.Goals as goal

pub class_group-requires : goal.class_group-requires
class_group-requires c =
    let s = c.args.schema.now in
    let q = query_at s c.args.level c.args.query in
    let is = c.classes.ensures.value in
    class_known s (level_at s c.args.level) c.args.tree.now c.requires.tree c.args.query (get_or c.classes.result.now c.args.place 0) q
    (slice_get-get_or (queries_at s c.args.level) c.args.query _ c.requires.query)
    (subst (λ xs. Contains xs (get_or c.classes.result.now c.args.place 0)) is (Contains-get_or c.classes.result.now c.args.place 0 (subst (λ xs. c.args.place < length xs) (sym is) c.requires.place)))
