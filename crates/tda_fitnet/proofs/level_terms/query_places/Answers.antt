-- One more class of the query.
use Rattle.std.proofs.Common.{◌≡◌, ◌<◌, ◌+◌, ℕ, List, length, slice_index, Contains, ap, ◌∙◌, subst, arith}
use Rattle.std.proofs.lemmas.Option.{slice_get-get_or}
use Rattle.std.proofs.lemmas.List.Elements.{Contains-get_or}
use Rattle.tda_model.specs.Schema.{Schema}
use Rattle.tda_model.specs.Groups.{classes_of, class_cells}
use Rattle.tda_schema.specs.Stated.{level_at, queries_at, query_at}
use Rattle.tda_groups.proofs.Callers.{class_known, class_group_at}
use Rattle.tda_fitnet.specs.TermTable.{IsRowOf}
use Rattle.tda_fitnet.proofs.TermRows.{class_more}
use Rattle.tda_fitnet.proofs.level_terms.query_places.Goals as goal

listed : (s : Schema) (level query : ℕ) (list : List ℕ) → list ≡ classes_of s (query_at s level query) → (n : ℕ) → n < length list → Contains (classes_of s (query_at s level query)) (slice_index list n)
listed s level query list is n low = subst (λ xs. Contains xs (slice_index list n)) is (Contains-get_or list n 0 low)

pub class_group-requires : goal.class_group-requires
class_group-requires c =
    let s = c.args.schema.now in
    class_known s (level_at s c.args.level) c.args.tree.now c.requires.tree c.args.query _ (query_at s c.args.level c.args.query)
    (slice_get-get_or (queries_at s c.args.level) c.args.query _ c.requires.query)
    (listed s c.args.level c.args.query _ c.classes-class-items.ensures.value c.loop-rank.rank c.loop-rank-test.true)

pub index_mut-requires : goal.index_mut-requires
index_mut-requires c =
    let s = c.args.schema.now in
    let at = class_group_at s (level_at s c.args.level) c.args.tree.now c.requires.tree c.args.query _ _ (query_at s c.args.level c.args.query) c.class_group.ensures.value
    (slice_get-get_or (queries_at s c.args.level) c.args.query _ c.requires.query)
    (listed s c.args.level c.args.query _ c.classes-class-items.ensures.value c.loop-rank.rank c.loop-rank-test.true) in
    omega (arith, at.here, c.loop-rank.invariant.size)

pub loop-rank-preserved : goal.loop-rank-preserved
loop-rank-preserved c =
    let s = c.args.schema.now in
    let n = c.loop-rank.rank in
    let q = query_at s c.args.level c.args.query in
    let at = class_group_at s (level_at s c.args.level) c.args.tree.now c.requires.tree c.args.query _ _ q c.class_group.ensures.value
    (slice_get-get_or (queries_at s c.args.level) c.args.query _ c.requires.query)
    (listed s c.args.level c.args.query _ c.classes-class-items.ensures.value n c.loop-rank-test.true) in
    class_more s c.args.level c.args.tree.now.groups c.requires.tree.groups c.args.query n c.class_group.result (c.args.before + n) c.loop-rank.row.items at.here
    (at.members ∙ ap (λ xs. class_cells s q (slice_index xs n)) c.classes-class-items.ensures.value)
    (ap (λ b. b + n) c.requires.before) c.loop-rank.invariant

pub returns : goal.returns
returns c =
    let s = c.args.schema.now in
    let all : c.loop-rank.rank ≡ length (classes_of s (query_at s c.args.level c.args.query)) =
    omega (arith, c.loop-rank-test.false, c.loop-rank.auto.rank-end, ap length c.classes-class-items.ensures.value) in
    subst (λ n. IsRowOf s c.args.level c.args.tree.now.groups c.args.query n c.loop-rank.row.items) all c.loop-rank.invariant
