use Rattle.std.proofs.Common.{◌≡◌, ◌∙◌, ◌<◌, ◌≤◌, ◌+◌, [], true, false, get_or, set, ap, sym, subst, arith}
use Rattle.std.proofs.lemmas.List.Elements.{All-get_or}
use Rattle.tda_model.specs.Bounds.{persons_limit}
use Rattle.tda_model.specs.Cells.{cell_count, is_possible}
use Rattle.tda_out.specs.Counts.{count_at}
use Rattle.tda_schema.specs.Stated.{queries_at, query_at, class_of}
use Rattle.tda_hist.proofs.ClassCells.{class_below}
use Rattle.tda_measure.proofs.ClassSums.{AreParts, parts_skip, parts_more, parts_are, room_for}
use Rattle.tda_measure.proofs.sums.write_sums.Goals as goal
use Rattle.tda_measure.proofs.sums.write_sums.Goals.{then-possible, else-possible}

pub bounds-sums-class_of : goal.bounds-sums-class_of
bounds-sums-class_of c =
    let s = c.args.schema.now in
    let q = query_at s c.args.level c.args.query in
    let whole : q.only ≡ [] = All-get_or (λ p. p.only ≡ []) (queries_at s c.args.level) c.args.query _ c.requires.query c.queries.ensures.over_all in
    let possible : is_possible s c.loop-cell.cell ≡ true = sym c.possible.ensures ∙ c.if-possible.true in
    let within = class_below s q whole c.loop-cell.cell possible in
    omega (arith, c.class_of.ensures, within, c.loop-cell.invariant.size)

pub bounds-sums-class_of-then-possible : goal.bounds-sums-class_of-then-possible
bounds-sums-class_of-then-possible c =
    let s = c.args.schema.now in
    let q = query_at s c.args.level c.args.query in
    let whole : q.only ≡ [] = All-get_or (λ p. p.only ≡ []) (queries_at s c.args.level) c.args.query _ c.requires.query c.queries.ensures.over_all in
    let possible : is_possible s c.loop-cell.cell ≡ true = sym c.possible.ensures ∙ c.if-possible.true in
    let within = class_below s q whole c.loop-cell.cell possible in
    omega (arith, c.class_of.ensures, within, c.loop-cell.invariant.size)

pub overflow_add-sums : goal.overflow_add-sums
overflow_add-sums c =
    let s = c.args.schema.now in
    let q = query_at s c.args.level c.args.query in
    let x = count_at c.args.tables.now c.args.unit in
    let sums = c.loop-cell.sums in
    let n = c.loop-cell.cell in
    let whole : q.only ≡ [] = All-get_or (λ p. p.only ≡ []) (queries_at s c.args.level) c.args.query _ c.requires.query c.queries.ensures.over_all in
    let possible : is_possible s n ≡ true = sym c.possible.ensures ∙ c.if-possible.true in
    let below : n < cell_count s = omega (arith, c.loop-cell-test.true, c.cells-cell-end.ensures.count) in
    let room : get_or sums (class_of s q n) 0 + x n ≤ persons_limit = room_for s q x n possible sums (class_below s q whole n possible) below c.requires.counts.few c.loop-cell.invariant in
    let is = ap (λ k. get_or sums k 0) c.class_of.ensures in
    omega (arith, room, is, c.get.ensures.count)

pub loop-cell-preserved : goal.loop-cell-preserved
loop-cell-preserved c =
    let s = c.args.schema.now in
    let q = query_at s c.args.level c.args.query in
    let x = count_at c.args.tables.now c.args.unit in
    let sums = c.loop-cell.sums in
    let n = c.loop-cell.cell in
    let a = class_of s q n in
    let whole : q.only ≡ [] = All-get_or (λ p. p.only ≡ []) (queries_at s c.args.level) c.args.query _ c.requires.query c.queries.ensures.over_all in
    elim c.if-possible.branch [
      | then-possible w ↦
          let possible : is_possible s n ≡ true = sym c.possible.ensures ∙ w.if-possible.true in
          let now : set sums w.class_of.result (get_or sums w.class_of.result 0 + w.get.result) ≡ set sums a (get_or sums a 0 + x n) =
          ap (λ k. set sums k (get_or sums k 0 + w.get.result)) w.class_of.ensures ∙ ap (λ m. set sums a (get_or sums a 0 + m)) w.get.ensures.count in
          subst (AreParts s q x (n + 1)) (sym (w.sums-is ∙ now)) (parts_more s q x n possible sums (class_below s q whole n possible) c.loop-cell.invariant)
      | else-possible w ↦
          let isnt : is_possible s n ≡ false = sym c.possible.ensures ∙ w.if-possible.false in
          subst (AreParts s q x (n + 1)) (sym w.sums-is) (parts_skip s q x n sums isnt c.loop-cell.invariant)
    ]

pub returns-clause-sums : goal.returns-clause-sums
returns-clause-sums c =
    let s = c.args.schema.now in
    let q = query_at s c.args.level c.args.query in
    let x = count_at c.args.tables.now c.args.unit in
    let sums = c.loop-cell.sums in
    let whole : q.only ≡ [] = All-get_or (λ p. p.only ≡ []) (queries_at s c.args.level) c.args.query _ c.requires.query c.queries.ensures.over_all in
    let last : c.loop-cell.cell ≡ cell_count s = omega (arith, c.cells-cell-end.ensures.count) in
    parts_are s q x whole sums (subst (λ n. AreParts s q x n sums) last c.loop-cell.invariant)
