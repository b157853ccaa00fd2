use Rattle.std.proofs.Common.{◌≡◌, ◌<◌, ◌+◌, ◌∙◌, ◌&&◌, ◌==◌, true, ap, sym, length, arith}
use Rattle.std.proofs.lemmas.Bool.{lt-ltb}
use Rattle.tda_model.specs.Spine.{children_of, level_of}
use Rattle.tda_spine.specs.Judged.{is_inner}
use Rattle.tda_spine.specs.Rows.{spine_in}
use Rattle.tda_spine.proofs.Children.{counts-length, count_of}
use Rattle.tda_spine.proofs.UnitRows.{many}
use Rattle.tda_spine.proofs.whole.is_childless.Goals as goal

pub bounds-children-unit : goal.bounds-children-unit
bounds-children-unit c =
    let s = c.args.schema.now in
    let rows = c.args.rows.now in
    omega (arith, counts-length (spine_in s rows) c.args.children.now c.requires.counted, many s rows)

pub returns-then-level-depth : goal.returns-then-level-depth
returns-then-level-depth c =
    let s = c.args.schema.now in
    let rows = c.args.rows.now in
    let sp = spine_in s rows in
    let unit = c.args.unit in
    let inner : is_inner sp unit ≡ true = lt-ltb (level_of sp unit + 1) (length s.levels) (omega (arith, c.level.ensures.level, c.levels-depth.ensures.count, c.if-level-depth.true)) in
    let here : unit < length sp.units = omega (arith, many s rows, c.requires.unit) in
    ap (λ n. n == 0) (count_of sp c.args.children.now c.requires.counted unit 0 here)
    ∙ sym (ap (λ b. b && (length (children_of sp unit) == 0)) inner)
