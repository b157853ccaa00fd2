use Rattle.std.proofs.Common.{◌<◌, ◌∙◌, ap, sym, length, eq-eqb, ne_eqb, not, ◌==◌, arith}
use Rattle.tda_model.specs.Spine.{is_at}
use Rattle.tda_spine.specs.Rows.{spine_in}
use Rattle.tda_spine.proofs.Numbers.{count_next-yes, count_next-no, count_all}
use Rattle.tda_spine.proofs.UnitRows.{many}
use Rattle.tda_spine.proofs.whole.has_no_nation.Goals as goal
use Rattle.tda_spine.proofs.whole.has_no_nation.Goals.{then-level-eq0, else-level-eq0}

pub loop-unit-preserved : goal.loop-unit-preserved
loop-unit-preserved c =
    let s = c.args.schema.now in
    let rows = c.args.rows.now in
    let sp = spine_in s rows in
    let unit = c.loop-unit.unit in
    let below : unit < length sp.units = omega (arith, many s rows) in
    elim c.if-level-eq0.branch [
      | then-level-eq0 w ↦
          let next = count_next-yes (is_at sp 0) (length sp.units) unit below (eq-eqb _ _ (sym c.level.ensures.level ∙ w.if-level-eq0.true)) in
          (omega (arith, next, w.nations-is, c.loop-unit.invariant.0), omega (arith, w.nations-is, c.loop-unit.invariant.1))
      | else-level-eq0 w ↦
          let next = count_next-no (is_at sp 0) (length sp.units) unit below (ne_eqb _ _ (λ e. w.if-level-eq0.false (c.level.ensures.level ∙ e))) in
          (omega (arith, next, w.nations-is, c.loop-unit.invariant.0), omega (arith, w.nations-is, c.loop-unit.invariant.1))
    ]

pub returns : goal.returns
returns c =
    let s = c.args.schema.now in
    let rows = c.args.rows.now in
    let sp = spine_in s rows in
    ap (λ n. not (n == 1)) (c.loop-unit.invariant.0 ∙ count_all (is_at sp 0) (length sp.units) c.loop-unit.unit (omega (arith, many s rows)))
