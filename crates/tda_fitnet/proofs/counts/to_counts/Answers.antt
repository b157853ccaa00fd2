use Rattle.std.proofs.Common.{◌≡◌, ℕ, suc, ◌+◌, ◌*◌, length, slice_index, sym, ap, ◌∙◌, inl, inr, arith, suc-mul}
use Rattle.std.proofs.lemmas.Bool.{cases_eq}
use Rattle.std.proofs.lemmas.List.{get_or-replicate}
use Rattle.tda_fitnet.specs.FitNetwork.{flow_count}
use Rattle.tda_fitnet.proofs.Ranges.{place_below}
use Rattle.tda_fitnet.proofs.Counted.{rows_are}
use Rattle.tda_fitnet.proofs.counts.to_counts.Goals as goal

pub loop-unit-init : goal.loop-unit-init
loop-unit-init c = (
  c.fill.ensures.len,
  λ u j l m. absurd (omega arith),
  λ k l m. ap (λ xs. slice_index xs k) (c.fill.ensures.after (λ y h. h)) ∙ get_or-replicate (length c.args.counts.now) k 0 0 m,
)

pub put_unit_counts-requires-clause-unit : goal.put_unit_counts-requires-clause-unit
put_unit_counts-requires-clause-unit c = let e = ap (λ l. l.units) c.layout-unit-end.ensures.value in omega (arith, e, c.loop-unit-test.true)

pub put_unit_counts-requires-clause-zeros : goal.put_unit_counts-requires-clause-zeros
put_unit_counts-requires-clause-zeros c = λ j l.
    let e = ap (λ l. l.units) c.layout-unit-end.ensures.value in
    let place = place_below c.args.fit.now.layout.units c.args.fit.now.all_cells c.loop-unit.unit j (omega (arith, e, c.loop-unit-test.true)) l in
    c.loop-unit.invariant.2 (c.loop-unit.unit * c.args.fit.now.all_cells + j) (omega arith) (omega (arith, place, c.requires.counts))

pub loop-unit-preserved : goal.loop-unit-preserved
loop-unit-preserved c =
    let all : ℕ = c.args.fit.now.all_cells in
    let h = c.loop-unit.invariant in
    let r = c.put_unit_counts.ensures in
    let next = suc-mul c.loop-unit.unit all in
    let more : c.loop-unit.unit + 1 ≡ suc c.loop-unit.unit = omega arith in
    let end = ap (λ n. n * all) more in (
      r.count ∙ h.0,
      λ u j l m. elim (cases_eq u c.loop-unit.unit) [
        | inl e ↦ ap (λ v. slice_index c.put_unit_counts.new.counts (v * all + j)) e ∙ r.counts j m ∙ ap (λ v. flow_count c.args.fit.now c.args.flow.now v j) (sym e)
        | inr ne ↦ r.others (u * all + j) (inl (place_below c.loop-unit.unit all u j (omega arith) m)) ∙ h.1 u j (omega arith) m
      ],
      λ k l m. r.others k (inr (omega (arith, l, next, end))) ∙ h.2 k (omega (arith, l, next, end)) m,
    )

pub returns : goal.returns
returns c =
    let f = c.args.fit.now in
    let e = ap (λ l. l.units) c.layout-unit-end.ensures.value in
    rows_are c.loop-unit.counts f.layout.units f.all_cells (flow_count f c.args.flow.now) (c.loop-unit.invariant.0 ∙ c.requires.counts)
    (λ u j l m. c.loop-unit.invariant.1 u j (omega (arith, l, e, c.loop-unit-test.false)) m)
