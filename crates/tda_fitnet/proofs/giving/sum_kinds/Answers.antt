use Rattle.std.proofs.Common.{ℕ, length, slice_index, length-set, sym, ap, ◌∙◌, arith}
use Rattle.std.proofs.lemmas.List.{get_or-replicate}
use Rattle.tda_model.specs.Cells.{kind_of}
use Rattle.tda_fitnet.proofs.GivenOut.{kind_added, part_few}
use Rattle.tda_fitnet.proofs.giving.sum_kinds.Goals as goal

pub loop-r-init : goal.loop-r-init
loop-r-init c =
    let e = c.fill.ensures.after (λ y h. h) in
    (c.fill.ensures.len, λ k l. ap (λ xs. slice_index xs k) e ∙ get_or-replicate (length c.args.sums.now) k 0 0 l)

pub overflow_add-sums : goal.overflow_add-sums
overflow_add-sums c =
    let kind : ℕ → ℕ = λ r. kind_of c.args.schema.now (slice_index c.args.cells.now r) in
    let k : ℕ = c.kind_of.result in
    let is = c.loop-r.invariant.1 k (let l = c.kind_of.ensures.in_range in omega (arith, c.requires.kinds)) in
    let few = part_few kind k (slice_index c.args.flow.now) c.loop-r.r (length c.args.cells.now) (slice_index c.loop-r.sums k) c.loop-r-test.true (sym c.kind_of.ensures.kind) is c.requires.few in
    omega (arith, few)

pub loop-r-preserved : goal.loop-r-preserved
loop-r-preserved c =
    let kind : ℕ → ℕ = λ r. kind_of c.args.schema.now (slice_index c.args.cells.now r) in (
      length-set _ _ _ ∙ c.loop-r.invariant.0,
      λ k l. kind_added kind (slice_index c.args.flow.now) c.loop-r.r c.loop-r.sums c.kind_of.result (sym c.kind_of.ensures.kind)
          (let h = c.kind_of.ensures.in_range in omega (arith, c.requires.kinds, c.loop-r.invariant.0)) k (c.loop-r.invariant.1 k l),
    )
