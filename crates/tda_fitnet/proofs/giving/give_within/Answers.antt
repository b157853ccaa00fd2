use Rattle.std.proofs.Common.{◌≡◌, ℕ, suc, ◌+◌, ◌-◌, ◌<◌, length, slice_index, subst, ap, ◌∙◌, arith}
use Rattle.tda_model.specs.Spine.{children_of}
use Rattle.tda_model.specs.Tables.{Published}
use Rattle.tda_model.specs.Bounds.{low, high}
use Rattle.tda_model.specs.Cells.{kind_of}
use Rattle.tda_model.specs.Groups.{kind_count}
use Rattle.tda_invar.specs.Known.{known_of}
use Rattle.tda_invar.proofs.UnitLists.{children_within}
use Rattle.tda_fitnet.specs.Giving.{AreGiven, child_must, child_may, spare_in, split_quota}
use Rattle.tda_fitnet.proofs.GivenOut.{below_le}
use Rattle.tda_fitnet.proofs.UnitsGiven.{units_start, units_more}
use Rattle.tda_fitnet.proofs.GreedyQuotas.{quota_is, left_is}
use Rattle.tda_fitnet.proofs.giving.give_within.Goals as goal

pub take_needs-requires-clause-enough : goal.take_needs-requires-clause-enough
take_needs-requires-clause-enough c = (
  c.args.schema.now,
  c.args.spine.now,
  c.requires.joined,
  λ k l.
      let in_range : k < kind_count c.args.schema.now = omega (arith, l, c.kinds-kinds.ensures.count) in
      let sum = c.sum_kinds.ensures.sums k (omega (arith, c.kinds-kinds.ensures.count, c.kinds-kinds.ensures.limit)) in
      let enough = c.requires.needs k in_range in omega (arith, sum, enough),
)

pub loop-u-init : goal.loop-u-init
loop-u-init c =
    let kind : ℕ → ℕ = λ r. kind_of c.args.schema.now (slice_index c.args.cells.now r) in
    let known = known_of c.args.spine.now c.args.inv.now in (
      omega (arith, c.take_needs.ensures.count, c.sum_kinds.ensures.count),
      λ k l.
          let sum = c.sum_kinds.ensures.sums k (omega (arith, c.kinds-kinds.ensures.count, c.kinds-kinds.ensures.limit)) in
          let left = c.take_needs.ensures.sums c.args.schema.now c.args.spine.now c.requires.joined k (omega (arith, c.kinds-kinds.ensures.count)) in
          left ∙ ap (λ n. n - low c.args.spine.now known c.args.parent k) sum ∙ omega arith,
      units_start kind (length c.args.cells.now) (kind_count c.args.schema.now) c.args.first c.requires.apart
          (split_quota c.args.spine.now known c.args.parent kind c.args.flow.now (length c.args.cells.now)) c.args.flow.now,
    )

pub set_quotas-requires-clause-child : goal.set_quotas-requires-clause-child
set_quotas-requires-clause-child c =
    let list = c.children-child-items.ensures in
    let size = c.requires.joined.low_units in
    let within = children_within c.args.spine.now c.args.parent c.loop-u.u 0 (omega (arith, ap length list, c.loop-u-test.true)) in
    let same = ap (λ xs. slice_index xs c.loop-u.u) list in
    omega (arith, within, same, size)

pub loop-u-preserved : goal.loop-u-preserved
loop-u-preserved c =
    let kind : ℕ → ℕ = λ r. kind_of c.args.schema.now (slice_index c.args.cells.now r) in
    let kinds : ℕ = kind_count c.args.schema.now in
    let cells : ℕ = length c.args.cells.now in
    let sp = c.args.spine.now in
    let known : Published = known_of c.args.spine.now c.args.inv.now in
    let p = c.args.parent in
    let u : ℕ = c.loop-u.u in
    let list = c.children-child-items.ensures in
    let low_u : u < length (children_of c.args.spine.now c.args.parent) = omega (arith, ap length list, c.loop-u-test.true) in
    let same = ap (λ xs. slice_index xs u) list in
    let must = child_must sp known p in
    let may = child_may sp known p in
    let spare = spare_in sp known p kind c.args.flow.now cells in
    let quota = split_quota sp known p kind c.args.flow.now cells in
    let lows : (k : ℕ) → low sp known (slice_index c.children-child-items.result.now u) k ≡ must u k = λ k. ap (λ v. low sp known v k) same in
    let highs : (k : ℕ) → high sp known (slice_index c.children-child-items.result.now u) k ≡ may u k = λ k. ap (λ v. high sp known v k) same in
    let next : suc u ≡ u + 1 = omega arith in
    let in_range : (k : ℕ) → k < kinds → k < c.kinds-kinds.result = λ k l. omega (arith, l, c.kinds-kinds.ensures.count) in (
      c.set_quotas.ensures.spare_count ∙ c.loop-u.invariant.0,
      λ k l. left_is must may spare k u _ _ _ _ (c.loop-u.invariant.1 k l) (lows k) (highs k) (c.set_quotas.ensures.spare c.args.schema.now sp c.requires.joined k (in_range k l)),
      subst (λ n. AreGiven kind cells kinds c.args.first quota c.args.flow.now n c.give_out.new.flow) next
          (units_more kind cells kinds c.args.first c.requires.apart quota c.args.flow.now u c.loop-u.flow c.give_out.new.flow c.set_quotas.new.quotas c.give_out.new.quotas
          c.loop-u.invariant.2 c.give_out.ensures
          (let count = c.set_quotas.ensures.count in omega (arith, count, c.kinds-kinds.ensures.count, c.kinds-kinds.ensures.limit))
          (λ k l. quota_is must may spare k u _ _ _ _ (c.loop-u.invariant.1 k l) (lows k) (highs k) (c.set_quotas.ensures.quotas c.args.schema.now sp c.requires.joined k (in_range k l)))
          (λ k l. let all = c.requires.enough k l in let part = below_le (suc u) (length (children_of c.args.spine.now c.args.parent)) (λ v. quota v k) (omega arith) in omega (arith, all, part))),
    )

pub returns : goal.returns
returns c =
    let kind : ℕ → ℕ = λ r. kind_of c.args.schema.now (slice_index c.args.cells.now r) in
    let quota = split_quota c.args.spine.now (known_of c.args.spine.now c.args.inv.now) c.args.parent kind c.args.flow.now (length c.args.cells.now) in
    let done : c.loop-u.u ≡ length (children_of c.args.spine.now c.args.parent) = omega (arith, ap length c.children-child-items.ensures, c.loop-u-test.false, c.loop-u.auto.u-end) in
    subst (λ n. AreGiven kind (length c.args.cells.now) (kind_count c.args.schema.now) c.args.first quota c.args.flow.now n c.loop-u.flow) done c.loop-u.invariant.2
