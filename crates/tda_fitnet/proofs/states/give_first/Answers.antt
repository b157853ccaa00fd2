use Rattle.std.proofs.Common.{◌≡◌, ℕ, ◌+◌, ◌<◌, ◌≤◌, length, slice_index, length-set, get_or-set_other, ap, ◌∙◌, inl, inr, arith}
use Rattle.tda_model.specs.Cells.{kind_of}
use Rattle.tda_fitnet.specs.Giving.{kind_part}
use Rattle.tda_fitnet.proofs.FirstGiven.{first_more, first_none}
use Rattle.tda_fitnet.proofs.states.give_first.Goals as goal

pub loop-r-preserved : goal.loop-r-preserved
loop-r-preserved c =
    let kind : ℕ → ℕ = λ r. kind_of c.args.schema.now (slice_index c.args.cells.now r) in
    let n : ℕ = c.loop-r.r in
    let m : ℕ = c.kind_of-kind.result in
    let own : c.kind_of-kind.result ≡ kind c.loop-r.r = c.kind_of-kind.ensures.kind in
    let inv = c.loop-r.invariant in
    let low : n < length c.args.cells.now = c.loop-r-test.true in
    let room : c.args.first + length c.args.cells.now ≤ length c.loop-r.flow = omega (arith, inv.0, c.requires.room) in
    let in_sums : m < length c.loop-r.sums = (let h = c.kind_of-kind.ensures.in_range in omega (arith, inv.1, c.requires.kinds)) in (
      length-set _ _ _ ∙ inv.0,
      length-set _ _ _ ∙ inv.1,
      λ k l. first_more kind c.args.first (length c.args.cells.now) n m c.loop-r.flow c.loop-r.sums own low room in_sums k (slice_index c.args.sums.now k) (inv.2 k l),
      λ k q l e. first_none kind c.args.first (length c.args.cells.now) n m c.loop-r.flow c.loop-r.sums own low room in_sums k q l e (λ q l e. inv.3 k q l e),
      λ j side. get_or-set_other c.loop-r.flow (c.args.first + n) j (slice_index c.loop-r.sums m) 0 (λ e. elim side [ inl before ↦ omega arith | inr after ↦ omega arith ]) ∙ inv.4 j side,
    )

pub returns-clause-kinds : goal.returns-clause-kinds
returns-clause-kinds c = λ k l.
    let kind : ℕ → ℕ = λ r. kind_of c.args.schema.now (slice_index c.args.cells.now r) in
    let inv = c.loop-r.invariant in
    let done : c.loop-r.r ≡ length c.args.cells.now = omega (arith, c.loop-r-test.false, c.loop-r.auto.r-end) in
    let found = c.requires.each k l in
    let none = inv.3 k found.0 (omega (arith, found.1, done)) found.2 in
    let all = inv.2 k (omega (arith, c.requires.kinds)) in
    let end = ap (kind_part kind k (λ r. slice_index c.loop-r.flow (c.args.first + r))) done in
    sum _ _ _ _ none all end
  where
    sum : (s p q old : ℕ) → s ≡ 0 → s + p ≡ old → p ≡ q → q ≡ old
    sum s p q old a b e = omega arith
