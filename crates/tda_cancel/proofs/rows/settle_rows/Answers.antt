use Rattle.std.proofs.Common.{◌≡◌, ◌+◌, ◌-◌, ◌*◌, ◌<◌, ◌≤◌, ◌^◌, ℕ, length, Option, Some, None, IsSome, IfSome, IfNone, is_some, not, pos, subst, sym, ap, ◌∙◌, true, false, Bool, arith, refl}
use Rattle.std.proofs.lemmas.Int.{ints}
use Rattle.std.proofs.lemmas.List.{get_or-replicate}
use Rattle.std.proofs.Math.Nat.{mul-le-mul_left}
use borrow.Rule.Slice.PartMut.{put_mid}
use Rattle.tda_cancel.specs.Rows.{cost_at, last_at, IsNextRow}
use Rattle.tda_cancel.proofs.Lowered.{row-near, row-settled}
use Rattle.tda_cancel.proofs.History.{rows-none, rows-more, read-new}
use Rattle.tda_cancel.proofs.rows.settle_rows.Goals as goal

none_gives : (o : Option ℕ) (b : Bool) (P : Type 0) → is_some o ≡ not b → b ≡ true → IfNone o P → P
none_gives None b P e f h = h
none_gives (Some v) true P e f h = absurd (cc)
none_gives (Some v) false P e f h = absurd (cc)

some_gives : (o : Option ℕ) (b : Bool) (P : ℕ → Type 0) → is_some o ≡ not b → b ≡ false → IfSome o P → (v : ℕ) × (o ≡ Some v) × P v
some_gives None true P e f h = absurd (cc)
some_gives None false P e f h = absurd (cc)
some_gives (Some v) b P e f h = (v, refl, h)

rows_le : (k n : ℕ) → k < n → k ≤ n
rows_le k n l = omega arith

pub loop-row-init : goal.loop-row-init
loop-row-init c = record {
  rows = rows-none c.args.steps.now (length c.args.costs.now) c.args.lasts.now (cost_at c.set_all.new.entries);
  near =
      λ v l.
      let e : cost_at c.set_all.new.entries v ≡ pos 0 =
      ap (λ z. cost_at z v) c.set_all.ensures ∙ get_or-replicate (length c.args.costs.now) v (pos 0) (pos 0) l in
      record { low = omega (arith, ints); high = omega (arith, ints) };
  changed = λ l. absurd (omega arith);
}

pub returns-then-is_none-clause-settled : goal.returns-then-is_none-clause-settled
returns-then-is_none-clause-settled c =
    let n : ℕ = length c.args.costs.now in
    let size : length c.loop-row.costs ≡ length c.args.costs.now = omega arith in
    let row : IsNextRow c.args.steps.now (length c.args.steps.now) n (cost_at c.loop-row.costs) (cost_at c.next_row.new.costs) (last_at c.next_row.new.lasts) =
    subst (λ z. IsNextRow c.args.steps.now (length c.args.steps.now) z (cost_at c.loop-row.costs) (cost_at c.next_row.new.costs) (last_at c.next_row.new.lasts)) size c.next_row.ensures in
    let none = none_gives c.first_change-changed.result c.is_none.result _ c.is_none.ensures c.if-is_none.true c.first_change-changed.ensures.none in
    row-settled c.args.steps.now n (cost_at c.loop-row.costs) c.next_row.new.costs (last_at c.next_row.new.lasts) c.requires.steps row (λ v l. none v (omega arith))

pub returns-then-is_none-clause-near : goal.returns-then-is_none-clause-near
returns-then-is_none-clause-near c =
    λ v l.
    let size : length c.loop-row.costs ≡ length c.args.costs.now = omega arith in
    let row : IsNextRow c.args.steps.now (length c.args.steps.now) (length c.args.costs.now) (cost_at c.loop-row.costs) (cost_at c.next_row.new.costs) (last_at c.next_row.new.lasts) =
    subst (λ z. IsNextRow c.args.steps.now (length c.args.steps.now) z (cost_at c.loop-row.costs) (cost_at c.next_row.new.costs) (last_at c.next_row.new.lasts)) size c.next_row.ensures in
    let w = row-near c.args.steps.now (length c.args.costs.now) (c.loop-row.row * 2 ^ 61) (cost_at c.loop-row.costs) (cost_at c.next_row.new.costs) (last_at c.next_row.new.lasts)
    c.requires.steps row c.loop-row.invariant.near v l in
    record { low = omega (arith, ints, w.low); high = omega (arith, ints, w.high) }

pub loop-row-preserved : goal.loop-row-preserved
loop-row-preserved c =
    let n : ℕ = length c.args.costs.now in
    let size : length c.loop-row.costs ≡ length c.args.costs.now = omega arith in
    let row : IsNextRow c.args.steps.now (length c.args.steps.now) n (cost_at c.loop-row.costs) (cost_at c.next_row.new.costs) (last_at c.next_row.new.lasts) =
    subst (λ z. IsNextRow c.args.steps.now (length c.args.steps.now) z (cost_at c.loop-row.costs) (cost_at c.next_row.new.costs) (last_at c.next_row.new.lasts)) size c.next_row.ensures in
    let some = some_gives c.first_change-changed.result c.is_none.result _ c.is_none.ensures c.if-is_none.false c.first_change-changed.ensures.some in
    let width : length c.next_row.new.lasts ≡ n = omega arith in
    let room : c.loop-row.row * n ≤ length c.loop-row.lasts = omega (arith, mul-le-mul_left n (rows_le c.loop-row.row n c.loop-row-test.true)) in
    let k : ℕ = c.loop-row.row * n + n - c.loop-row.row * n in
    record {
      rows =
          rows-more c.args.steps.now n c.loop-row.lasts c.next_row.new.lasts c.loop-row.row k (cost_at c.loop-row.costs) (cost_at c.next_row.new.costs)
          c.loop-row.invariant.rows row width room;
      near =
          λ v l.
          let w = row-near c.args.steps.now n (c.loop-row.row * 2 ^ 61) (cost_at c.loop-row.costs) (cost_at c.next_row.new.costs) (last_at c.next_row.new.lasts)
          c.requires.steps row c.loop-row.invariant.near v l in
          record { low = omega (arith, ints, w.low); high = omega (arith, ints, w.high) };
      changed =
          λ l.
          let e : c.loop-row.row ≡ c.loop-row.row + 1 - 1 = omega arith in
          let read = read-new c.loop-row.lasts c.next_row.new.lasts (c.loop-row.row * n) k some.0 some.2.0 room in (
            some.0,
            some.1,
            omega (arith, some.2.0),
            subst (λ z. IsSome (last_at (put_mid (c.loop-row.row * n) k c.loop-row.lasts c.next_row.new.lasts) (z * n + some.0))) e
                (subst IsSome (sym read) some.2.1),
          );
    }
