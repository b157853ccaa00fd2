use Rattle.std.proofs.Common.{◌≡◌, ◌∙◌, ◌<◌, ap, sym, arith, length, get_or, true, false, ◌||◌}
use Rattle.tda_sets.specs.Nested.{is_kept, meets_well}
use Rattle.tda_sets.proofs.Families.{first_below}
use Rattle.tda_sets.proofs.Nesting.{meets_named}
use Rattle.tda_sets.proofs.Kept.{kept_at, kept_length}
use Rattle.tda_sets.proofs.nested.meets_well.Goals as goal
use Rattle.tda_sets.proofs.nested.meets_well.Goals.{In-Some-other}

pub bounds-one_kept-first : goal.bounds-one_kept-first
bounds-one_kept-first c =
    let one = c.args.one.now in
    let other = c.args.other.now in
    omega (arith, first_below one c.args.number c.in-Some.first c.requires.one c.in-Some.is, kept_length one other c.args.one_kept.now (length one) c.requires.one_kept)

pub bounds-other_kept-second : goal.bounds-other_kept-second
bounds-other_kept-second c =
    let one = c.args.one.now in
    let other = c.args.other.now in
    omega (arith, first_below other c.args.number c.in-Some-other.second c.requires.other c.in-Some-other.is, kept_length other one c.args.other_kept.now (length one) c.requires.other_kept)

meets : (c : In-Some-other) → meets_well c.args.one.now c.args.other.now c.args.number ≡ (get_or c.args.one_kept.now c.in-Some.first false || get_or c.args.other_kept.now c.in-Some-other.second false)
meets c =
    let one = c.args.one.now in
    let other = c.args.other.now in
    let i = c.args.number in
    let first = c.in-Some.first in
    let second = c.in-Some-other.second in
    let second_below : second < length one = omega (arith, first_below other i second c.requires.other c.in-Some-other.is, c.requires.one_length) in
    meets_named one other c.requires.one_length first second i c.in-Some.is c.in-Some-other.is
    ∙ ap (λ b. b || is_kept other one second) (sym (kept_at one other c.args.one_kept.now (length one) first false c.requires.one_kept (first_below one i first c.requires.one c.in-Some.is)))
    ∙ ap (λ b. get_or c.args.one_kept.now first false || b) (sym (kept_at other one c.args.other_kept.now (length one) second false c.requires.other_kept second_below))

pub returns-then-one_kept-first : goal.returns-then-one_kept-first
returns-then-one_kept-first c =
    let b = get_or c.args.other_kept.now c.in-Some-other.second false in
    c.if-one_kept-first.true ∙ sym (meets ((goal.at.returns-then-one_kept-first c).In-Some-other) ∙ ap (λ a. a || b) c.if-one_kept-first.true)

pub returns-else-one_kept-first : goal.returns-else-one_kept-first
returns-else-one_kept-first c =
    let b = get_or c.args.other_kept.now c.in-Some-other.second false in
    sym (meets ((goal.at.returns-else-one_kept-first c).In-Some-other) ∙ ap (λ a. a || b) c.if-one_kept-first.false)
