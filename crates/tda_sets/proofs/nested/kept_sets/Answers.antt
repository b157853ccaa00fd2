use Rattle.std.proofs.Common.{◌≡◌, ◌∙◌, ◌+◌, ◌<◌, ap, sym, subst, arith, length, map, not}
use Rattle.std.specs.List.{range_with_len}
use Rattle.std.proofs.lemmas.Bool.{not-true, not-false}
use Rattle.tda_sets.specs.Family.{are_together}
use Rattle.tda_sets.specs.Nested.{is_kept}
use Rattle.tda_sets.proofs.Families.{first_below}
use Rattle.tda_sets.proofs.Kept.{AreKept, kept_no_name, kept_together, kept_apart, kept_all}
use Rattle.tda_sets.proofs.nested.kept_sets.Goals as goal
use Rattle.tda_sets.proofs.nested.kept_sets.Goals.{in-Some+then-ne, in-Some+else-ne, in_default}

pub bounds-others-first : goal.bounds-others-first
bounds-others-first c = omega (arith, first_below c.args.names.now c.loop-number.number c.in-Some.first c.requires.family c.in-Some.is)

pub index_mut-requires : goal.index_mut-requires
index_mut-requires c =
    let below = first_below c.args.names.now c.loop-number.number c.in-Some.first c.requires.family c.in-Some.is in
    omega (arith, below, c.loop-number.invariant.room)

pub loop-number-preserved : goal.loop-number-preserved
loop-number-preserved c =
    let names = c.args.names.now in
    let others = c.args.others.now in
    let i = c.loop-number.number in
    let kept = c.loop-number.kept.items in
    let so_far = c.loop-number.invariant in
    elim c.match-name.branch [
      | in-Some+then-ne w ↦
          let first = w.in-Some.first in
          kept_apart names others i first kept so_far w.in-Some.is c.match-name.kept.items
          (not-true (are_together others first i) (sym w.ne.ensures ∙ w.if-ne.true))
          (first_below names i first c.requires.family w.in-Some.is) (ap (λ v. v.items) w.kept-is)
      | in-Some+else-ne w ↦
          let first = w.in-Some.first in
          subst (λ xs. AreKept names others (i + 1) xs) (ap (λ v. v.items) (sym w.kept-is))
          (kept_together names others i first kept so_far w.in-Some.is (not-false (are_together others first i) (sym w.ne.ensures ∙ w.if-ne.false)))
      | in_default w ↦ subst (λ xs. AreKept names others (i + 1) xs) (ap (λ v. v.items) (sym w.kept-is)) (kept_no_name names others i kept so_far w.in_default.is)
    ]

pub returns : goal.returns
returns c =
    let all : c.loop-number.number ≡ length c.args.names.now = omega arith in
    kept_all c.args.names.now c.args.others.now c.loop-number.kept.items (subst (λ n. AreKept c.args.names.now c.args.others.now n c.loop-number.kept.items) all c.loop-number.invariant)
