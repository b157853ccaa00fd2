use Rattle.std.proofs.Common.{◌≡◌, ◌∙◌, ap, length, subst, sym, arith, Some, ℕ, List, ◌+◌, map}
use Rattle.std.specs.List.{filter, range_with_len}
use Rattle.tda_model.specs.Spine.{is_child, parent_of, nation_of}
use Rattle.tda_spine.specs.Sound.{spine_of}
use Rattle.tda_spine.proofs.Grouped.{Grouped, grouped_none, grouped_put, grouped_skip, grouped_all}
use Rattle.tda_spine.proofs.Lookups.{parent_at, parent_tells, child_yes, child_no, child_never}
use Rattle.tda_spine.proofs.tree.children.Goals.{in-Some+in_ok-push, in_default}
use Rattle.tda_spine.proofs.tree.children.Goals as goal

pub loop-number-init : goal.loop-number-init
loop-number-init c = grouped_none _ _ _ c.in_ok-lists.ensures

pub push-requires : goal.push-requires
push-requires c =
    let sp = spine_of c.args.depth c.args.units.now in
    let k = c.loop-number.number in
    let named : parent_of sp k ≡ Some c.in-Some.parent =
    parent_at sp k c.index-units-number.result c.index-units-number.is c.loop-number-test.true ∙ sym (ap (λ x. x.parent) c.unit.view_is) ∙ c.in-Some.is in
    let here = (parent_tells sp k (nation_of sp) c.in-Some.parent c.requires.tree c.loop-number-test.true named).here in
    omega (arith, c.loop-number.invariant.whole, here)

pub loop-number-preserved : goal.loop-number-preserved
loop-number-preserved c =
    let sp = spine_of c.args.depth c.args.units.now in
    let k = c.loop-number.number in
    let named : parent_of sp k ≡ c.unit.inside.parent =
    parent_at sp k c.index-units-number.result c.index-units-number.is c.loop-number-test.true ∙ sym (ap (λ x. x.parent) c.unit.view_is) in
    elim c.match-unit.branch [
      | in-Some+in_ok-push w ↦
          let known : parent_of sp k ≡ Some w.in-Some.parent = named ∙ w.in-Some.is in
          let here = (parent_tells sp k (nation_of sp) w.in-Some.parent c.requires.tree c.loop-number-test.true known).here in
          grouped_put (is_child sp) (length c.args.units.now) k w.in-Some.parent c.loop-number.lists c.match-unit.lists c.loop-number.invariant here
          (child_yes sp k w.in-Some.parent known) (λ p. child_no sp k p w.in-Some.parent known) (w.lists-is ∙ w.in_ok-push.ensures)
      | in_default w ↦
          let P : List (List ℕ) → Type 0 = Grouped (is_child sp) (length c.args.units.now) (k + 1) in
          subst P (sym w.lists-is)
          (grouped_skip (is_child sp) (length c.args.units.now) k c.loop-number.lists c.loop-number.invariant (λ p. child_never sp k p (named ∙ w.in_default.is)))
    ]

pub returns : goal.returns
returns c =
    let sp = spine_of c.args.depth c.args.units.now in
    let count = length c.args.units.now in
    let done : c.loop-number.number ≡ count = omega arith in
    grouped_all (is_child sp) count c.loop-number.number c.loop-number.lists c.loop-number.invariant
    ∙ ap (λ n. map (λ p. filter (is_child sp p) (range_with_len 0 n)) (range_with_len 0 count)) done
