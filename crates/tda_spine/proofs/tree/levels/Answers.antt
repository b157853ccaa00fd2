use Rattle.std.proofs.Common.{◌≡◌, ◌∙◌, ◌<◌, ap, length, sym, arith, map}
use Rattle.std.specs.List.{filter, range_with_len}
use Rattle.tda_model.specs.Spine.{is_at, level_of}
use Rattle.tda_spine.specs.Sound.{spine_of}
use Rattle.tda_spine.proofs.Grouped.{grouped_none, grouped_put, grouped_all}
use Rattle.tda_spine.proofs.Lookups.{level_at, at_yes, at_no}
use Rattle.tda_spine.proofs.tree.levels.Goals as goal

pub loop-number-init : goal.loop-number-init
loop-number-init c = grouped_none _ _ _ c.in_ok-lists.ensures

pub push-requires : goal.push-requires
push-requires c =
    let sp = spine_of c.args.depth c.args.units.now in
    let level : level_of sp c.loop-number.number ≡ c.unit.inside.level =
    level_at sp c.loop-number.number c.index-units-number.result c.index-units-number.is c.loop-number-test.true ∙ sym (ap (λ x. x.level) c.unit.view_is) in
    let within : level_of sp c.loop-number.number < c.args.depth = c.requires.within c.loop-number.number c.loop-number-test.true in
    omega (arith, c.loop-number.invariant.whole)

pub loop-number-preserved : goal.loop-number-preserved
loop-number-preserved c =
    let sp = spine_of c.args.depth c.args.units.now in
    let k = c.loop-number.number in
    let level : level_of sp k ≡ c.unit.inside.level =
    level_at sp k c.index-units-number.result c.index-units-number.is c.loop-number-test.true ∙ sym (ap (λ x. x.level) c.unit.view_is) in
    let within : level_of sp k < c.args.depth = c.requires.within k c.loop-number-test.true in
    grouped_put (is_at sp) c.args.depth k c.unit.inside.level c.loop-number.lists _ c.loop-number.invariant (omega arith)
    (at_yes sp k _ level) (λ p ne. at_no sp k _ p level ne) c.in_ok-push.ensures

pub returns : goal.returns
returns c =
    let sp = spine_of c.args.depth c.args.units.now in
    let done : c.loop-number.number ≡ length c.args.units.now = omega arith in
    grouped_all (is_at sp) c.args.depth c.loop-number.number c.loop-number.lists c.loop-number.invariant
    ∙ ap (λ n. map (λ p. filter (is_at sp p) (range_with_len 0 n)) (range_with_len 0 c.args.depth)) done
