-- One more group.
use Rattle.std.proofs.Common.{◌≡◌, ◌∷◌, [], ◌++◌, ℕ, length, subst, sym, ap, ◌∙◌, arith}
use Rattle.tda_model.specs.Bounds.{persons_limit}
use Rattle.tda_model.specs.Schema.{Level}
use Rattle.tda_model.specs.Spine.{IsUnit, level_of, nation_of}
use Rattle.tda_schema.specs.Stated.{level_at}
use Rattle.tda_places.specs.Spots.{before_level}
use Rattle.tda_fitnet.specs.Layout.{row}
use Rattle.tda_fitnet.specs.Inputs.{inputs_of}
use Rattle.tda_fitnet.specs.Arcs.{NamedArc, group_arc}
use Rattle.tda_fitnet.proofs.OneMore.{row_more}
use Rattle.tda_fitnet.proofs.TermStep.{ready_at}
use Rattle.tda_fitnet.proofs.root.push_nation_groups.Goals as goal

pub unit_first-first-requires-clause-unit : goal.unit_first-first-requires-clause-unit
unit_first-first-requires-clause-unit c = subst (IsUnit c.args.spine.now) (sym c.nation-nation.ensures.nation) c.nation-nation.ensures.sound.tree.root

pub unit_first-first-requires-clause-level : goal.unit_first-first-requires-clause-level
unit_first-first-requires-clause-level c =
    c.level_first.ensures.first ∙ ap (before_level c.args.schema.now c.args.spine.now) (sym (ap (level_of c.args.spine.now) c.nation-nation.ensures.nation ∙ c.nation-nation.ensures.sound.tree.root_level))

pub push_group-requires-clause-ready : goal.push_group-requires-clause-ready
push_group-requires-clause-ready c =
    let s = c.args.schema.now in
    let sp = c.args.spine.now in
    let sound = c.nation-nation.ensures.sound in
    let at_zero = ap (level_of sp) c.nation-nation.ensures.nation ∙ sound.tree.root_level in (
      s,
      sp,
      ready_at s sp c.args.tree.now c.in_ok-terms.terms c.args.m.now c.nation-nation.result c.unit_first-first.result 0 at_zero
          (omega (arith, sound.tree.deep, c.requires.belong)) c.requires.tree c.in_ok-terms.ensures c.requires.measured c.unit_first-first.ensures,
    )

pub push_group-requires-clause-room : goal.push_group-requires-clause-room
push_group-requires-clause-room c = omega (arith, c.loop-group.invariant.1, c.requires.room, c.loop-group-test.true, c.len-group-end.ensures.count)

pub loop-group-preserved : goal.loop-group-preserved
loop-group-preserved c =
    let s = c.args.schema.now in
    let sp = c.args.spine.now in
    let groups = c.args.tree.now.groups in
    let L = c.args.layout in
    let g = c.loop-group.group in
    let nation = c.nation-nation.result in
    let sound = c.nation-nation.ensures.sound in
    let at_zero = ap (level_of sp) c.nation-nation.ensures.nation ∙ sound.tree.root_level in
    let ready = ready_at s sp c.args.tree.now c.in_ok-terms.terms c.args.m.now nation c.unit_first-first.result 0 at_zero
    (omega (arith, sound.tree.deep, c.requires.belong)) c.requires.tree c.in_ok-terms.ensures c.requires.measured c.unit_first-first.ensures in (
      c.in_ok-push_group.ensures.nodes ∙ c.loop-group.invariant.0,
      c.in_ok-push_group.ensures.count ∙ omega (arith, c.loop-group.invariant.1),
      λ inv.
          let arc : Level → ℕ → ℕ → NamedArc = λ level unit h. group_arc (inputs_of s sp inv c.args.m.now) L groups level 0 unit h 0 persons_limit in
          c.in_ok-push_group.ensures.arcs s sp ready inv L 0 c.first_group-base.ensures.node
          ∙ ap (λ v. c.loop-group.fit.arcs ++ arc (level_at s v) nation g ∷ []) at_zero
          ∙ ap (λ v. c.loop-group.fit.arcs ++ arc (level_at s 0) v g ∷ []) c.nation-nation.ensures.nation
          ∙ row_more _ _ g (arc (level_at s 0) (nation_of sp)) (c.loop-group.invariant.2 inv),
    )

pub returns-clause-arcs : goal.returns-clause-arcs
returns-clause-arcs c inv =
    let groups = c.args.tree.now.groups in
    let all : c.loop-group.group ≡ length groups = omega (arith, c.loop-group-test.false, c.loop-group.auto.group-end, c.len-group-end.ensures.count) in
    c.loop-group.invariant.2 inv
    ∙ ap (λ n. c.args.fit.now.arcs ++ row n (λ g. group_arc (inputs_of c.args.schema.now c.args.spine.now inv c.args.m.now) c.args.layout groups (level_at c.args.schema.now 0) 0 (nation_of c.args.spine.now) g 0 persons_limit)) all
