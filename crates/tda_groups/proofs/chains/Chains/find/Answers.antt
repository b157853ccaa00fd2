use Rattle.std.proofs.Common.{◌≡◌, ◌∙◌, ◌<◌, ◌≤◌, ℕ, [], length, IsSome, MatchOption, Option, Some, None, subst, sym, ap, arith, rules}
use Rattle.std.proofs.lemmas.List.{get_or_read}
use Rattle.std.proofs.lemmas.Option.{MatchOption-at_some}
use Rattle.tda_groups.specs.Order.{group_at, AreGroups, IsNext}
use Rattle.tda_groups.proofs.Chained.{first_in_whole, smallest_within, next_within, not_whole, found}
use Rattle.tda_groups.proofs.chains.Chains.find.Goals as goal
use Rattle.tda_groups.proofs.chains.Chains.find.Goals.{After-self, After-len}

in_order : (c : After-self) → AreGroups c.args.self.now
in_order c = subst AreGroups c.self.view_is c.self.invariant.in_order

pub smallest-group-requires : goal.smallest-group-requires
smallest-group-requires c =
    let d = (goal.at.smallest-group-requires c).After-self in
    first_in_whole c.args.self.now (in_order d) c.args.set.now c.requires.some c.requires.known

pub loop-groups-init : goal.loop-groups-init
loop-groups-init c =
    let d = (goal.at.loop-groups-init c).After-self in
    let within = smallest_within c.args.self.now (in_order d) c.args.set.now c.requires.some c.requires.known c.smallest-group.result c.smallest-group.ensures.least in
    record { here = c.smallest-group.ensures.least.here; within = within }

-- the number that the loop's test reads
size : (c : After-len) → c.len.result ≡ length (group_at c.args.self.now c.loop-groups.group)
size c =
    let g = c.loop-groups.group in
    let below : g < length c.self.inside.groups.items = subst (λ gs. g < length gs) (sym c.self.view_is) c.loop-groups.invariant.here in
    c.len.ensures ∙ ap length (get_or_read c.self.inside.groups.items g c.index.result.now below c.index.ensures []) ∙ ap (λ gs. length (group_at gs g)) c.self.view_is

pub unwrap-group-requires : goal.unwrap-group-requires
unwrap-group-requires c =
    let d = (goal.at.unwrap-group-requires c).After-self in
    let e = size ((goal.at.unwrap-group-requires c).After-len) in
    let few : length (group_at c.args.self.now c.loop-groups.group) < length c.args.set.now = omega arith in
    by (c.loop-groups.group ≡ 0) (IsNext c.args.self.now c.loop-groups.group) c.next.result c.next.ensures.least (not_whole c.args.self.now (in_order d) c.args.set.now c.requires.some c.requires.known c.loop-groups.group few)
  where
    by : (P : Type 0) (Q : ℕ → Type 0) (o : Option ℕ) → MatchOption o P Q → (P → ⊥) → IsSome o
    by P Q (Some x) h never = search rules
    by P Q None h never = absurd (never h)

pub loop-groups-preserved : goal.loop-groups-preserved
loop-groups-preserved c =
    let d = (goal.at.loop-groups-preserved c).After-self in
    let e = size ((goal.at.loop-groups-preserved c).After-len) in
    let groups = c.args.self.now in
    let g = c.loop-groups.group in
    let k = c.unwrap-group.result in
    let few : length (group_at groups g) < length c.args.set.now = omega arith in
    let is : IsNext groups g k = MatchOption-at_some (g ≡ 0) (IsNext groups g) k c.unwrap-group.ensures c.next.ensures.least in
    record {
      here = omega (arith, is.less, c.loop-groups.invariant.here);
      within = next_within groups (in_order d) c.args.set.now c.requires.some c.requires.known g k few c.loop-groups.invariant.within is;
    }

pub returns-clause-value : goal.returns-clause-value
returns-clause-value c =
    let d = (goal.at.returns-clause-value c).After-self in
    let e = size ((goal.at.returns-clause-value c).After-len) in
    let large : length c.args.set.now ≤ length (group_at c.args.self.now c.loop-groups.group) = omega arith in
    found c.args.self.now (in_order d) c.args.set.now c.requires.some c.requires.known c.loop-groups.group c.loop-groups.invariant.here large c.loop-groups.invariant.within
