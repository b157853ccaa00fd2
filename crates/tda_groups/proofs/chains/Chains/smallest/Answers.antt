use Rattle.std.proofs.Common.{◌≡◌, ◌∙◌, Contains, None, subst, sym, arith}
use Rattle.std.proofs.lemmas.List.{get_or_read}
use Rattle.std.proofs.lemmas.Option.{MatchOption-at_some}
use Rattle.tda_groups.specs.Order.{group_at, IsSmallest}
use Rattle.tda_groups.specs.Chains.{smallest_of}
use Rattle.tda_groups.proofs.Unique.{smallest_is_of}
use Rattle.tda_groups.proofs.chains.Chains.smallest.Goals as goal
use Rattle.tda_groups.proofs.chains.Chains.smallest.Goals.{After-self}

whole : (c : After-self) → Contains (group_at c.self.inside.groups.items 0) c.args.cell
whole c = subst (λ gs. Contains (group_at gs 0) c.args.cell) (sym c.self.view_is) c.requires

pub index-requires : goal.index-requires
index-requires c = omega (arith, c.self.invariant.smallest_count c.args.cell (whole c), c.self.inside.smallest.ok.0)

pub returns-clause-least : goal.returns-clause-least
returns-clause-least c =
    let d = (goal.at.returns-clause-least c).After-self in
    let below = c.self.invariant.smallest_count c.args.cell (whole d) in
    let is = sym (get_or_read c.self.inside.smallest.items c.args.cell c.index.result.now below c.index.ensures None) ∙ c.unwrap.ensures in
    subst (λ gs. IsSmallest gs c.args.cell c.unwrap.result) c.self.view_is
    (MatchOption-at_some ⊥ (IsSmallest c.self.inside.groups.items c.args.cell) c.unwrap.result is (c.self.invariant.smallest_is c.args.cell (whole d)))

pub returns-clause-value : goal.returns-clause-value
returns-clause-value c =
    let d = (goal.at.returns-clause-value c).After-self in
    let below = c.self.invariant.smallest_count c.args.cell (whole d) in
    let is = sym (get_or_read c.self.inside.smallest.items c.args.cell c.index.result.now below c.index.ensures None) ∙ c.unwrap.ensures in
    let least = MatchOption-at_some ⊥ (IsSmallest c.self.inside.groups.items c.args.cell) c.unwrap.result is (c.self.invariant.smallest_is c.args.cell (whole d)) in
    subst (λ gs. c.unwrap.result ≡ smallest_of gs c.args.cell) c.self.view_is
    (smallest_is_of c.self.inside.groups.items c.self.invariant.in_order c.args.cell c.unwrap.result least)
