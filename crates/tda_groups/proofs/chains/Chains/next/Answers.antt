use Rattle.std.proofs.Common.{◌≡◌, ◌<◌, ℕ, List, length, Option, None, Some, MatchOption, IfSome, subst, sym, arith}
use Rattle.std.proofs.lemmas.List.{get_or_read}
use Rattle.tda_groups.specs.Order.{AreGroups, IsNext}
use Rattle.tda_groups.specs.Chains.{next_of}
use Rattle.tda_groups.proofs.Unique.{next_is_of}
use Rattle.tda_groups.proofs.chains.Chains.next.Goals as goal

told : (groups : List (List ℕ)) → AreGroups groups → (g : ℕ) → g < length groups → (o : Option ℕ) → MatchOption o (g ≡ 0) (IsNext groups g)
    → IfSome o (λ k. k ≡ next_of groups g)
told groups h g low None next = tt
told groups h g low (Some k) next = next_is_of groups h g k low next

pub returns-clause-value : goal.returns-clause-value
returns-clause-value c =
    let groups = c.self.inside.groups.items in
    let g = c.args.group in
    let low : g < length groups = subst (λ gs. g < length gs) (sym c.self.view_is) c.requires in
    let read = get_or_read c.self.inside.next.items g c.index.result.now (omega (arith, low, c.self.invariant.next_count)) c.index.ensures None in
    let next = subst (λ o. MatchOption o (g ≡ 0) (IsNext groups g)) (sym read) (c.self.invariant.next_is g low) in
    subst (λ gs. IfSome c.index.result.now (λ k. k ≡ next_of gs g)) c.self.view_is (told groups c.self.invariant.in_order g low c.index.result.now next)
