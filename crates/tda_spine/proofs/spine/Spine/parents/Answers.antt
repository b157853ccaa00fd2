use Rattle.std.proofs.Common.{◌≡◌, ◌≢◌, ◌∙◌, ◌↔◌, ℕ, List, slice_get, Contains, Some, sym, subst}
use Rattle.std.specs.List.{AllPairs}
use Rattle.tda_model.specs.Spine.{Spine, nation_of, parents_of}
use Rattle.tda_spine.specs.Sound.{spine_of, IsInner, FollowParents}
use Rattle.tda_spine.proofs.FitOrder.{parents_exact, parents_distinct, nation_leads, parents_follow}
use Rattle.tda_spine.proofs.spine.Spine.parents.Goals as goal

pub returns-clause-exact : goal.returns-clause-exact
returns-clause-exact c =
    let sp = spine_of c.self.inside.depth c.self.inside.units.items in
    let us = c.as_slice.result.now in
    let same : parents_of sp ≡ us = sym (c.as_slice.ensures.value ∙ c.self.invariant.parents_are) in
    subst (λ (v : Spine). (u : ℕ) → Contains us u ↔ IsInner v u) c.self.view_is
    (subst (λ (vs : List ℕ). (u : ℕ) → Contains vs u ↔ IsInner sp u) same (parents_exact sp c.self.invariant.sound.tree))

pub returns-clause-once : goal.returns-clause-once
returns-clause-once c =
    let sp = spine_of c.self.inside.depth c.self.inside.units.items in
    let same : parents_of sp ≡ c.as_slice.result.now = sym (c.as_slice.ensures.value ∙ c.self.invariant.parents_are) in
    subst (λ (vs : List ℕ). AllPairs (λ u v. u ≢ v) vs) same (parents_distinct sp c.self.invariant.sound.tree)

pub returns-clause-first : goal.returns-clause-first
returns-clause-first c =
    let sp = spine_of c.self.inside.depth c.self.inside.units.items in
    let us = c.as_slice.result.now in
    let same : parents_of sp ≡ us = sym (c.as_slice.ensures.value ∙ c.self.invariant.parents_are) in
    subst (λ (v : Spine). slice_get us 0 ≡ Some (nation_of v)) c.self.view_is
    (subst (λ (vs : List ℕ). slice_get vs 0 ≡ Some (nation_of sp)) same (nation_leads sp c.self.invariant.sound.tree))

pub returns-clause-order : goal.returns-clause-order
returns-clause-order c =
    let sp = spine_of c.self.inside.depth c.self.inside.units.items in
    let us = c.as_slice.result.now in
    let same : parents_of sp ≡ us = sym (c.as_slice.ensures.value ∙ c.self.invariant.parents_are) in
    subst (λ (v : Spine). FollowParents v us) c.self.view_is
    (subst (λ (vs : List ℕ). FollowParents sp vs) same (parents_follow sp c.self.invariant.sound.tree))
