-- In fit order a unit's children come after it.
use Rattle.std.proofs.Common.{◌≢◌, ℕ, ◌+◌, ◌<◌, List, length, get_or, drop}
use Rattle.tda_model.specs.Spine.{Spine, nation_of, parents_of, HasParent, IsTree}
use Rattle.tda_model.proofs.FitOrder as order
use Rattle.tda_model.proofs.Sums.{Each}
use Rattle.tda_spine.specs.Sound.{IsInner}

-- the number is one of the list
abbrev pub IsAmong : ℕ → List ℕ → Type 0
IsAmong c us = Each (λ v. v ≢ c) us → ⊥

-- a child of the unit at a place that has children itself stands at a later place
pub child_later : (sp : Spine) → IsTree sp (nation_of sp) → (k : ℕ) → k < length (parents_of sp) → (c : ℕ) → IsInner sp c → HasParent sp c (get_or (parents_of sp) k 0)
    → IsAmong c (drop (k + 1) (parents_of sp))
child_later sp t k l c inner up = order.child_later sp t k l c inner.here inner.above up
