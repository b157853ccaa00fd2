-- One fit more, and all fits at the end.
use Rattle.std.proofs.Common.{◌≡◌, ◌≤◌, ◌<◌, ◌+◌, ◌∷◌, [], ◌++◌, ℕ, max, List, length, map, take, get_or, Option, Some, None, sym, ap, ◌∙◌, subst, arith}
use Rattle.std.proofs.lemmas.List.{take_more, take_all, map-append}
use Rattle.tda_model.specs.Spine.{parents_of}
use Rattle.tda_model.specs.Sizes.{fit_size}
use Rattle.tda_spine.specs.Largest.{IsLargest}
use Rattle.tda_spine.proofs.Fits.{inner_at}
use Rattle.tda_spine.proofs.Largest.{largest_one, largest_more}
use Rattle.tda_spine.proofs.spine.Spine.largest_fit.Goals as goal

-- the fits of the first parents, and of one parent more
one_more : (ps : List ℕ) (k p : ℕ) → k < length ps → p ≡ get_or ps k 0 → (None ∷ map Some (take k ps)) ++ Some p ∷ [] ≡ None ∷ map Some (take (k + 1) ps)
one_more ps k p l e =
    ap (λ q. None ∷ (map Some (take k ps) ++ Some q ∷ [])) e
    ∙ ap (λ xs. None ∷ xs) (sym (map-append Some (take k ps) (get_or ps k 0 ∷ [])))
    ∙ ap (λ xs. None ∷ map Some xs) (sym (take_more ps k 0 l))

more : (f : Option ℕ → ℕ) (ps : List ℕ) (k p n m r : ℕ) → k < length ps → p ≡ get_or ps k 0 → IsLargest f (None ∷ map Some (take k ps)) n → m ≡ f (Some p) → r ≡ max n m
    → IsLargest f (None ∷ map Some (take (k + 1) ps)) r
more f ps k p n m r l e h a b = subst (λ xs. IsLargest f xs r) (one_more ps k p l e) (largest_more f (None ∷ map Some (take k ps)) (Some p) n m r h a b)

pub size_of-requires-clause-fit : goal.size_of-requires-clause-fit
size_of-requires-clause-fit c =
    inner_at c.args.self.now c.units.ensures.sound.tree c.parents-parent-items.result.now c.parents-parent-items.ensures.value c.loop-parent.parent-index c.loop-parent-test.true

pub loop-parent-init : goal.loop-parent-init
loop-parent-init c =
    let size = c.size_of-largest.ensures in
    (largest_one (λ fit. (fit_size c.args.schema.now c.args.self.now fit).nodes) None _ size.nodes, largest_one (λ fit. (fit_size c.args.schema.now c.args.self.now fit).arcs) None _ size.arcs)

pub loop-parent-preserved : goal.loop-parent-preserved
loop-parent-preserved c =
    let s = c.args.schema.now in
    let sp = c.args.self.now in
    let k = c.loop-parent.parent-index in
    let items = c.parents-parent-items.result.now in
    let same = c.parents-parent-items.ensures.value in
    let below : k < length (parents_of sp) = omega (arith, c.loop-parent-test.true, ap length same) in
    let here : get_or items k 0 ≡ get_or (parents_of sp) k 0 = ap (λ xs. get_or xs k 0) same in
    let size = c.size_of.ensures in (
      more (λ fit. (fit_size s sp fit).nodes) (parents_of sp) k (get_or items k 0) _ _ _ below here c.loop-parent.invariant.0 size.nodes c.larger-largest.ensures.nodes,
      more (λ fit. (fit_size s sp fit).arcs) (parents_of sp) k (get_or items k 0) _ _ _ below here c.loop-parent.invariant.1 size.arcs c.larger-largest.ensures.arcs,
    )

pub returns : goal.returns
returns c =
    let s = c.args.schema.now in
    let sp = c.args.self.now in
    let all = take_all c.loop-parent.parent-index (parents_of sp) (omega (arith, c.loop-parent-test.false, ap length c.parents-parent-items.ensures.value)) in
    record {
      nodes = subst (λ ps. IsLargest (λ fit. (fit_size s sp fit).nodes) (None ∷ map Some ps) c.loop-parent.largest.nodes) all c.loop-parent.invariant.0;
      arcs = subst (λ ps. IsLargest (λ fit. (fit_size s sp fit).arcs) (None ∷ map Some ps) c.loop-parent.largest.arcs) all c.loop-parent.invariant.1;
    }
