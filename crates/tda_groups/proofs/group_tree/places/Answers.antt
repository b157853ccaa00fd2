use Rattle.std.proofs.Common.{◌≡◌, ◌∙◌, ◌++◌, ◌∷◌, [], List, ℕ, Option, length, map, take, ap, sym}
use Rattle.std.proofs.lemmas.Bool.{eqb-true}
use Rattle.std.proofs.lemmas.List.{map_more}
use Rattle.tda_groups.specs.Tree.{place_in}
use Rattle.tda_groups.proofs.Places.{place_none, place_found}
use Rattle.tda_groups.proofs.group_tree.places.Goals as goal
use Rattle.tda_groups.proofs.group_tree.places.Goals.{then-is_empty, else-is_empty}

pub loop-set-preserved : goal.loop-set-preserved
loop-set-preserved c =
    let groups = c.args.chains.now in
    let sets = c.args.sets.now in
    let i = c.loop-set.set-index in
    let set = c.set-item.result in
    let f : List ℕ → Option ℕ = place_in groups in
    let is : c.if-is_empty.place ≡ f set =
    elim c.if-is_empty.branch [
      | then-is_empty w ↦ w.place-is ∙ place_none groups c.requires.groups set (eqb-true (length set) 0 (sym c.is_empty.ensures ∙ w.if-is_empty.true))
      | else-is_empty w ↦ w.place-is ∙ place_found groups c.requires.groups set w.find.result w.find.ensures.here (w.find.ensures.value ∙ w.as_slice.ensures)
    ] in
    let so_far = c.loop-set.invariant in
    c.in_ok-push.ensures.items ∙ ap (λ xs. xs ++ c.if-is_empty.place ∷ []) so_far ∙ ap (λ x. map f (take i sets) ++ x ∷ []) (is ∙ ap f c.set-item.is) ∙ sym (map_more f sets i set c.loop-set-test.true)
