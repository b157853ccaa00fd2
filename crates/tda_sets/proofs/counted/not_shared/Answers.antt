use Rattle.std.proofs.Common.{◌≡◌, ◌∙◌, ◌&&◌, ℕ, Bool, true, false, not, get_or, ap, sym}
use Rattle.tda_sets.specs.Counted.{is_shared}
use Rattle.tda_sets.proofs.Ranges.{map_range_push}
use Rattle.tda_sets.proofs.counted.not_shared.Goals as goal
use Rattle.tda_sets.proofs.counted.not_shared.Goals.{then-mark, else-mark}

pub loop-number-preserved : goal.loop-number-preserved
loop-number-preserved c =
    let marks = c.args.marks.now in
    let names = c.names-names.result.now in
    let others = c.names-others.result.now in
    let i = c.loop-number.number in
    let f : ℕ → Bool = λ r. get_or marks r false && not (is_shared names others r) in
    let is : c.if-mark.stays ≡ f i =
    elim c.if-mark.branch [
      | then-mark w ↦ w.stays-is ∙ ap not w.is_shared.ensures ∙ sym (ap (λ b. b && not (is_shared names others i)) w.if-mark.true)
      | else-mark w ↦ w.stays-is ∙ w.if-mark.false ∙ sym (ap (λ b. b && not (is_shared names others i)) w.if-mark.false)
    ] in
    map_range_push f i c.loop-number.left.items c.push.new.self.items c.if-mark.stays c.in_ok-push.ensures.items c.loop-number.invariant is
