use Rattle.std.proofs.Common.{◌≡◌, ◌∙◌, ◌++◌, ◌∷◌, [], Bool, ℕ, None, Some, nat_eq, get_or, ap, sym}
use Rattle.std.specs.Option.{option_eq}
use Rattle.tda_sets.specs.Family.{is_in}
use Rattle.tda_sets.proofs.Ranges.{filter_range_push, filter_range_skip}
use Rattle.tda_sets.proofs.family.Family.firsts.Goals as goal
use Rattle.tda_sets.proofs.family.Family.firsts.Goals.{then-eq+in_ok-push, else-eq}

pub loop-number-preserved : goal.loop-number-preserved
loop-number-preserved c =
    let names = c.args.self.now in
    let i = c.loop-number.number in
    let p : ℕ → Bool = λ k. is_in names k k in
    let is : c.eq.result ≡ p i = c.eq.ensures ∙ ap (λ ns. option_eq nat_eq (get_or ns i None) (Some i)) (c.deref-name-items.ensures.value ∙ c.self.view_is) in
    elim c.if-eq.branch [
      | then-eq+in_ok-push w ↦
          ap (λ v. v.items) w.firsts-is ∙ w.in_ok-push.ensures.items ∙ ap (λ xs. xs ++ i ∷ []) c.loop-number.invariant ∙ sym (filter_range_push p i (sym is ∙ w.if-eq.true))
      | else-eq w ↦ ap (λ v. v.items) w.firsts-is ∙ c.loop-number.invariant ∙ sym (filter_range_skip p i (sym is ∙ w.if-eq.false))
    ]
