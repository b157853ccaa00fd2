use Rattle.std.proofs.Common.{◌≡◌, ◌∙◌, ap, subst, IfOk, length}
use Rattle.tda_sets.specs.Family.{is_member, are_together, family_of}
use Rattle.tda_sets.proofs.Splits.{mark_keys_below, mark_family}
use Rattle.tda_sets.proofs.family.Family.whole.Goals as goal

pub by_keys-requires-clause-in_range : goal.by_keys-requires-clause-in_range
by_keys-requires-clause-in_range c = rw (c.deref.ensures.value, c.in_ok-keys.ensures) (mark_keys_below c.args.marks.now)

pub returns : goal.returns
returns c =
    subst (λ x. IfOk c.by_keys.result (λ f. f ≡ x))
    (ap (λ ks. family_of (length ks) (is_member ks) (are_together ks)) (c.deref.ensures.value ∙ c.in_ok-keys.ensures) ∙ mark_family c.args.marks.now)
    c.by_keys.ensures
