use Rattle.std.proofs.Common.{◌≡◌, ◌∙◌, ◌*◌, ◌≤◌, ◌<◌, ap, sym, subst, All, IfSome, IfOk, map, length, arith}
use Rattle.std.proofs.lemmas.List.FromFn.{length-map-range_with_len}
use Rattle.std.specs.List.{range_with_len}
use Rattle.tda_sets.specs.Family.{Names, IsFamily, is_member, are_together, family_of, split_key}
use Rattle.tda_sets.proofs.Splits.{split_keys, split_keys_below, split_family}
use Rattle.tda_sets.proofs.family.Family.split.Goals as goal
use Rattle.tda_sets.proofs.family.Family.split.Goals.{After-len}

family : (c : After-len) → IsFamily c.args.self.now
family c = subst (λ ns. IsFamily ns) c.self.view_is c.self.invariant

keys : (c : After-len) → c.deref-2.result.now ≡ map (split_key c.args.self.now c.args.values.now c.args.digits.now) (range_with_len 0 (length c.args.self.now))
keys c =
    c.deref-2.ensures.value ∙ c.in_ok-keys.ensures
    ∙ ap (λ ns. map (split_key ns c.args.values.now c.args.digits.now) (range_with_len 0 (length ns))) (c.deref.ensures.value ∙ c.self.view_is)

pub by_keys-requires-clause-few : goal.by_keys-requires-clause-few
by_keys-requires-clause-few c =
    let names = c.args.self.now in
    let f = family c in
    omega (arith, f.few, ap length (keys c), length-map-range_with_len (split_key names c.args.values.now c.args.digits.now) 0 (length names))

pub by_keys-requires-clause-in_range : goal.by_keys-requires-clause-in_range
by_keys-requires-clause-in_range c =
    let names = c.args.self.now in
    let bound : c.len.result ≡ length names = c.len.ensures ∙ c.self.inside.names.ok.0 ∙ ap length c.self.view_is in
    rw (keys c, bound) (split_keys_below names c.args.values.now c.args.digits.now (family c) c.requires.one_each c.requires.values c.requires.digits)

pub returns : goal.returns
returns c =
    let d = (goal.at.returns c).After-len in
    let names = c.args.self.now in
    subst (λ x. IfOk c.by_keys.result (λ f. f ≡ x))
    (ap (λ ks. family_of (length ks) (is_member ks) (are_together ks)) (keys d)
    ∙ split_family names c.args.values.now c.args.digits.now (family d) c.requires.one_each c.requires.values c.requires.digits)
    c.by_keys.ensures
