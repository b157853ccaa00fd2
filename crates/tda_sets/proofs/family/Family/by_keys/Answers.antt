use Rattle.std.proofs.Common.{◌≡◌, ◌∙◌, ◌+◌, ◌<◌, ◌≤◌, ap, sym, subst, arith, Option, ℕ, Some, None, length, map, get_or, set, unwrap_or, All, IfSome}
use Rattle.std.proofs.lemmas.List.{length-set, with_items_is}
use Rattle.std.specs.List.{range_with_len}
use Rattle.tda_sets.specs.Family.{Names, is_member, are_together, name_of}
use Rattle.tda_sets.proofs.Ranges.{map_range_push}
use Rattle.tda_sets.proofs.Keys.{IsTable, a_key, a_key_named, no_key, no_key_named, by_keys_is}
use Rattle.tda_sets.proofs.family.Family.by_keys.Goals as goal
use Rattle.tda_sets.proofs.family.Family.by_keys.Goals.{in-Some, in-None}

pub loop-number-preserved : goal.loop-number-preserved
loop-number-preserved c =
    let keys = c.args.keys.now in
    let bound = c.args.bound in
    let i = c.loop-number.number in
    let before = c.loop-number.names.items in
    let after = c.push.new.self.items in
    let name = c.match-key.name in
    let table = c.loop-number.firsts.items in
    let f : ℕ → Option ℕ = name_of (length keys) (is_member keys) (are_together keys) in
    elim c.match-key.branch [
      | in-Some w ↦
          let k = w.in-Some.key in
          let r = w.first_at.result in
          let put : w.first_at.new.firsts ≡ set table k (Some r) = w.first_at.ensures.after ∙ ap (λ xs. set xs k (Some r)) w.deref_mut.ensures.value in
          let items : c.match-key.firsts.items ≡ w.first_at.new.firsts =
          ap (λ v. v.items) w.firsts-is ∙ with_items_is c.loop-number.firsts w.first_at.new.firsts (ap length put ∙ length-set table k (Some r) ∙ sym c.loop-number.firsts.ok.0) in
          let is : r ≡ unwrap_or (get_or table k None) i = w.first_at.ensures.value ∙ ap (λ xs. unwrap_or (get_or xs k None) i) w.deref_mut.ensures.value in
          let within : k < bound = subst (λ o. IfSome o (λ x. x < bound)) w.in-Some.is (c.requires.in_range i None c.loop-number-test.true) in
          let t = a_key keys bound i k table c.match-key.firsts.items r c.loop-number.invariant.table w.in-Some.is within is (items ∙ put) in
          let named = a_key_named keys bound i k table c.match-key.firsts.items r c.loop-number.invariant.table w.in-Some.is within is (items ∙ put) c.loop-number-test.true in
          record { table = t; names = map_range_push f i before after name c.in_ok-push.ensures.items c.loop-number.invariant.names (w.name-is ∙ named) }
      | in-None w ↦
          let same : table ≡ c.match-key.firsts.items = ap (λ v. v.items) (sym w.firsts-is) in
          record {
            table = subst (λ xs. IsTable keys bound (i + 1) xs) same (no_key keys bound i table c.loop-number.invariant.table w.in-None.is);
            names = map_range_push f i before after name c.in_ok-push.ensures.items c.loop-number.invariant.names (w.name-is ∙ no_key_named keys i w.in-None.is);
          }
    ]

pub invariant_of-result : goal.invariant_of-result
invariant_of-result c =
    let keys = c.args.keys.now in
    let all : c.loop-number.number ≡ length keys = omega arith in
    by_keys_is keys c.requires.few c.loop-number.names.items (c.loop-number.invariant.names ∙ ap (λ n. map (name_of (length keys) (is_member keys) (are_together keys)) (range_with_len 0 n)) all)
