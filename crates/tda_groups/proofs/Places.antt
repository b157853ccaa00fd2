-- The number of a set among groups: there is one where the set is a group, and none where it has no cell.
use Rattle.std.proofs.Common.{◌≡◌, ℕ, ◌<◌, false, cond, List, [], length, Contains, Some, None, IsSomeAnd, slice_get, nat_lt, sym, ap, ◌∙◌, subst, arith}
use Rattle.std.specs.List.{position_or_len}
use Rattle.std.specs.Str.{bytes_eq}
use Rattle.std.proofs.lemmas.Bool.{lt-ltb, le-ltb, false_from_ne_true}
use Rattle.std.proofs.lemmas.List.{get_or_default}
use Rattle.std.proofs.lemmas.List.Sums.{position_or_len_is}
use Rattle.std.proofs.lemmas.Option.{slice_get-get_or}
use Rattle.std.proofs.lemmas.Slice.Eq.{bytes_eq-Decides}
use Rattle.tda_groups.specs.Order.{group_at, AreGroups}
use Rattle.tda_groups.specs.Tree.{place_in}
use Rattle.tda_groups.proofs.Chained.{set_at, same_group}

module _ (groups : List (List ℕ)) (h : AreGroups groups) (xs : List ℕ) where
  differs : (k : ℕ) → (group_at groups k ≡ xs → ⊥) → bytes_eq xs (group_at groups k) ≡ false
  differs k other = false_from_ne_true (bytes_eq xs (group_at groups k)) (λ e. other (sym ((bytes_eq-Decides xs (group_at groups k)).0 e)))

  placed : (n : ℕ) → position_or_len (bytes_eq xs) groups ≡ n → place_in groups xs ≡ cond (nat_lt n (length groups)) (Some n) None
  placed n e = ap (λ k. cond (nat_lt k (length groups)) (Some k) None) e

  pub place_none : length xs ≡ 0 → None ≡ place_in groups xs
  place_none empty =
      let last = position_or_len_is (bytes_eq xs) groups (length groups) [] (omega arith)
      (λ k below. differs k (λ e. let some = (set_at groups h k below).some in let size : length (group_at groups k) ≡ length xs = ap length e in omega arith))
      (λ below. absurd (omega arith)) in
      sym (placed (length groups) last ∙ ap (λ b. cond b (Some (length groups)) None) (le-ltb (length groups) (length groups) (omega arith)))

  pub place_found : (g : ℕ) → g < length groups → group_at groups g ≡ xs → Some g ≡ place_in groups xs
  place_found g below is =
      let here = position_or_len_is (bytes_eq xs) groups g [] (omega arith)
      (λ k low. differs k (λ e. let same = same_group groups h k g (omega arith) below (e ∙ sym is) in omega arith))
      (λ _. (bytes_eq-Decides xs (group_at groups g)).1 (sym is)) in
      sym (placed g here ∙ ap (λ b. cond b (Some g) None) (lt-ltb g (length groups) below))

  pub is_placed : Contains groups xs → IsSomeAnd (place_in groups xs) (λ g. slice_get groups g ≡ Some xs)
  is_placed found =
      let t = found.0 in
      let is : group_at groups t ≡ xs = get_or_default groups t [] xs found.1 ∙ found.2 in
      subst (λ o. IsSomeAnd o (λ g. slice_get groups g ≡ Some xs)) (place_found t found.1 is) (slice_get-get_or groups t [] found.1 ∙ ap Some is)
