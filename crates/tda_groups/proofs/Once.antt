-- Sets in order, of which each is kept once: where it differs from the one kept last.
use Rattle.std.proofs.Common.{◌≡◌, ℕ, ◌+◌, ◌-◌, ◌<◌, ◌≤◌, List, [], ◌∷◌, ◌++◌, length, get_or, take, All, Contains, refl, sym, ap, ◌∙◌, subst, arith, inl, inr}
use Rattle.std.specs.List.{AllPairs, AllAdjacentBelow}
use Rattle.std.proofs.lemmas.Bool.{cases_lt, cases_eq}
use Rattle.std.proofs.lemmas.List.{length_push, get_or_push, get_or_append_left, take_more, get_or_default}
use Rattle.std.proofs.lemmas.List.Elements.{Contains-get_or, Contains-append_left, Contains-push, Contains-push_cases}
use Rattle.tda_model.specs.Groups.{AreNested}
use Rattle.tda_sets.specs.Nested.{AreAllNested}
use Rattle.tda_groups.specs.Order.{ComesBefore, ComesNoLater, IsCellSet}
use Rattle.tda_groups.proofs.Ordering.{before_trans, comes_before}

-- of the first sets each is kept, in order, the last one last
pub record IsGathered (sets done kept : List (List ℕ)) : Type 0 where
  pub front : done ≡ take (length done) sets
  pub within : length done ≤ length sets
  pub ordered : AllPairs ComesBefore kept
  pub has : (xs : List ℕ) → Contains done xs → Contains kept xs
  pub from : (xs : List ℕ) → Contains kept xs → Contains done xs
  pub few : length kept ≤ length done
  pub some : 0 < length done → 0 < length kept
  pub last : 0 < length done → get_or kept (length kept - 1) [] ≡ get_or sets (length done - 1) []

pub gathered_none : (sets : List (List ℕ)) → IsGathered sets [] []
gathered_none sets = record {
  front = refl;
  within = omega arith;
  ordered = λ i j d low high. absurd (omega arith);
  has = λ xs found. found;
  from = λ xs found. found;
  few = omega arith;
  some = λ some. some;
  last = λ some. absurd (omega arith);
}

pairs_push : (kept : List (List ℕ)) (set : List ℕ) → AllPairs ComesBefore kept → (0 < length kept → ComesBefore (get_or kept (length kept - 1) []) set) → AllPairs ComesBefore (kept ++ set ∷ [])
pairs_push kept set ordered after i j d low high =
    let size = length_push kept set in
    elim (cases_lt j (length kept)) [
      | inl below ↦
          rw (get_or_append_left kept (set ∷ []) d i (omega arith), get_or_append_left kept (set ∷ []) d j below) (ordered i j d low below)
      | inr past ↦
          let at : j ≡ length kept = omega arith in
          let here : get_or (kept ++ set ∷ []) j d ≡ set = get_or_push kept set d j (sym at) in
          let there : get_or (kept ++ set ∷ []) i d ≡ get_or kept i [] = get_or_append_left kept (set ∷ []) d i (omega arith) ∙ get_or_default kept i d [] (omega arith) in
          let last = after (omega arith) in
          rw (here, there) (elim (cases_eq i (length kept - 1)) [
            | inl e ↦ subst (λ k. ComesBefore (get_or kept k []) set) (sym e) last
            | inr ne ↦ before_trans (get_or kept i []) (get_or kept (length kept - 1) []) set (ordered i (length kept - 1) [] (omega arith) (omega arith)) last
          ])
    ]

module _ (sets : List (List ℕ)) (cells : All IsCellSet sets) (nested : AreAllNested sets sets) (sorted : AllAdjacentBelow ComesNoLater sets (length sets)) where
  module _ (done kept : List (List ℕ)) (set : List ℕ) (h : IsGathered sets done kept) (below : length done < length sets) (is : set ≡ get_or sets (length done) []) where
    front_more : done ++ set ∷ [] ≡ take (length (done ++ set ∷ [])) sets
    front_more =
        ap (λ xs. xs ++ set ∷ []) h.front ∙ ap (λ x. take (length done) sets ++ x ∷ []) is ∙ sym (take_more sets (length done) [] below)
        ∙ ap (λ n. take n sets) (sym (length_push done set))

    -- a set that is the last one kept
    pub gathered_again : 0 < length kept → get_or kept (length kept - 1) [] ≡ set → IsGathered sets (done ++ set ∷ []) kept
    gathered_again some same = record {
      front = front_more;
      within = omega (arith, length_push done set);
      ordered = h.ordered;
      has = λ xs found. elim (Contains-push_cases done set xs found) [
        | inl before ↦ h.has xs before
        | inr here ↦ subst (Contains kept) (same ∙ here) (Contains-get_or kept (length kept - 1) [] (omega arith))
      ];
      from = λ xs found. Contains-append_left done (set ∷ []) xs (h.from xs found);
      few = omega (arith, length_push done set, h.few);
      some = λ _. some;
      last = λ _. same ∙ is ∙ ap (λ n. get_or sets n []) (let size = length_push done set in omega arith);
    }

    -- and another one
    pub gathered_more : (0 < length kept → get_or kept (length kept - 1) [] ≡ set → ⊥) → IsGathered sets (done ++ set ∷ []) (kept ++ set ∷ [])
    gathered_more other =
        let more = length_push done set in
        let size = length_push kept set in
        let few = h.few in
        record {
          front = front_more;
          within = omega arith;
          ordered = pairs_push kept set h.ordered (λ some.
              let before : 0 < length done = omega arith in
              let last = h.last before in
              let n = length done - 1 in
              let next : n + 1 ≡ length done = omega arith in
              let here : get_or sets (n + 1) [] ≡ set = ap (λ k. get_or sets k []) next ∙ sym is in
              rw last (comes_before (get_or sets n []) set (cells n [] (omega arith)) (subst IsCellSet (sym is) (cells (length done) [] below))
              (subst (AreNested (get_or sets n [])) (sym is) (nested n [] (omega arith) (length done) [] below))
              (subst (ComesNoLater (get_or sets n [])) here (sorted n [] (omega arith)))
              (λ e. other some (last ∙ e))));
          has = λ xs found. elim (Contains-push_cases done set xs found) [
            | inl before ↦ Contains-append_left kept (set ∷ []) xs (h.has xs before)
            | inr here ↦ subst (Contains (kept ++ set ∷ [])) here (Contains-push kept set)
          ];
          from = λ xs found. elim (Contains-push_cases kept set xs found) [
            | inl before ↦ Contains-append_left done (set ∷ []) xs (h.from xs before)
            | inr here ↦ subst (Contains (done ++ set ∷ [])) here (Contains-push done set)
          ];
          few = omega arith;
          some = λ _. omega arith;
          last = λ _.
              get_or_push kept set [] (length (kept ++ set ∷ []) - 1) (omega arith) ∙ is ∙ ap (λ n. get_or sets n []) (let n : length done ≡ length (done ++ set ∷ []) - 1 = omega arith in n);
        }
