-- Lists of families whose sets are nested.
use Rattle.std.proofs.Common.{◌≡◌, ◌≢◌, ◌↔◌, ◌⊎◌, ℕ, ◌+◌, ◌<◌, Bool, true, false, List, [], ◌∷◌, ◌++◌, length, get_or, map, take, drop, All, Contains, Bor, Some, refl, sym, ap, ◌∙◌, subst, arith, inl, inr}
use Rattle.std.specs.List.{flat_map}
use Rattle.std.proofs.lemmas.Bool.{cases_eq, false≢true}
use Rattle.std.proofs.lemmas.List.{append-nil, map_more, map-append, take-append-drop}
use Rattle.std.proofs.lemmas.List.Concat.{flat_map-append}
use Rattle.std.proofs.lemmas.List.Elements.{All-contains, Contains-append_left, Contains-append_right, Contains-append_cases, Contains-get_or, All-contains_itself}
use Rattle.std.proofs.lemmas.Option.{same_Some}
use Rattle.tda_model.specs.Groups.{AreNested}
use Rattle.tda_sets.specs.Family.{Names, name_at, set_of, sets_of}
use Rattle.tda_sets.specs.Nested.{AreAllNested, all_sets}
use Rattle.tda_sets.proofs.Families.{same_name}
use Rattle.tda_sets.proofs.Members.{All-from_Contains, Contains-here, Contains-later, Contains-cases, Contains-map}
use Rattle.tda_sets.proofs.Nesting.{set_tells, set_source}

-- of each two sets, by the sets
pub AreAllNested-from : (xss yss : List (List ℕ)) → ((xs ys : List ℕ) → Contains xss xs → Contains yss ys → AreNested xs ys) → AreAllNested xss yss
AreAllNested-from xss yss each = All-from_Contains (λ xs. All (AreNested xs) yss) xss (λ xs here. All-from_Contains (AreNested xs) yss (λ ys there. each xs ys here there))

pub nested_pair : (xss yss : List (List ℕ)) → AreAllNested xss yss → (xs ys : List ℕ) → Contains xss xs → Contains yss ys → AreNested xs ys
nested_pair xss yss nested xs ys here there = All-contains (AreNested xs) yss ys (All-contains (λ zs. All (AreNested zs) yss) xss xs nested here) there

pub AreNested-sym : (xs ys : List ℕ) → AreNested xs ys → AreNested ys xs
AreNested-sym xs ys (inl apart) = inl (All-from_Contains (λ y. Contains xs y → ⊥) ys (λ y here there. All-contains (λ x. Contains ys x → ⊥) xs y apart there here))
AreNested-sym xs ys (inr (inl within)) = inr (inr within)
AreNested-sym xs ys (inr (inr within)) = inr (inl within)

-- the sets of one family are nested: two of them are one, or have no number in common
pub nested_itself : (names : Names) → AreAllNested (sets_of names) (sets_of names)
nested_itself names = AreAllNested-from (sets_of names) (sets_of names) (λ xs ys here there.
    let r = set_source names xs here in
    let s = set_source names ys there in
    subst (λ zs. AreNested zs ys) r.2 (subst (λ zs. AreNested (set_of names r.0) zs) s.2 (by r.0 s.0)))
  where
    by : (r s : ℕ) → AreNested (set_of names r) (set_of names s)
    by r s = elim (cases_eq r s) [
      | inl e ↦ inr (inl (subst (λ t. All (Contains (set_of names t)) (set_of names r)) e (All-contains_itself (set_of names r))))
      | inr other ↦ inl (All-from_Contains (λ x. Contains (set_of names s) x → ⊥) (set_of names r) (λ x here there.
          other (same_Some r s (sym (same_name (name_at names x) (Some r) (set_tells names r x here)) ∙ same_name (name_at names x) (Some s) (set_tells names s x there)))))
    ]

-- ---- one family more

module _ (families : List Names) (more : Names) where
  pub all_sets_push : all_sets (families ++ more ∷ []) ≡ all_sets families ++ sets_of more
  all_sets_push = flat_map-append sets_of families (more ∷ []) ∙ ap (λ xs. all_sets families ++ xs) (append-nil (sets_of more))

  module _ (xss : List (List ℕ)) where
    pub nested_push : AreAllNested xss (all_sets families) → AreAllNested xss (sets_of more) → AreAllNested xss (all_sets (families ++ more ∷ []))
    nested_push before here =
        rw all_sets_push (AreAllNested-from xss (all_sets families ++ sets_of more) (λ xs ys found among.
        elim (Contains-append_cases (all_sets families) (sets_of more) ys among) [
          | inl old ↦ nested_pair xss (all_sets families) before xs ys found old
          | inr new ↦ nested_pair xss (sets_of more) here xs ys found new
        ]))

  pub all_nested_push : AreAllNested (all_sets families) (all_sets families) → AreAllNested (sets_of more) (all_sets families)
      → AreAllNested (all_sets (families ++ more ∷ [])) (all_sets (families ++ more ∷ []))
  all_nested_push before here =
      let old = all_sets families in
      let new = sets_of more in
      rw all_sets_push (AreAllNested-from (old ++ new) (old ++ new) (λ xs ys found among.
      elim (Contains-append_cases old new xs found) [
        | inl xs_old ↦ elim (Contains-append_cases old new ys among) [
          | inl ys_old ↦ nested_pair old old before xs ys xs_old ys_old
          | inr ys_new ↦ AreNested-sym ys xs (nested_pair new old here ys xs ys_new xs_old)
        ]
        | inr xs_new ↦ elim (Contains-append_cases old new ys among) [
          | inl ys_old ↦ nested_pair new old here xs ys xs_new ys_old
          | inr ys_new ↦ nested_pair new new (nested_itself more) xs ys xs_new ys_new
        ]
      ]))

-- ---- families that are lent

abbrev pub lent : List (Bor Names) → List Names
lent families = map (λ f. f.now) families

module _ (families : List (Bor Names)) (i : ℕ) (d : Bor Names) (below : i < length families) where
  pub lent_more : lent (take (i + 1) families) ≡ lent (take i families) ++ (get_or families i d).now ∷ []
  lent_more = map_more (λ f. f.now) families i d below

-- a set of a part of the families is a set of all of them
pub all_sets_within : (families : List Names) (f : Names) → Contains families f → (xs : List ℕ) → Contains (sets_of f) xs → Contains (all_sets families) xs
all_sets_within [] f found xs among = absurd (omega (arith, found.1))
all_sets_within (g ∷ rest) f found xs among =
    elim (Contains-cases g rest f found) [
      | inl here ↦ Contains-append_left (sets_of g) (all_sets rest) xs (subst (λ h. Contains (sets_of h) xs) (sym here) among)
      | inr later ↦ Contains-append_right (sets_of g) (all_sets rest) xs (all_sets_within rest f later xs among)
    ]

-- and those of fewer families
pub AreAllNested-fewer : (xss yss xss' yss' : List (List ℕ)) → ((xs : List ℕ) → Contains xss' xs → Contains xss xs) → ((ys : List ℕ) → Contains yss' ys → Contains yss ys)
    → AreAllNested xss yss → AreAllNested xss' yss'
AreAllNested-fewer xss yss xss' yss' one other nested = AreAllNested-from xss' yss' (λ xs ys here there. nested_pair xss yss nested xs ys (one xs here) (other ys there))

module _ (families : List (Bor Names)) where
  pub family_within : (i : ℕ) (d : Bor Names) → i < length families → (xs : List ℕ) → Contains (sets_of (get_or families i d).now) xs → Contains (all_sets (lent families)) xs
  family_within i d below xs among =
      all_sets_within (lent families) (get_or families i d).now (Contains-map (λ f. f.now) families (get_or families i d) (Contains-get_or families i d below)) xs among

  pub earlier_within : (i : ℕ) (xs : List ℕ) → Contains (all_sets (lent (take i families))) xs → Contains (all_sets (lent families)) xs
  earlier_within i xs among =
      let all : all_sets (lent families) ≡ all_sets (lent (take i families)) ++ all_sets (lent (drop i families)) =
      ap (λ fs. all_sets (lent fs)) (sym (take-append-drop i families)) ∙ ap all_sets (map-append (λ f. f.now) (take i families) (drop i families))
      ∙ flat_map-append sets_of (lent (take i families)) (lent (drop i families)) in
      rw all (Contains-append_left (all_sets (lent (take i families))) (all_sets (lent (drop i families))) xs among)
