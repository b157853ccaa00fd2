-- A level has at most one group more than twice its possible cells.
use Rattle.std.proofs.Common.{◌≡◌, ℕ, ◌+◌, ◌<◌, ◌≤◌, suc, zero, cond, Bool, true, false, not, List, [], ◌∷◌, length, get_or, map, filter, All, Contains, Some, None, refl, sym, ap, ◌∙◌, subst, inl, inr, arith}
use Rattle.std.specs.Str.{bytes_eq}
use Rattle.std.specs.List.{AllByRecursion, flat_map, range_with_len}
use Rattle.std.proofs.lemmas.Slice.Eq.{bytes_eq-Decides}
use Rattle.std.proofs.lemmas.Option.{slice_get_cases}
use Rattle.tda_model.specs.Schema.{Schema, Level}
use Rattle.tda_model.specs.Cells.{is_possible, cell_count, possible_cells, is_listed}
use Rattle.tda_model.specs.Groups.{group_sets, each_once, group_count, scope_cells, class_cells, classes_of, kind_cells, kind_count, one_class, AreNested, LevelIsNested}
use Rattle.tda_model.specs.Sizes.{groups_at}
use Rattle.tda_model.proofs.Sums.{Ascends, range_ascends, filter_ascends}
use Rattle.tda_prices.proofs.NestedSets.{apart_filter, In, IsPart, DoNotCross, AreApart, few_sets, filter_part, in_either, passed}

part_itself : (cells : List ℕ) → IsPart cells cells
part_itself [] = refl
part_itself (c ∷ cs) = inl (cs, refl, part_itself cs)

part_filter : (p : ℕ → Bool) (cells xs : List ℕ) → IsPart cells xs → IsPart cells (filter p xs)
part_filter p [] xs h = ap (filter p) h
part_filter p (c ∷ cs) xs (inr h) = inr (part_filter p cs xs h)
part_filter p (c ∷ cs) xs (inl h) = subst (IsPart (c ∷ cs)) (sym (ap (filter p) h.1)) (by (p c) (part_filter p cs h.0 h.2))
  where
    by : (b : Bool) → IsPart cs (filter p h.0) → IsPart (c ∷ cs) (cond b (c ∷ filter p h.0) (filter p h.0))
    by true k = inl (filter p h.0, refl, k)
    by false k = inr k

-- ---- what stands in lists
module _ {X : Type 0} where
  in_place : (x d : X) (xs : List X) → In x xs → (k : ℕ) × (k < length xs) × (get_or xs k d ≡ x)
  in_place x d [] h = absurd h
  in_place x d (y ∷ ys) (inl e) = (0, omega arith, sym e)
  in_place x d (y ∷ ys) (inr h) = let k = in_place x d ys h in (suc k.0, omega (arith, k.1), k.2)

  in_contains : (x : X) (xs : List X) → In x xs → Contains xs x
  in_contains x xs h = in_place x x xs h

  contains_in : (xs : List X) (x : X) (k : ℕ) → k < length xs → get_or xs k x ≡ x → In x xs
  contains_in [] x k l e = absurd (omega arith)
  contains_in (y ∷ ys) x zero l e = inl (sym e)
  contains_in (y ∷ ys) x (suc k) l e = inr (contains_in ys x k (omega arith) e)

  all_in : (P : X → Type 0) (xs : List X) → All P xs → (x : X) → In x xs → P x
  all_in P xs h x i = let k = in_place x x xs i in subst P k.2 (h k.0 x k.1)

  in_map : {Y : Type 0} (P : Y → Type 0) (f : X → Y) (xs : List X) → ((x : X) → P (f x)) → (y : Y) → In y (map f xs) → P y
  in_map P f [] h y i = absurd i
  in_map P f (x ∷ xs) h y (inl e) = subst P (sym e) (h x)
  in_map P f (x ∷ xs) h y (inr i) = in_map P f xs h y i

  in_joined : {Y : Type 0} (P : Y → Type 0) (f : X → List Y) (xs : List X) → ((x : X) (y : Y) → In y (f x) → P y) → (y : Y) → In y (flat_map f xs) → P y
  in_joined P f [] h y i = absurd i
  in_joined P f (x ∷ xs) h y i = elim (in_either y (f x) (flat_map f xs) i) [ inl a ↦ h x y a | inr b ↦ in_joined P f xs h y b ]

ascends_apart : (xs : List ℕ) → Ascends xs → AreApart xs
ascends_apart [] h = tt
ascends_apart (x ∷ xs) h = (λ i. less xs h.0 i, ascends_apart xs h.1)
  where
    less : (ys : List ℕ) → AllByRecursion (λ y. x < y) ys → In x ys → ⊥
    less [] k i = i
    less (y ∷ ys) k (inl e) = let l = k.0 in omega arith
    less (y ∷ ys) k (inr i) = less ys k.1 i

-- ---- equal sets once
once_in : (sets : List (List ℕ)) (xs : List ℕ) → In xs (each_once sets) → In xs sets
once_in [] xs i = i
once_in (ys ∷ sets) xs (inl e) = inl e
once_in (ys ∷ sets) xs (inr i) = inr (once_in sets xs (passed (λ zs. not (bytes_eq ys zs)) xs (each_once sets) i).here)

once_apart : (sets : List (List ℕ)) → AreApart (each_once sets)
once_apart [] = tt
once_apart (ys ∷ sets) = (
  (λ i. let p = (passed (λ zs. not (bytes_eq ys zs)) ys (each_once sets) i).passes in let own : bytes_eq ys ys ≡ true = (bytes_eq-Decides ys ys).1 refl in let no = sym (ap not own) ∙ p in cc),
  apart_filter (λ zs. not (bytes_eq ys zs)) (each_once sets) (once_apart sets),
)

do_not_cross : (xs ys : List ℕ) → AreNested xs ys → DoNotCross xs ys
do_not_cross xs ys (inl h) = inl (λ x i j. all_in (λ x. ¬ Contains ys x) xs h x i (in_contains x ys j))
do_not_cross xs ys (inr (inl h)) = inr (inl (λ x i. let c = all_in (Contains ys) xs h x i in contains_in ys x c.0 c.1 c.2))
do_not_cross xs ys (inr (inr h)) = inr (inr (λ y i. let c = all_in (Contains xs) ys h y i in contains_in xs y c.0 c.1 c.2))

module _ (s : Schema) where
  is_part : (l : Level) (xs : List ℕ) → In xs (group_sets s l) → IsPart (possible_cells s) xs
  is_part l xs (inl e) = subst (IsPart (possible_cells s)) (sym e) (part_itself (possible_cells s))
  is_part l xs (inr i) = elim (in_either xs (map (kind_cells s) (range_with_len 0 (kind_count s))) (flat_map (λ q. map (class_cells s q) (classes_of s q)) l.queries) i) [
    | inl a ↦ in_map (IsPart (possible_cells s)) (kind_cells s) (range_with_len 0 (kind_count s)) (λ k. filter_part _ (possible_cells s)) xs a
    | inr b ↦ in_joined (IsPart (possible_cells s)) (λ q. map (class_cells s q) (classes_of s q)) l.queries (λ q ys j.
        in_map (IsPart (possible_cells s)) (class_cells s q) (classes_of s q) (λ c. part_filter (one_class s q c) (possible_cells s) (scope_cells s q) (filter_part (is_listed s q.only) (possible_cells s))) ys j) xs b
  ]

  few_in_level : (l : Level) → LevelIsNested s l → group_count s l ≤ length (possible_cells s) + length (possible_cells s) + 1
  few_in_level l nested =
      few_sets (possible_cells s) (ascends_apart (possible_cells s) (filter_ascends (is_possible s) _ (range_ascends 0 (cell_count s)))) (each_once (group_sets s l)) (record {
        apart = once_apart (group_sets s l);
        part = λ xs i. is_part l xs (once_in (group_sets s l) xs i);
        nested = λ xs ys i j.
            do_not_cross xs ys (all_in (AreNested xs) (group_sets s l) (all_in (λ xs. All (AreNested xs) (group_sets s l)) (group_sets s l) nested xs (once_in (group_sets s l) xs i)) ys (once_in (group_sets s l) ys j));
      })

  pub few_groups : All (LevelIsNested s) s.levels → (level : ℕ) → groups_at s level ≤ length (possible_cells s) + length (possible_cells s) + 1
  few_groups nested level = elim (slice_get_cases s.levels level).1 [
    | inl at ↦
        let l = at.0 in
        let is : groups_at s level ≡ group_count s l = ap (λ o. elim o as (λ _. ℕ) [ Some l ↦ group_count s l | None ↦ 0 ]) at.2 in
        let nested_here : LevelIsNested s l = subst (LevelIsNested s) at.3 (nested level l at.1) in
        omega (arith, is, few_in_level l nested_here)
    | inr past ↦
        let is : groups_at s level ≡ 0 = ap (λ o. elim o as (λ _. ℕ) [ Some l ↦ group_count s l | None ↦ 0 ]) past.1 in
        omega (arith, is)
  ]
