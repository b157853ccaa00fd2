-- What the tests of groups and kinds tell.
use Rattle.std.proofs.Common.{◌≡◌, ◌==◌, ◌<◌, ◌&&◌, ◌||◌, ℕ, Bool, true, false, not, cond, List, [], ◌∷◌, length, get_or, filter, All, Contains, nat_le, refl, sym, ap, ◌∙◌, arith, zero-add}
use Rattle.std.specs.Bool.{Decides}
use Rattle.std.specs.List.{list_all, list_any, range_with_len}
use Rattle.std.proofs.lemmas.Bool.{and_parts, and_from, ltb-true, leb-true, le-leb, eq-eqb}
use Rattle.std.proofs.lemmas.Bool.Decides.{Decides-or, Decides-not, Decides-eqb, Decides-by_and, Decides-by_or}
use Rattle.std.proofs.lemmas.List.Elements.{Decides-contains, filter_passes}
use Rattle.std.proofs.lemmas.List.Folds.{list_any_at}
use Rattle.std.proofs.lemmas.List.FromFn.{length-range_with_len, get_or-range_with_len}
use Rattle.std.proofs.lemmas.List.Sums.{AllPass-from_list_all, list_all-from_AllPass}
use Rattle.tda_model.specs.Schema.{Level, Schema}
use Rattle.tda_model.specs.Cells.{cell_count, is_possible, kind_of, all_cells, possible_cells}
use Rattle.tda_model.specs.Groups.{AreNested, LevelIsNested, group_sets, kind_count}
use Rattle.tda_model.specs.Bounds.{HasKinds}
use Rattle.tda_schema.specs.Parts.{holds, are_nested, level_is_nested, is_nested, has_kinds, AreDecided}

module _ {X : Type 0} (p : X → Bool) (P : X → Type 0) (each : (x : X) → Decides (p x) (P x)) where
  all-Decides : (xs : List X) → Decides (list_all p xs) (All P xs)
  all-Decides xs = Decides-by_and p P (list_all p) each refl (λ _ _. refl) xs

holds-Decides : (xs : List ℕ) (x : ℕ) → Decides (holds xs x) (Contains xs x)
holds-Decides xs x = Decides-contains xs x (holds xs x) (Decides-by_or (λ y. y == x) (λ y. y ≡ x) (list_any (λ y. y == x)) (λ y. Decides-eqb y x) refl (λ _ _. refl) xs)

are_nested-Decides : (xs ys : List ℕ) → Decides (are_nested xs ys) (AreNested xs ys)
are_nested-Decides xs ys =
    Decides-or (list_all (λ x. not (holds ys x)) xs) (list_all (holds ys) xs || list_all (holds xs) ys)
    (all-Decides (λ x. not (holds ys x)) (λ x. ¬ Contains ys x) (λ x. Decides-not (holds ys x) (holds-Decides ys x)) xs)
    (Decides-or (list_all (holds ys) xs) (list_all (holds xs) ys)
    (all-Decides (holds ys) (Contains ys) (holds-Decides ys) xs)
    (all-Decides (holds xs) (Contains xs) (holds-Decides xs) ys))

pub level_is_nested-Decides : (s : Schema) (l : Level) → Decides (level_is_nested s l) (LevelIsNested s l)
level_is_nested-Decides s l =
    all-Decides (λ xs. list_all (are_nested xs) (group_sets s l)) (λ xs. All (AreNested xs) (group_sets s l))
    (λ xs. all-Decides (are_nested xs) (AreNested xs) (are_nested-Decides xs) (group_sets s l)) (group_sets s l)

pub is_nested-Decides : (s : Schema) → Decides (is_nested s) (All (LevelIsNested s) s.levels)
is_nested-Decides s = all-Decides (level_is_nested s) (LevelIsNested s) (level_is_nested-Decides s) s.levels

pub any_filter : (p q : ℕ → Bool) (xs : List ℕ) → list_any p (filter q xs) ≡ list_any (λ x. q x && p x) xs
any_filter p q [] = refl
any_filter p q (x ∷ xs) = by (q x) (any_filter p q xs)
  where
    by : (b : Bool) → list_any p (filter q xs) ≡ list_any (λ y. q y && p y) xs
        → list_any p (cond b (x ∷ filter q xs) (filter q xs)) ≡ ((b && p x) || list_any (λ y. q y && p y) xs)
    by true rest = ap (λ b. p x || b) rest
    by false rest = rest

module _ (s : Schema) where
  abbrev has_cell : ℕ → Bool
  has_cell k = list_any (λ cell. kind_of s cell == k) (possible_cells s)

  abbrev HasCell : ℕ → Type 0
  HasCell k = (j : ℕ) × (j < cell_count s) × (is_possible s j ≡ true) × (kind_of s j ≡ k)

  there : (k : ℕ) → has_cell k ≡ true → HasCell k
  there k h =
      let at = (Decides-by_or (λ c. kind_of s c == k) (λ c. kind_of s c ≡ k) (list_any (λ c. kind_of s c == k)) (λ c. Decides-eqb (kind_of s c) k) refl (λ _ _. refl) (possible_cells s)).0 h in
      let possible = filter_passes (is_possible s) (all_cells s) at.0 0 at.1 in
      (get_or (possible_cells s) at.0 0, ltb-true _ _ (and_parts _ _ possible).0, possible, at.2 0)

  back : (k : ℕ) → HasCell k → has_cell k ≡ true
  back k h =
      let test : ℕ → Bool = λ c. is_possible s c && (kind_of s c == k) in
      let below : h.0 < length (all_cells s) = (let n = length-range_with_len 0 (cell_count s) in let lt = h.1 in omega arith) in
      let cell : get_or (all_cells s) h.0 0 ≡ h.0 = get_or-range_with_len 0 (cell_count s) h.0 0 h.1 ∙ zero-add h.0 in
      any_filter (λ c. kind_of s c == k) (is_possible s) (all_cells s)
      ∙ list_any_at test (all_cells s) h.0 0 below (ap test cell ∙ and_from (is_possible s h.0) (kind_of s h.0 == k) h.2 (eq-eqb (kind_of s h.0) k h.3))

  kinds_there : list_all has_cell (range_with_len 0 (kind_count s)) ≡ true → (k : ℕ) → k < kind_count s → HasCell k
  kinds_there h k below =
      let n : length (range_with_len 0 (kind_count s)) ≡ kind_count s = length-range_with_len 0 (kind_count s) in
      let kind : get_or (range_with_len 0 (kind_count s)) k 0 ≡ k = get_or-range_with_len 0 (kind_count s) k 0 below ∙ zero-add k in
      there k (sym (ap has_cell kind) ∙ AllPass-from_list_all has_cell (range_with_len 0 (kind_count s)) h k 0 (omega arith))

  kinds_back : ((k : ℕ) → k < kind_count s → HasCell k) → list_all has_cell (range_with_len 0 (kind_count s)) ≡ true
  kinds_back h = list_all-from_AllPass has_cell (range_with_len 0 (kind_count s))
      (λ k d below.
      let n : length (range_with_len 0 (kind_count s)) ≡ kind_count s = length-range_with_len 0 (kind_count s) in
      let fits : k < kind_count s = omega arith in
      let kind : get_or (range_with_len 0 (kind_count s)) k d ≡ k = get_or-range_with_len 0 (kind_count s) k d fits ∙ zero-add k in
      ap has_cell kind ∙ back k (h k fits))

  pub has_kinds-Decides : Decides (has_kinds s) (HasKinds s)
  has_kinds-Decides = (
    (λ h. let p = and_parts _ _ h in record { some = leb-true 1 (kind_count s) p.0; cell = kinds_there p.1 }),
    (λ h. and_from (nat_le 1 (kind_count s)) (list_all has_cell (range_with_len 0 (kind_count s))) (le-leb 1 (kind_count s) h.some) (kinds_back h.cell)),
  )

pub tests_decide : (s : Schema) → AreDecided s
tests_decide s = record { nested = is_nested-Decides s; kinds = has_kinds-Decides s }
