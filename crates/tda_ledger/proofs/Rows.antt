-- The rows of a ledger, level by level.
use Rattle.std.proofs.Common.{◌≡◌, ℕ, suc, ◌+◌, ◌<◌, List, [], ◌∷◌, ◌++◌, length, map, get_or, slice_get, Option, Some, option_map, refl, sym, ap, subst, ◌∙◌, arith, append_assoc}
use Rattle.std.specs.List.{All, flat_map, range_with_len}
use Rattle.std.proofs.lemmas.List.{flat_map_more}
use Rattle.std.proofs.lemmas.List.Elements.{All-append, All-map}
use Rattle.std.proofs.lemmas.List.FromFn.{get_or-range_with_len, length-range_with_len, map-range_with_len_more}
use Rattle.std.proofs.lemmas.Option.{slice_get-get_or, get_or_from_slice_get, slice_get_within, same_Some}
use Rattle.tda_model.specs.Schema.{Schema}
use Rattle.tda_schema.specs.Stated.{queries_at}
use Rattle.tda_ledger.specs.declared.row.LedgerRow.{LedgerRow}
use Rattle.tda_ledger.specs.Ledger.{row_at, level_rows, rows_of, IsRowOf}

All-flat_map : {X Y : Type 0} (P : Y → Type 0) (f : X → List Y) (xs : List X) → All (λ x. All P (f x)) xs → All P (flat_map f xs)
All-flat_map P f [] all = λ k d below. absurd (omega arith)
All-flat_map P f (x ∷ xs) all = All-append P (f x) (flat_map f xs) (all 0 x (omega arith)) (All-flat_map P f xs (λ k d below. all (suc k) d (omega arith)))

-- what holds of each number below n
All-range : (P : ℕ → Type 0) (n : ℕ) → ((k : ℕ) → k < n → P k) → All P (range_with_len 0 n)
All-range P n holds k d below =
    let inside : k < n = omega (arith, length-range_with_len 0 n) in
    let is : get_or (range_with_len 0 n) k d ≡ k = get_or-range_with_len 0 n k d inside ∙ omega arith in
    subst P (sym is) (holds k inside)

-- each row is that of a query
pub rows_kept : (s : Schema) → All (IsRowOf s) (rows_of s)
rows_kept s =
    All-flat_map (IsRowOf s) (level_rows s) (range_with_len 0 (length s.levels))
    (All-range (λ level. All (IsRowOf s) (level_rows s level)) (length s.levels)
    (λ level below. All-map (IsRowOf s) (row_at s level) (range_with_len 0 (length (queries_at s level)))
    (All-range (λ query. IsRowOf s (row_at s level query)) (length (queries_at s level)) (λ query inside. record { level = below; query = inside; share = refl }))))

-- the row of a number is one of them
pub row_kept : (s : Schema) (rows : List LedgerRow) (i : ℕ) (r : LedgerRow) → rows ≡ rows_of s → slice_get rows i ≡ Some r → IsRowOf s r
row_kept s rows i r same is =
    let below : i < length rows = slice_get_within rows i r is in
    let all : All (IsRowOf s) rows = subst (All (IsRowOf s)) (sym same) (rows_kept s) in
    subst (IsRowOf s) (get_or_from_slice_get rows i r r is) (all i r below)

-- with the row of one more query
pub one_more_row : (s : Schema) (level query : ℕ) (start old new : List LedgerRow) (r : LedgerRow) → old ≡ start ++ map (row_at s level) (range_with_len 0 query) → new ≡ old ++ r ∷ [] → r ≡ row_at s level query
    → new ≡ start ++ map (row_at s level) (range_with_len 0 (query + 1))
one_more_row s level query start old new r old_is new_is row_is =
    new_is ∙ ap (λ rows. rows ++ r ∷ []) old_is ∙ append_assoc start (map (row_at s level) (range_with_len 0 query)) (r ∷ [])
    ∙ ap (λ x. start ++ (map (row_at s level) (range_with_len 0 query) ++ x ∷ [])) row_is
    ∙ ap (λ rows. start ++ rows) (sym (map-range_with_len_more (row_at s level) 0 query query (omega arith)))

-- the name of an element that is known to be there
pub named_at : {X : Type 0} (name : X → List ℕ) (xs : List X) (i : ℕ) (d : X) (text : List ℕ) → i < length xs → option_map name (slice_get xs i) ≡ Some text → text ≡ name (get_or xs i d)
named_at name xs i d text below is =
    let there : option_map name (slice_get xs i) ≡ Some (name (get_or xs i d)) = ap (option_map name) (slice_get-get_or xs i d below) in
    same_Some text (name (get_or xs i d)) (sym is ∙ there)

map-same : {X : Type 0} (xs : List X) → map (λ x. x) xs ≡ xs
map-same [] = refl
map-same (x ∷ xs) = ap (λ ys. x ∷ ys) (map-same xs)

-- the rows of one more level
pub one_more_level : (s : Schema) (level : ℕ) (old new : List LedgerRow) → old ≡ flat_map (level_rows s) (range_with_len 0 level) → new ≡ old ++ level_rows s level
    → new ≡ flat_map (level_rows s) (range_with_len 0 (level + 1))
one_more_level s level old new old_is new_is =
    let range : range_with_len 0 level ++ level ∷ [] ≡ range_with_len 0 (level + 1) = sym (range_more level) in
    new_is ∙ ap (λ rows. rows ++ level_rows s level) old_is ∙ flat_map_more (level_rows s) [] (range_with_len 0 level) level ∙ ap (flat_map (level_rows s)) range
  where
    range_more : (n : ℕ) → range_with_len 0 (n + 1) ≡ range_with_len 0 n ++ n ∷ []
    range_more n = sym (map-same (range_with_len 0 (n + 1))) ∙ map-range_with_len_more (λ k. k) 0 n n (omega arith) ∙ ap (λ ks. ks ++ n ∷ []) (map-same (range_with_len 0 n))
