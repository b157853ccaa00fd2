-- The rows of units are those of their tables, and make up the file.
use Rattle.std.proofs.Common.{◌≡◌, ℕ, zero, suc, ◌+◌, ◌-◌, ◌*◌, ◌<◌, ◌≤◌, List, [], ◌∷◌, ◌++◌, map, length, get_or, take, drop, refl, sym, ap, ◌∙◌, arith, append_assoc}
use Rattle.std.specs.List.{flat_map, range_with_len, between}
use Rattle.std.proofs.lemmas.List.{append-nil, get_or-take, get_or-drop, length-take, length-drop, length-take-le, length-append}
use Rattle.std.proofs.lemmas.List.FromFn.{length-map-range_with_len, get_or-map-range_with_len}
use Rattle.std.proofs.lemmas.List.Concat.{flat_map-append, get_or-flat_map}
use Rattle.std.proofs.Math.Nat.{mul-le-mul_right}
use Rattle.tda_model.specs.Schema.{Schema}
use Rattle.tda_model.specs.Cells.{cell_count, all_cells}
use Rattle.tda_model.specs.Spine.{Spine, code_of, nation_of, children_of, parents_of}
use Rattle.tda_model.specs.Tables.{Table, Tables}
use Rattle.tda_model.specs.TablesText.{count_row, table_rows, tables_header}
use Rattle.tda_out.specs.Written.{table_at, counts_in, rows_in, MakeUpFile}

-- lists that are the same for each number of a range
pub range_same : {A : Type 0} (f g : ℕ → List A) (a n : ℕ) → ((i : ℕ) → a ≤ i → i < a + n → f i ≡ g i) → flat_map f (range_with_len a n) ≡ flat_map g (range_with_len a n)
range_same f g a zero same = refl
range_same f g a (suc n) same =
    ap (λ t. t ++ flat_map f (range_with_len (a + 1) n)) (same a (omega arith) (omega arith))
    ∙ ap (λ t. g a ++ t) (range_same f g (a + 1) n (λ i low high. same i (omega arith) (omega arith)))

-- one more number of a range
one_suc : {A : Type 0} (f : ℕ → List A) (a n j : ℕ) → a + n ≡ j → flat_map f (range_with_len a (suc n)) ≡ flat_map f (range_with_len a n) ++ f j
one_suc f a zero j is = append-nil (f a) ∙ ap f (let e : a ≡ j = omega arith in e)
one_suc f a (suc n) j is =
    ap (λ t. f a ++ t) (one_suc f (a + 1) n j (omega arith))
    ∙ sym (append_assoc (f a) (flat_map f (range_with_len (a + 1) n)) (f j))

pub range_more : {A : Type 0} (f : ℕ → List A) (n : ℕ) → flat_map f (range_with_len 0 (n + 1)) ≡ flat_map f (range_with_len 0 n) ++ f n
range_more f n = ap (λ m. flat_map f (range_with_len 0 m)) (let e : n + 1 ≡ suc n = omega arith in e) ∙ one_suc f 0 n n (omega arith)

-- the part of one more number is appended
pub one_more : (f : ℕ → List ℕ) (k : ℕ) (start old new part : List ℕ)
    → old ≡ start ++ flat_map f (range_with_len 0 k) → new ≡ old ++ part → part ≡ f k → new ≡ start ++ flat_map f (range_with_len 0 (k + 1))
one_more f k start old new part old_is new_is part_is =
    let done = flat_map f (range_with_len 0 k) in
    new_is ∙ ap (λ t. t ++ part) old_is ∙ ap (λ t. (start ++ done) ++ t) part_is ∙ append_assoc start done (f k) ∙ ap (λ t. start ++ t) (sym (range_more f k))

-- by the places of its elements
by_place_from : {A : Type 0} (f : ℕ → List A) (xs : List ℕ) (g : ℕ → List A) (a : ℕ) → ((i : ℕ) → i < length xs → g (a + i) ≡ f (get_or xs i 0))
    → flat_map g (range_with_len a (length xs)) ≡ flat_map f xs
by_place_from f [] g a same = refl
by_place_from f (x ∷ xs) g a same =
    let here : g a ≡ f x = ap g (let e : a ≡ a + 0 = omega arith in e) ∙ same 0 (omega arith) in
    ap (λ t. t ++ flat_map g (range_with_len (a + 1) (length xs))) here
    ∙ ap (λ t. f x ++ t) (by_place_from f xs g (a + 1) (λ i l. ap g (let e : a + 1 + i ≡ a + suc i = omega arith in e) ∙ same (suc i) (omega arith)))

pub by_place : {A : Type 0} (f : ℕ → List A) (xs : List ℕ) → flat_map (λ i. f (get_or xs i 0)) (range_with_len 0 (length xs)) ≡ flat_map f xs
by_place f xs = by_place_from f xs (λ i. f (get_or xs i 0)) 0 (λ i l. ap (λ k. f (get_or xs k 0)) (let e : 0 + i ≡ i = omega arith in e))

joined : {A : Type 0} (f : ℕ → List A) (g : ℕ → List ℕ) (xs : List ℕ) → flat_map f (flat_map g xs) ≡ flat_map (λ x. flat_map f (g x)) xs
joined f g [] = refl
joined f g (x ∷ xs) = flat_map-append f (g x) (flat_map g xs) ∙ ap (λ t. flat_map f (g x) ++ t) (joined f g xs)

same_each : {A : Type 0} (f g : ℕ → List A) (xs : List ℕ) → ((x : ℕ) → f x ≡ g x) → flat_map f xs ≡ flat_map g xs
same_each f g [] same = refl
same_each f g (x ∷ xs) same = ap (λ t. t ++ flat_map f xs) (same x) ∙ ap (λ t. g x ++ t) (same_each f g xs same)

-- a table has the rows of another that is the same in each cell
pub same_rows : (s : Schema) (code : List ℕ) (x y : Table) → ((j : ℕ) → j < cell_count s → x j ≡ y j) → table_rows s code x ≡ table_rows s code y
same_rows s code x y same = range_same (λ j. count_row code j (x j)) (λ j. count_row code j (y j)) 0 (cell_count s) (λ j low high. ap (count_row code j) (same j (omega arith)))

-- the counts that stand from a place on
pub part_size : (cells start : ℕ) (counts : List ℕ) → start + cells ≤ length counts → length (between start (start + cells) counts) ≡ cells
part_size cells start counts fits = length-take (start + cells - start) (drop start counts) ∙ omega (arith, length-drop start counts)

pub part_at : (cells start : ℕ) (counts : List ℕ) (j : ℕ) → j < cells → get_or (between start (start + cells) counts) j 0 ≡ get_or counts (start + j) 0
part_at cells start counts j within = get_or-take (start + cells - start) (drop start counts) j 0 (omega arith) ∙ get_or-drop start counts j 0

-- the counts have a part for each unit
pub part_fits : (cells all place units size : ℕ) → cells ≡ all → size ≡ units * all → place < units → place * cells + cells ≤ size
part_fits cells all place units size cells_are size_is here =
    let le = mul-le-mul_right all (let e : place + 1 ≤ units = omega arith in e) in
    let same : place * cells + cells ≡ place * all + all = ap (λ n. place * n + n) cells_are in
    omega (arith, le, same)

-- the rows of a unit by its part of the counts
pub part_rows : (s : Schema) (code : List ℕ) (counts : List ℕ) (place start cells : ℕ) → cells ≡ cell_count s → start ≡ place * cells → start + cells ≤ length counts
    → flat_map (λ j. count_row code j (get_or (between start (start + cells) counts) j 0)) (range_with_len 0 (length (between start (start + cells) counts)))
    ≡ table_rows s code (table_at s counts place)
part_rows s code counts place start cells cells_are start_is fits =
    ap (λ n. flat_map (λ j. count_row code j (get_or (between start (start + cells) counts) j 0)) (range_with_len 0 n)) (part_size cells start counts fits ∙ cells_are)
    ∙ same_rows s code (λ j. get_or (between start (start + cells) counts) j 0) (table_at s counts place)
    (λ j within. part_at cells start counts j (omega arith) ∙ ap (λ n. get_or counts (n + j) 0) (start_is ∙ ap (λ n. place * n) cells_are))

module _ (s : Schema) (x : Tables) where
  abbrev row_counts : ℕ → List ℕ
  row_counts u = map (x u) (all_cells s)

  pub length-counts_in : (units : List ℕ) → length (counts_in s x units) ≡ length units * cell_count s
  length-counts_in [] = omega arith
  length-counts_in (u ∷ us) =
      let own = length-map-range_with_len (x u) 0 (cell_count s) in
      omega (arith, length-append (row_counts u) (counts_in s x us), own, length-counts_in us)

  counts_at : (units : List ℕ) (place j : ℕ) → place < length units → j < cell_count s → table_at s (counts_in s x units) place j ≡ x (get_or units place 0) j
  counts_at units place j here within =
      let u = get_or units place 0 in
      let size : length (row_counts u) ≡ cell_count s = length-map-range_with_len (x u) 0 (cell_count s) in
      let before : place * cell_count s + j ≡ length (counts_in s x (take place units)) + j =
      ap (λ n. n * cell_count s + j) (sym (length-take-le place units (omega arith))) ∙ ap (λ n. n + j) (sym (length-counts_in (take place units))) in
      ap (λ n. get_or (counts_in s x units) n 0) before
      ∙ get_or-flat_map row_counts units place j 0 0 here (omega arith)
      ∙ get_or-map-range_with_len (x u) 0 (cell_count s) j j 0 within (omega arith)

  pub rows_in_are : (sp : Spine) (units : List ℕ) → rows_in s sp x units ≡ flat_map (λ u. table_rows s (code_of sp u) (x u)) units
  rows_in_are sp units =
      range_same (λ place. table_rows s (code_of sp (get_or units place 0)) (table_at s (counts_in s x units) place)) (λ place. table_rows s (code_of sp (get_or units place 0)) (x (get_or units place 0))) 0 (length units)
      (λ place low high. same_rows s (code_of sp (get_or units place 0)) (table_at s (counts_in s x units) place) (x (get_or units place 0)) (λ j within. counts_at units place j (omega arith) within))
      ∙ by_place (λ u. table_rows s (code_of sp u) (x u)) units

pub make_up_file : (s : Schema) (sp : Spine) → MakeUpFile s sp
make_up_file s sp x =
    let rows : ℕ → List ℕ = λ u. table_rows s (code_of sp u) (x u) in
    let parts : ℕ → List ℕ = λ p. rows_in s sp x (children_of sp p) in
    let nation : rows_in s sp x (nation_of sp ∷ []) ≡ rows (nation_of sp) = rows_in_are s x sp (nation_of sp ∷ []) ∙ append-nil (rows (nation_of sp)) in
    let below : flat_map parts (parents_of sp) ≡ flat_map rows (flat_map (children_of sp) (parents_of sp)) =
    same_each parts (λ p. flat_map rows (children_of sp p)) (parents_of sp) (λ p. rows_in_are s x sp (children_of sp p)) ∙ sym (joined rows (children_of sp) (parents_of sp)) in
    sym (ap (λ t. tables_header ++ t ++ flat_map parts (parents_of sp)) nation ∙ ap (λ t. tables_header ++ rows (nation_of sp) ++ t) below)
