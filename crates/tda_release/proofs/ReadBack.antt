-- The files of a release are read back, and an audit of what is read answers Yes.
use Rattle.std.proofs.Common.{◌≡◌, ℕ, ℤ, pos, negsuc, nat_abs, zero, suc, ◌^◌, ◌<◌, ◌≤◌, List, [], ◌∷◌, ◌++◌, length, get_or, map, min, All, Option, refl, sym, ap, ◌∙◌, subst, arith}
use Rattle.std.specs.List.{flat_map, Contains}
use Rattle.std.proofs.lemmas.Int.{ints}
use Rattle.std.proofs.lemmas.List.{length-append, length-map}
use Rattle.std.proofs.lemmas.List.Elements.{All-contains, All-from_get_or, All-from_recursion, recursion_from_All}
use Rattle.tda_model.specs.Bounds.{persons_limit}
use Rattle.tda_model.specs.Cells.{cell_count, all_cells, is_possible}
use Rattle.tda_model.specs.Groups.{AreNested, group_sets, kind_count, LevelIsNested}
use Rattle.tda_model.specs.Schema.{Level, Schema}
use Rattle.tda_model.specs.Spine.{IsUnit, IsTree, code_of, level_of, nation_of, unit_numbers}
use Rattle.tda_model.specs.Tables.{Tables, persons_in}
use Rattle.tda_model.specs.TablesText.{count_row, table_rows, tables_header, tables_text, units_in_order}
use Rattle.tda_model.specs.Release.{Inputs}
use Rattle.tda_model.proofs.Sums.{Each, each_le_sum, each_range, each_weaker, range_each}
use Rattle.tda_schema.specs.Stated.{level_at}
use Rattle.tda_spine.specs.Judged.{IsWithinLimits, fits_of}
use Rattle.tda_spine.specs.Sound.{IsSound}
use Rattle.tda_groups.specs.Order.{group_at}
use Rattle.tda_groups.specs.Tree.{Tree, IsTreeOf}
use Rattle.tda_out.specs.Counts.{Counts, count_at, counts_of}
use Rattle.tda_out.specs.Written.{AreFew}
use Rattle.tda_out.proofs.Once.{units_here}
use Rattle.tda_out.proofs.RowLemmas.{count_of}
use Rattle.tda_loss.specs.Curve.{IsWithin}
use Rattle.tda_loss.specs.declared.Curve.TheVariants.{Square}
use Rattle.tda_prices.specs.Items.{Pricing, items_of, prices_of}
use Rattle.tda_prices.specs.PricesText as prices
use Rattle.tda_prices.specs.PricesText.{ArePrices, all_prices, fit_field, fit_places, item_fields, price_limit}
use Rattle.tda_prices.specs.TablesRead as tables
use Rattle.tda_prices.proofs.FileLaws.{prices_read_back, prices_short, tables_read_back, tables_short}
use Rattle.tda_audit.specs.Certified.{level_groups}
use Rattle.tda_sets.proofs.Members.{All-from_Contains, passing_below}
use Rattle.tda_release.specs.Certified.{pricing_text}
use Rattle.tda_release.specs.Texts.{IsReadBack}
use Rattle.tda_descent.specs.declared.fit.Fit.{Fit}
use Rattle.tda_descent.specs.Fits.{IsFitOf}
use Rattle.tda_release.proofs.Written.{each_priced, pricing, same_flat}

-- a level that has a tree of groups is nested
level_nested : (s : Schema) (l : Level) (t : Tree) → IsTreeOf s l t → LevelIsNested s l
level_nested s l t is =
    All-from_Contains (λ xs. All (AreNested xs) (group_sets s l)) (group_sets s l) (λ xs found.
    All-from_Contains (AreNested xs) (group_sets s l) (λ ys among.
    All-contains (AreNested xs) t.groups ys (All-contains (λ zs. All (AreNested zs) t.groups) t.groups xs is.groups.nested ((is.exact xs).1 found)) ((is.exact ys).1 among)))

-- each level of a schema has a tree of groups
abbrev pub HaveTrees : Schema → Type 0
HaveTrees s = (level : ℕ) → level < length s.levels → (t : Tree) × IsTreeOf s (level_at s level) t

pub levels_nested : (s : Schema) → HaveTrees s → All (LevelIsNested s) s.levels
levels_nested s trees =
    All-from_get_or (LevelIsNested s) s.levels (record { name = []; queries = [] }) (λ k low. let t = trees k low in level_nested s (level_at s k) t.0 t.1)

each_at : {X : Type 0} (P : X → Type 0) (xs : List X) (d : X) → Each P xs → (k : ℕ) → k < length xs → P (get_or xs k d)
each_at P [] d h k l = absurd (omega arith)
each_at P (x ∷ xs) d h zero l = h.0
each_at P (x ∷ xs) d h (suc k) l = each_at P xs d h.1 k (omega arith)

-- the members of groups are cells
tree_cells : (s : Schema) (l : Level) (t : Tree) → IsTreeOf s l t → (g : ℕ) → g < length t.groups → Each (λ j. j < cell_count s) (group_at t.groups g)
tree_cells s l t is g low =
    let inside = each_at (λ xs. All (Contains (group_at t.groups 0)) xs) t.groups [] (recursion_from_All _ t.groups is.groups.whole) g low in
    each_weaker (Contains (group_at t.groups 0)) (λ j. j < cell_count s) (group_at t.groups g)
    (λ j found. passing_below (is_possible s) (cell_count s) j (subst (λ ys. Contains ys j) is.whole found)) (recursion_from_All _ (group_at t.groups g) inside)

pub group_cells : (i : Inputs) → IsTree i.spine (nation_of i.spine) → i.spine.depth ≡ length i.schema.levels → HaveTrees i.schema
    → (u g : ℕ) → IsUnit i.spine u → g < length (level_groups i.schema (level_of i.spine u)) → Each (λ j. j < cell_count i.schema) (group_at (level_groups i.schema (level_of i.spine u)) g)
group_cells i tree depth trees u g here low =
    let within = tree.within u here in
    let t = trees (level_of i.spine u) (omega (arith, within, depth)) in
    subst (λ gs. g < length gs → Each (λ j. j < cell_count i.schema) (group_at gs g)) t.1.listed (tree_cells i.schema (level_at i.schema (level_of i.spine u)) t.0 t.1 g) low

module _ (i : Inputs) (sound : IsSound i.spine) (cells : cell_count i.schema ≤ 4096) (x : Tables)
    (few : All (λ u. persons_in i.schema (x u) ≤ persons_limit) (unit_numbers i.spine)) where
  abbrev s : Schema
  s = i.schema

  count_few : (u j : ℕ) → IsUnit i.spine u → j < cell_count s → x u j ≤ persons_limit
  count_few u j here low =
      let all = range_each (λ v. persons_in s (x v) ≤ persons_limit) 0 (length i.spine.units) (recursion_from_All _ (unit_numbers i.spine) few) u (omega arith) (omega (arith, here)) in
      let one = range_each (λ k. x u k ≤ persons_in s (x u)) 0 (cell_count s) (each_le_sum (x u) (all_cells s)) j (omega arith) (omega (arith, low)) in
      omega (arith, all, one)

  -- the same tables, where no count passes the limit at any number
  abbrev capped : Tables
  capped u j = min (x u j) persons_limit

  capped_few : AreFew capped
  capped_few u j = omega arith

  at_most : (n m : ℕ) → n ≤ m → n ≡ min n m
  at_most n m le = omega arith

  capped_same : (u j : ℕ) → IsUnit i.spine u → j < cell_count s → x u j ≡ capped u j
  capped_same u j here low = at_most (x u j) persons_limit (count_few u j here low)

  rows_same : (u : ℕ) → IsUnit i.spine u → table_rows s (code_of i.spine u) (x u) ≡ table_rows s (code_of i.spine u) (capped u)
  rows_same u here =
      same_flat (λ j. count_row (code_of i.spine u) j (x u j)) (λ j. count_row (code_of i.spine u) j (capped u j)) (all_cells s)
      (each_range _ 0 (cell_count s) (λ j lo hi. ap (count_row (code_of i.spine u) j) (capped_same u j here (omega (arith, hi)))))

  all_rows : (us : List ℕ) → Each (IsUnit i.spine) us → Each (λ u. table_rows s (code_of i.spine u) (x u) ≡ table_rows s (code_of i.spine u) (capped u)) us
  all_rows [] h = tt
  all_rows (u ∷ us) h = (rows_same u h.0, all_rows us h.1)

  text_same : tables_text s i.spine x ≡ tables_text s i.spine capped
  text_same =
      ap (λ t. tables_header ++ t)
      (same_flat (λ u. table_rows s (code_of i.spine u) (x u)) (λ u. table_rows s (code_of i.spine u) (capped u)) (units_in_order i.spine)
      (all_rows (units_in_order i.spine) (units_here i.spine sound.tree)))

  abbrev pub read_counts : Counts
  read_counts = counts_of s i.spine capped

  pub tables_back : IsWithinLimits s i.spine → IsReadBack (tables.read s i.spine) (tables_text s i.spine x) read_counts
  tables_back within = record {
    short = subst (λ t. length t ≤ 2 ^ 30) (sym text_same) (tables_short s i.spine sound cells within capped capped_few);
    value_is = ap (tables.read s i.spine) text_same ∙ tables_read_back s i.spine sound cells capped capped_few;
  }

  pub read_same : (u j : ℕ) → IsUnit i.spine u → j < cell_count s → x u j ≡ count_at read_counts u j
  read_same u j here low = capped_same u j here low ∙ sym (count_of s i.spine capped u j here low)

-- ---- the prices

each_append : {X : Type 0} (P : X → Type 0) (xs ys : List X) → Each P xs → Each P ys → Each P (xs ++ ys)
each_append P [] ys h k = k
each_append P (x ∷ xs) ys h k = (h.0, each_append P xs ys h.1 k)

each_joined : {X Y : Type 0} (P : Y → Type 0) (f : X → List Y) (xs : List X) → Each (λ x. All P (f x)) xs → Each P (flat_map f xs)
each_joined P f [] h = tt
each_joined P f (x ∷ xs) h = each_append P (f x) (flat_map f xs) (recursion_from_All P (f x) h.0) (each_joined P f xs h.1)

joined_length : {X Y Z : Type 0} (f : X → List Y) (g : X → List Z) (xs : List X) → ((x : X) → length (f x) ≡ length (g x)) → length (flat_map f xs) ≡ length (flat_map g xs)
joined_length f g [] h = refl
joined_length f g (x ∷ xs) h =
    length-append (f x) (flat_map f xs) ∙ (let e = h x in let rest = joined_length f g xs h in let own = length-append (g x) (flat_map g xs) in omega (arith, e, rest, own))

small : (z : ℤ) → IsWithin (2 ^ 96) z → nat_abs z ≤ price_limit
small (pos n) h = omega (arith, ints, h.low, h.high)
small (negsuc n) h = omega (arith, ints, h.low, h.high)

small_all : (zs : List ℤ) → All (IsWithin (2 ^ 96)) zs → All (λ z. nat_abs z ≤ price_limit) zs
small_all zs h = All-from_recursion _ zs (each_weaker (IsWithin (2 ^ 96)) (λ z. nat_abs z ≤ price_limit) zs small (recursion_from_All (IsWithin (2 ^ 96)) zs h))

module _ (i : Inputs) (tree : IsTree i.spine (nation_of i.spine)) (x : Tables) (fits : List Fit)
    (order : map (λ fit. fit.parent) fits ≡ fits_of i.spine) (each : All (IsFitOf Square i x) fits) where
  abbrev price : Pricing
  price = pricing i tree x fits order each

  abbrev Small : Option ℕ → List ℤ → Type 0
  Small f ps = All (λ z. nat_abs z ≤ price_limit) ps

  each_small : (fs : List Fit) → Each (IsFitOf Square i x) fs → Each (λ fit. Small fit.parent fit.prices.items) fs
  each_small [] h = tt
  each_small (f ∷ fs) h = (small_all f.prices.items h.0.near, each_small fs h.1)

  abbrev pub read_prices : List ℤ
  read_prices = all_prices i.spine (prices_of i.schema i.spine price)

  are_prices : ArePrices i.schema i.spine read_prices
  are_prices = record {
    size = joined_length (prices_of i.schema i.spine price) (fit_places i.schema i.spine) (fits_of i.spine)
        (λ f. length-map (items_of i.schema i.spine f) (price f) ∙ sym (length-map (items_of i.schema i.spine f) (λ item. fit_field i.spine f ∷ item_fields i.spine item)));
    near = All-from_recursion _ read_prices
        (each_joined (λ z. nat_abs z ≤ price_limit) (prices_of i.schema i.spine price) (fits_of i.spine)
        (recursion_from_All _ (fits_of i.spine) (each_priced i tree x fits order each Small (each_small fits (recursion_from_All (IsFitOf Square i x) fits each)))));
  }

  pub prices_back : IsSound i.spine → cell_count i.schema ≤ 4096 → kind_count i.schema ≤ 128 → All (LevelIsNested i.schema) i.schema.levels → IsWithinLimits i.schema i.spine
      → IsReadBack (prices.read i.schema i.spine) (pricing_text i price) read_prices
  prices_back sound cells kinds nested within = record {
    short = prices_short i.schema i.spine sound cells kinds nested within read_prices are_prices;
    value_is = prices_read_back i.schema i.spine sound cells kinds nested read_prices are_prices;
  }
