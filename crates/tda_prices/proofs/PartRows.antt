-- The rows of a fit are those of its parts, and what is left of a part.
use Rattle.std.proofs.Common.{◌≡◌, ℕ, ◌+◌, ◌<◌, ◌≤◌, cond, Bool, true, false, List, [], ◌∷◌, ◌++◌, length, get_or, map, filter, drop, Option, Some, None, refl, ap, ◌∙◌}
use Rattle.std.specs.List.{flat_map, range_with_len}
use Rattle.std.proofs.Math.ListN.{drop_of_length-le}
use Rattle.std.proofs.lemmas.List.{drop_more, length-map, map-append}
use Rattle.std.proofs.lemmas.List.FromFn.{length-map-range_with_len}
use Rattle.tda_io.specs.Csv.{Row}
use Rattle.tda_model.specs.Schema.{Schema}
use Rattle.tda_model.specs.Cells.{possible_cells}
use Rattle.tda_model.specs.Groups.{kind_count}
use Rattle.tda_model.specs.Sizes.{groups_at}
use Rattle.tda_model.specs.Spine.{Spine, level_of, nation_of, units_at, children_of}
use Rattle.tda_prices.specs.Items.{Item, OfState, OfKind, OfCell, OfGroup, unit_items}
use Rattle.tda_prices.specs.Parts.{rows_of, state_rows, kind_rows, cell_rows, group_rows, child_rows}
use Rattle.tda_prices.specs.PricesText.{fit_field, item_fields, fit_places}

module _ {X : Type 0} (xs : List X) (k : ℕ) where
  pub none_left : length xs ≤ k → drop k xs ≡ []
  none_left past = drop_of_length-le xs past

  module _ (p : X → Bool) (d : X) (below : k < length xs) where
    pub filter_on : p (get_or xs k d) ≡ true → filter p (drop k xs) ≡ get_or xs k d ∷ filter p (drop (k + 1) xs)
    filter_on is = ap (filter p) (drop_more xs k d below) ∙ ap (λ b. cond b (get_or xs k d ∷ filter p (drop (k + 1) xs)) (filter p (drop (k + 1) xs))) is

    pub filter_past : p (get_or xs k d) ≡ false → filter p (drop k xs) ≡ filter p (drop (k + 1) xs)
    filter_past is = ap (filter p) (drop_more xs k d below) ∙ ap (λ b. cond b (get_or xs k d ∷ filter p (drop (k + 1) xs)) (filter p (drop (k + 1) xs))) is

module _ (sp : Spine) (fit : Option ℕ) (item : ℕ → Item) where
  pub row_of : ℕ → Row
  row_of n = fit_field sp fit ∷ item_fields sp (item n)

  pub next_row : (xs : List ℕ) (k : ℕ) → k < length xs → rows_of sp fit item (drop k xs) ≡ (fit_field sp fit ∷ item_fields sp (item (get_or xs k 0))) ∷ rows_of sp fit item (drop (k + 1) xs)
  next_row xs k below = ap (rows_of sp fit item) (drop_more xs k 0 below)

module _ (s : Schema) (sp : Spine) where
  mapped : (fit : Option ℕ) (item : ℕ → Item) (xs : List ℕ) → map (λ i. fit_field sp fit ∷ item_fields sp i) (map item xs) ≡ rows_of sp fit item xs
  mapped fit item [] = refl
  mapped fit item (x ∷ xs) = ap (λ rows. (fit_field sp fit ∷ item_fields sp (item x)) ∷ rows) (mapped fit item xs)

  pub root_rows : fit_places s sp None ≡ state_rows sp ++ (kind_rows s sp ++ group_rows s sp None (nation_of sp))
  root_rows =
      let row : Item → Row = λ i. fit_field sp None ∷ item_fields sp i in
      map-append row (map OfState (units_at sp 1)) (map OfKind (range_with_len 0 (kind_count s)) ++ unit_items s sp (nation_of sp))
      ∙ ap (λ rows. rows ++ map row (map OfKind (range_with_len 0 (kind_count s)) ++ unit_items s sp (nation_of sp))) (mapped None OfState (units_at sp 1))
      ∙ ap (λ rows. state_rows sp ++ rows) (map-append row (map OfKind (range_with_len 0 (kind_count s))) (unit_items s sp (nation_of sp))
      ∙ ap (λ rows. rows ++ map row (unit_items s sp (nation_of sp))) (mapped None OfKind (range_with_len 0 (kind_count s)))
      ∙ ap (λ rows. kind_rows s sp ++ rows) (mapped None (OfGroup (nation_of sp)) (range_with_len 0 (groups_at s (level_of sp (nation_of sp))))))

  pub split_rows : (p : ℕ) → fit_places s sp (Some p) ≡ cell_rows s sp p ++ child_rows s sp p
  split_rows p =
      let row : Item → Row = λ i. fit_field sp (Some p) ∷ item_fields sp i in
      map-append row (map OfCell (possible_cells s)) (flat_map (unit_items s sp) (children_of sp p))
      ∙ ap (λ rows. rows ++ map row (flat_map (unit_items s sp) (children_of sp p))) (mapped (Some p) OfCell (possible_cells s))
      ∙ ap (λ rows. cell_rows s sp p ++ rows) (by (children_of sp p))
    where
      by : (cs : List ℕ) → map (λ i. fit_field sp (Some p) ∷ item_fields sp i) (flat_map (unit_items s sp) cs) ≡ flat_map (group_rows s sp (Some p)) cs
      by [] = refl
      by (c ∷ cs) =
          map-append (λ i. fit_field sp (Some p) ∷ item_fields sp i) (unit_items s sp c) (flat_map (unit_items s sp) cs)
          ∙ ap (λ rows. rows ++ map (λ i. fit_field sp (Some p) ∷ item_fields sp i) (flat_map (unit_items s sp) cs)) (mapped (Some p) (OfGroup c) (range_with_len 0 (groups_at s (level_of sp c))))
          ∙ ap (λ rows. group_rows s sp (Some p) c ++ rows) (by cs)

  -- how many rows the parts have
  pub rows_long : (fit : Option ℕ) (u : ℕ) → length (group_rows s sp fit u) ≡ groups_at s (level_of sp u)
  rows_long fit u = length-map-range_with_len (λ g. fit_field sp fit ∷ item_fields sp (OfGroup u g)) 0 (groups_at s (level_of sp u))

  pub kinds_long : length (kind_rows s sp) ≡ kind_count s
  kinds_long = length-map-range_with_len (λ k. fit_field sp None ∷ item_fields sp (OfKind k)) 0 (kind_count s)

  pub cells_long : (p : ℕ) → length (cell_rows s sp p) ≡ length (possible_cells s)
  cells_long p = length-map (possible_cells s) (λ j. fit_field sp (Some p) ∷ item_fields sp (OfCell j))

pub states_long : (sp : Spine) → length (state_rows sp) ≡ length (units_at sp 1)
states_long sp = length-map (units_at sp 1) (λ st. fit_field sp None ∷ item_fields sp (OfState st))
