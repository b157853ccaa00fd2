-- The numbers of the kinds and classes of a level among its groups.
use Rattle.std.proofs.Common.{◌≡◌, ◌↔◌, ℕ, ◌<◌, List, [], ◌∷◌, length, get_or, map, All, Contains, Option, Some, None, IsSomeAnd, slice_get, sym, ap, ◌∙◌, subst, arith}
use Rattle.std.specs.List.{range_with_len, flat_map}
use Rattle.std.proofs.lemmas.List.{get_or-map}
use Rattle.std.proofs.lemmas.List.Elements.{All-contains, Contains-append_left, Contains-append_right}
use Rattle.std.proofs.lemmas.List.FromFn.{length-map-range_with_len, get_or-map-range_with_len}
use Rattle.std.proofs.lemmas.Option.{slice_get_within, get_or_from_slice_get}
use Rattle.tda_model.specs.Schema.{Query, Level, Schema}
use Rattle.tda_model.specs.Cells.{cell_count, is_possible, possible_cells}
use Rattle.tda_model.specs.Groups.{kind_cells, kind_count, class_cells, classes_of, IsGroup}
use Rattle.tda_sets.proofs.Members.{Contains-later, Contains-range, Contains-map, Contains-flat_map, passing_below}
use Rattle.tda_groups.specs.Sources.{named_cells, kind_sets, class_sets}
use Rattle.tda_groups.specs.Order.{AreGroups}
use Rattle.tda_groups.specs.Tree.{Tree, kind_at, class_at, place_in}
use Rattle.tda_groups.proofs.Classes.{class_names, named_is}
use Rattle.tda_groups.proofs.Places.{is_placed}

module _ (s : Schema) (l : Level) (t : Tree) (groups : AreGroups t.groups) (exact : (xs : List ℕ) → Contains t.groups xs ↔ IsGroup s l xs) where
  abbrev plain : List (List ℕ)
  plain = possible_cells s ∷ kind_sets s

  abbrev classes : Query → List (List ℕ)
  classes q = map (class_cells s q) (classes_of s q)

  abbrev IsAt : Option ℕ → List ℕ → Type 0
  IsAt o xs = IsSomeAnd o (λ g. slice_get t.groups g ≡ Some xs)

  pub each_kind : t.kinds ≡ map (place_in t.groups) (kind_sets s) → (kind : ℕ) → kind < kind_count s → IsAt (kind_at t kind) (kind_cells s kind)
  each_kind kinds kind low =
      let n = kind_count s in
      let size : length (kind_sets s) ≡ n = length-map-range_with_len (kind_cells s) 0 n in
      let set : get_or (kind_sets s) kind [] ≡ kind_cells s kind = get_or-map-range_with_len (kind_cells s) 0 n kind kind [] low (omega arith) in
      let is : kind_at t kind ≡ place_in t.groups (kind_cells s kind) =
      ap (λ xs. get_or xs kind None) kinds ∙ get_or-map (place_in t.groups) (kind_sets s) kind [] None (omega arith) ∙ ap (place_in t.groups) set in
      let found = Contains-append_left plain (flat_map classes l.queries) (kind_cells s kind)
      (Contains-later (possible_cells s) (kind_sets s) (kind_cells s kind) (Contains-map (kind_cells s) (range_with_len 0 n) kind (Contains-range n kind low))) in
      subst (λ o. IsAt o (kind_cells s kind)) (sym is) (is_placed t.groups groups (kind_cells s kind) ((exact (kind_cells s kind)).1 found))

  pub each_class : All (λ q. q.only ≡ []) l.queries → t.classes ≡ map (λ q. map (place_in t.groups) (class_sets s q)) l.queries
      → (query class : ℕ) (q : Query) → slice_get l.queries query ≡ Some q → Contains (classes_of s q) class → IsAt (class_at t query class) (class_cells s q class)
  each_class over_all rows query class q at found =
      let below : query < length l.queries = slice_get_within l.queries query q at in
      let here : get_or l.queries query q ≡ q = get_or_from_slice_get l.queries query q q at in
      let listed : Contains l.queries q = (query, below, here) in
      let only = All-contains (λ x. x.only ≡ []) l.queries q over_all listed in
      let names = class_names s q only class found in
      let low : class < cell_count s = passing_below (is_possible s) (cell_count s) class names.0 in
      let f : Query → List (Option ℕ) = λ x. map (place_in t.groups) (class_sets s x) in
      let row : get_or t.classes query [] ≡ f q = ap (λ xs. get_or xs query []) rows ∙ get_or-map f l.queries query q [] below ∙ ap f here in
      let size : length (class_sets s q) ≡ cell_count s = length-map-range_with_len (named_cells s q) 0 (cell_count s) in
      let set : get_or (class_sets s q) class [] ≡ class_cells s q class =
      get_or-map-range_with_len (named_cells s q) 0 (cell_count s) class class [] low (omega arith) ∙ named_is s q only class names in
      let is : class_at t query class ≡ place_in t.groups (class_cells s q class) =
      ap (λ xs. get_or xs class None) row ∙ get_or-map (place_in t.groups) (class_sets s q) class [] None (omega arith) ∙ ap (place_in t.groups) set in
      let among = Contains-append_right plain (flat_map classes l.queries) (class_cells s q class)
      (Contains-flat_map classes l.queries q (class_cells s q class) listed (Contains-map (class_cells s q) (classes_of s q) class found)) in
      subst (λ o. IsAt o (class_cells s q class)) (sym is) (is_placed t.groups groups (class_cells s q class) ((exact (class_cells s q class)).1 among))
