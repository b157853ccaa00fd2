-- The families of a level's groups: how each comes from all possible cells, split by split.
use Rattle.std.proofs.Common.{◌≡◌, ◌&&◌, ℕ, ◌+◌, ◌<◌, ◌≤◌, Bool, true, false, List, [], length, get_or, take, map, refl, sym, ap, ◌∙◌, arith}
use Rattle.std.specs.Cmp.{IsEquivalence}
use Rattle.std.specs.List.{list_all}
use Rattle.std.proofs.lemmas.List.{take_all}
use Rattle.std.proofs.lemmas.List.Folds.{list_all_more}
use Rattle.std.proofs.lemmas.List.FromFn.{length-map-range_with_len, get_or-map-range_with_len}
use Rattle.tda_model.specs.Schema.{Entry, Attribute_values, Query, Schema}
use Rattle.tda_model.specs.Cells.{cell_count, is_possible, all_cells}
use Rattle.tda_model.specs.Groups.{alike_at}
use Rattle.tda_sets.specs.Family.{Names, family_of, is_member, are_together, firsts}
use Rattle.tda_sets.proofs.Families.{family_agree, length-family_of, is_member-family_of, are_together-family_of}
use Rattle.tda_schema.specs.Classes.{whole_family, kind_family, query_family, split_by, entries_family, family_parts}
use Rattle.tda_schema.specs.Parts.{class_at, query_parts}
use Rattle.tda_schema.proofs.QueryGroups.{all_alike, query_names, query_firsts}

module _ (s : Schema) where
  -- marks of the possible cells make the family of all of them
  pub whole_is : (marks : List Bool) → marks ≡ map (is_possible s) (all_cells s) → family_of (length marks) (λ i. get_or marks i false) (λ i j. true) ≡ whole_family s
  whole_is marks is =
      let n = cell_count s in
      ap (λ k. family_of k (λ i. get_or marks i false) (λ i j. true)) (ap length is ∙ length-map-range_with_len (is_possible s) 0 n)
      ∙ family_agree n (λ i. get_or marks i false) (is_possible s) (λ i j. true) (λ i j. true)
      (λ i below. ap (λ ms. get_or ms i false) is ∙ get_or-map-range_with_len (is_possible s) 0 n i i false below (omega arith)) (λ i j low high here there. refl)

  pub length-cells : (alike : ℕ → ℕ → Bool) (names : Names) → names ≡ family_of (cell_count s) (is_possible s) alike → length names ≡ cell_count s
  length-cells alike names is = ap length is ∙ length-family_of (cell_count s) (is_possible s) alike

  -- a family that is split once more
  pub split_more : (alike : ℕ → ℕ → Bool) → IsEquivalence alike → (entry : Entry)
      → split_by s (family_of (cell_count s) (is_possible s) alike) entry ≡ family_of (cell_count s) (is_possible s) (λ i j. alike i j && alike_at s i j entry)
  split_more alike eq entry =
      let n = cell_count s in
      let p = is_possible s in
      let names = family_of n p alike in
      family_agree n (is_member names) p (λ i j. are_together names i j && alike_at s i j entry) (λ i j. alike i j && alike_at s i j entry)
      (is_member-family_of n p alike)
      (λ i j low high here there.
      ap (λ b. b && alike_at s i j entry)
      (are_together-family_of n p alike eq i j low high (sym (is_member-family_of n p alike i low) ∙ here) (sym (is_member-family_of n p alike j high) ∙ there)))

  pub kind_is : (names : Names) → names ≡ whole_family s → split_by s names (Attribute_values 0) ≡ kind_family s
  kind_is names is =
      ap (λ ns. split_by s ns (Attribute_values 0)) is
      ∙ split_more (λ i j. true) (record { refl = λ i. refl; symm = λ i j. refl; congr = λ i j k e. refl }) (Attribute_values 0)

  module _ (by : List Entry) where
    pub entry_more : (k : ℕ) (e : Entry) (names : Names) → k < length by → e ≡ get_or by k e → names ≡ entries_family s (take k by) → split_by s names e ≡ entries_family s (take (k + 1) by)
    entry_more k e names below at is =
        ap (λ ns. split_by s ns e) is ∙ split_more (λ i j. list_all (alike_at s i j) (take k by)) (all_alike s (take k by)) e
        ∙ family_agree (cell_count s) (is_possible s) (is_possible s) (λ i j. list_all (alike_at s i j) (take k by) && alike_at s i j e) (λ i j. list_all (alike_at s i j) (take (k + 1) by))
        (λ i low. refl)
        (λ i j low high here there.
        ap (λ (x : Entry). list_all (alike_at s i j) (take k by) && alike_at s i j x) at ∙ sym (list_all_more (alike_at s i j) by k e below))

    pub entries_all : (k : ℕ) (names : Names) → length by ≤ k → names ≡ entries_family s (take k by) → names ≡ entries_family s by
    entries_all k names all is = is ∙ ap (entries_family s) (take_all k by all)

  -- the classes of a query, as they are kept
  pub parts_are : (q : Query) → q.only ≡ [] → family_parts (query_family s q) ≡ query_parts s q
  parts_are q over_all =
      ap (λ ns. record { class_of = ns; classes = firsts (query_family s q) }) (query_names s q over_all)
      ∙ ap (λ cs. record { class_of = map (class_at s q) (all_cells s); classes = cs }) (query_firsts s q over_all)
