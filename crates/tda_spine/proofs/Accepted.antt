-- An accepted file is a tree of few units, no two of one code, within the limits.
use Rattle.std.proofs.Common.{◌≡◌, ◌≢◌, ℕ, zero, suc, ◌+◌, ◌*◌, ◌<◌, ◌≤◌, ◌==◌, ◌⊎◌, inl, inr, Bool, true, false, ◌&&◌, ◌||◌, not, nat_lt, cond, List, [], ◌∷◌, length, get_or, take, map, option_and_then, unwrap_or, Option, Some, None, refl, sym, ap, subst, ◌∙◌, arith}
use Rattle.std.specs.Option.{option_map}
use Rattle.std.specs.Str.{bytes_eq}
use Rattle.std.specs.Cmp.Lexicographic.{bytes_decides}
use Rattle.std.proofs.lemmas.Bool.{eqb-true}
use Rattle.std.proofs.lemmas.Bool.Decides.{nat_tests}
use Rattle.std.proofs.lemmas.List.{length-take-le, get_or-take}
use Rattle.std.proofs.lemmas.List.Quantifiers.{position-Some}
use Rattle.std.proofs.lemmas.List.Folds.{list_any_at}
use Rattle.tda_io.specs.Csv.{Row, first_fault, or_else}
use Rattle.tda_io.specs.Texts.{name_test}
use Rattle.tda_model.specs.Schema.{Schema, Level}
use Rattle.tda_model.specs.Cells.{cell_count}
use Rattle.tda_model.specs.Spine.{Spine, IsUnit, IsTree, HasParent, level_of, parent_of, code_of, nation_of, units_at, is_at, is_child, children_of, unit_numbers, parents_of}
use Rattle.tda_model.specs.Sizes.{FitSize, fit_size, place_count, units_limit, counts_limit, places_limit, nodes_limit, arcs_limit}
use Rattle.tda_model.proofs.Sums.{Each, each_filter, filter_each, each_range, range_each}
use Rattle.tda_spine.specs.Rows.{code_in, level_in, parent_in, is_empty, place_of, parent_place, parent_level, level_named, fits_parent, unit_of, spine_in}
use Rattle.tda_spine.specs.Judged.{row_fault, has_no_nation, is_inner, is_childless, first_childless, has_too_many, is_too_large, fits_of, first_large_fit, tree_fault, IsWithinLimits}
use Rattle.tda_spine.specs.Sound.{IsSound}
use Rattle.tda_spine.specs.declared.fault.SpineFault.TheVariants.{NoNation, Childless, TooMany}
use Rattle.tda_spine.proofs.Places.{place_of-below}
use Rattle.tda_spine.proofs.Faults.{each_fine}
use Rattle.tda_spine.proofs.Firsts.{none_found}
use Rattle.tda_spine.proofs.FitOrder.{each_inner}
use Rattle.tda_spine.proofs.UnitRows.{many, level_is, parent_is, code_is}

not-false : (b : Bool) → not b ≡ false → b ≡ true
not-false true e = refl
not-false false e = cc

or-false : (a b : Bool) → (a || b) ≡ false → (a ≡ false) × (b ≡ false)
or-false false false e = (refl, refl)
or-false false true e = cc
or-false true b e = cc

-- the level of a row without a fault, beside its parent's
fits : (level : Option ℕ) (no_parent : Bool) (above : Option ℕ) → fits_parent level no_parent above ≡ true
    → ((level ≡ Some 0) × (no_parent ≡ true)) ⊎ ((l : ℕ) × (level ≡ Some (suc l)) × (no_parent ≡ false) × (above ≡ Some l))
fits None no_parent above e = cc
fits (Some zero) no_parent above e = inl (refl, e)
fits (Some (suc l)) no_parent None e = cc
fits (Some (suc l)) true (Some p) e = cc
fits (Some (suc l)) false (Some p) e = inr (l, refl, refl, ap Some (eqb-true p l e))

then_some : {A B : Type 0} (f : A → Option B) (o : Option A) (y : B) → option_and_then f o ≡ Some y → (x : A) × (o ≡ Some x) × (f x ≡ Some y)
then_some f None y e = cc
then_some f (Some x) y e = (x, refl, e)

-- a unit has the first level and no parent, or a parent
abbrev pub IsPlaced : Spine → ℕ → Type 0
IsPlaced sp u = ((level_of sp u ≡ 0) × (parent_of sp u ≡ None)) ⊎ ((p : ℕ) × HasParent sp u p)

module _ (s : Schema) (rows : List Row) where
  abbrev sp : Spine
  sp = spine_in s rows

  module _ (none : first_fault (row_fault s rows) [] rows ≡ None) where
    row_fits : (u : ℕ) → u < length rows
        → ((level_named s (level_in (get_or rows u [])) ≡ Some 0) × (is_empty (parent_in (get_or rows u [])) ≡ true))
        ⊎ ((l : ℕ) × (level_named s (level_in (get_or rows u [])) ≡ Some (suc l)) × (is_empty (parent_in (get_or rows u [])) ≡ false) × (parent_level s rows (get_or rows u []) ≡ Some l))
    row_fits u here = fits _ _ _ (not-false _ ((each_fine s rows none u here).level))

    placed : (u : ℕ) → IsUnit sp u → IsPlaced sp u
    placed u unit =
        let here : u < length rows = omega (arith, many s rows, unit) in
        let row = get_or rows u [] in
        elim (row_fits u here) [
          | inl h ↦
              inl (level_is s rows u here ∙ ap (λ o. unwrap_or o 0) h.0, parent_is s rows u here ∙ ap (λ b. cond b None (place_of rows (parent_in row))) h.1)
          | inr h ↦
              let p = then_some (λ q. level_named s (level_in (get_or rows q []))) (parent_place rows row) h.0 h.3 in
              let at : place_of rows (parent_in row) ≡ Some p.0 = sym (ap (λ b. cond b None (place_of rows (parent_in row))) h.2) ∙ p.1 in
              let there : p.0 < length rows = place_of-below rows (parent_in row) p.0 at in
              let level : level_of sp u ≡ suc h.0 = level_is s rows u here ∙ ap (λ o. unwrap_or o 0) h.1 in
              let above : level_of sp p.0 ≡ h.0 = level_is s rows p.0 there ∙ ap (λ o. unwrap_or o 0) p.2 in
              inr (p.0, record { here = omega (arith, many s rows, there); named = parent_is s rows u here ∙ p.1; above = omega (arith, level, above) })
        ]

    pub codes_fit : (u : ℕ) → IsUnit sp u → name_test 16 (code_of sp u) ≡ true
    codes_fit u unit =
        let here : u < length rows = omega (arith, many s rows, unit) in
        rw (code_is s rows u here) (not-false _ ((each_fine s rows none u here).code))

    row_level : (u : ℕ) → u < length rows → (unit_of s rows (get_or rows u [])).level < length s.levels
    row_level u here =
        let row = get_or rows u [] in
        let empty : Level = record { name = []; queries = [] } in
        let below = λ (l : ℕ) (e : level_named s (level_in row) ≡ Some l). (position-Some (λ v. bytes_eq v.name (level_in row)) s.levels l empty e).0 in
        elim (row_fits u here) [
          | inl h ↦ omega (arith, ap (λ o. unwrap_or o 0) h.0, below 0 h.0)
          | inr h ↦ omega (arith, ap (λ o. unwrap_or o 0) h.1, below (suc h.0) h.1)
        ]

    level_within : (u : ℕ) → IsUnit sp u → level_of sp u < sp.depth
    level_within u unit =
        let here : u < length rows = omega (arith, many s rows, unit) in
        omega (arith, level_is s rows u here, row_level u here)

    codes_differ : (u v : ℕ) → u < v → IsUnit sp v → code_of sp u ≡ code_of sp v → ⊥
    codes_differ u v before unit same =
        let here : v < length rows = omega (arith, many s rows, unit) in
        let row = get_or rows v [] in
        let len : length (take v rows) ≡ v = length-take-le v rows (omega arith) in
        let earlier : get_or (take v rows) u [] ≡ get_or rows u [] = get_or-take v rows u [] before in
        let equal : code_in row ≡ code_in (get_or (take v rows) u []) = sym (code_is s rows v here) ∙ sym same ∙ code_is s rows u (omega arith) ∙ ap code_in (sym earlier) in
        let test = (bytes_decides (code_in row) (code_in (get_or (take v rows) u []))).1 equal in
        let found = list_any_at (λ e. bytes_eq (code_in row) (code_in e)) (take v rows) u [] (omega (arith, len)) test in
        let never = (each_fine s rows none v here).new in
        absurd cc

-- one element
one_of : (xs : List ℕ) → length xs ≡ 1 → xs ≡ elim xs as (λ _. ℕ) [ n ∷ rest ↦ n | [] ↦ 0 ] ∷ []
one_of [] e = absurd (omega arith)
one_of (x ∷ []) e = refl
one_of (x ∷ y ∷ xs) e = absurd (omega arith)

child_named : (o : Option ℕ) (p : ℕ) → elim o as (λ _. Bool) [ Some q ↦ p == q | None ↦ false ] ≡ true → o ≡ Some p
child_named (Some q) p h = ap Some (sym (eqb-true p q h))
child_named None p h = cc

-- what is said of units one by one, and of the whole, makes a tree
module _ (sp : Spine) (placed : (u : ℕ) → IsUnit sp u → IsPlaced sp u) where
  child_has : (u c : ℕ) → IsUnit sp c → is_child sp u c ≡ true → HasParent sp c u
  child_has u c unit is =
      let named : parent_of sp c ≡ Some u = child_named (parent_of sp c) u is in
      elim (placed c unit) [
        | inl h ↦ let none : parent_of sp c ≡ None = h.1 in absurd cc
        | inr h ↦
            let named_too : parent_of sp c ≡ Some h.0 = h.1.named in
            let same : h.0 ≡ u = cc in subst (HasParent sp c) same h.1
      ]

  abbrev HasChild : ℕ → Type 0
  HasChild u = (c : ℕ) × IsUnit sp c × HasParent sp c u

  first_child : (u : ℕ) (xs : List ℕ) → Each (λ c. IsUnit sp c × HasParent sp c u) xs → length xs ≢ 0 → HasChild u
  first_child u [] each some = absurd (some refl)
  first_child u (c ∷ cs) each some = (c, each.0.0, each.0.1)

  children_each : (u : ℕ) → Each (λ c. IsUnit sp c × HasParent sp c u) (children_of sp u)
  children_each u =
      each_filter _ (is_child sp u) _ (each_range _ 0 (length sp.units) (λ c low high is.
      let unit : IsUnit sp c = omega arith in (unit, child_has u c unit is)))

  some_child : first_childless sp ≡ None → (u : ℕ) → IsUnit sp u → level_of sp u + 1 < sp.depth → HasChild u
  some_child none u unit low =
      first_child u (children_of sp u) (children_each u) (λ e.
      let inner : is_inner sp u ≡ true = grind (arith, nat_tests) in
      let empty : (length (children_of sp u) == 0) ≡ true = ap (λ n. n == 0) e in
      let test : is_childless sp u ≡ true = ap (λ b. b && (length (children_of sp u) == 0)) inner ∙ empty in
      let never = range_each (λ v. is_childless sp v ≡ false) 0 (length sp.units) (none_found (is_childless sp) (unit_numbers sp) none) u (omega arith) (omega (arith, unit)) in
      absurd cc)

  module _ (one : has_no_nation sp ≡ false) where
    nation_alone : units_at sp 0 ≡ nation_of sp ∷ []
    nation_alone = one_of (units_at sp 0) (eqb-true (length (units_at sp 0)) 1 (not-false _ one))

    is_nation : IsUnit sp (nation_of sp) × (level_of sp (nation_of sp) ≡ 0)
    is_nation =
        (subst (Each (λ u. IsUnit sp u × (level_of sp u ≡ 0))) nation_alone
        (each_filter _ (is_at sp 0) _ (each_range _ 0 (length sp.units) (λ u low high is. (omega arith, eqb-true _ _ is))))).0

    alone : (u : ℕ) → IsUnit sp u → level_of sp u ≡ 0 → u ≡ nation_of sp
    alone u unit level =
        range_each _ 0 (length sp.units) (filter_each (λ v. v ≡ nation_of sp) (is_at sp 0) (unit_numbers sp)
        (subst (Each (λ v. v ≡ nation_of sp)) (sym nation_alone) (refl, tt))) u (omega arith) (omega (arith, unit)) (ap (λ l. l == 0) level)

    pub tree_of : 2 ≤ sp.depth → ((u : ℕ) → IsUnit sp u → level_of sp u < sp.depth) → first_childless sp ≡ None → IsTree sp (nation_of sp)
    tree_of deep within none = record {
      deep = deep;
      root = is_nation.0;
      root_level = is_nation.1;
      root_parent = elim (placed (nation_of sp) is_nation.0) [ inl h ↦ h.1 | inr h ↦ let above = h.1.above in let level = is_nation.1 in absurd (omega arith) ];
      root_alone = alone;
      within = within;
      parent = λ u unit low. elim (placed u unit) [ inl h ↦ let level = h.0 in absurd (omega arith) | inr h ↦ h ];
      child = some_child none;
    }

at_most : (n most : ℕ) → nat_lt most n ≡ false → n ≤ most
at_most n most e = grind (arith, nat_tests)

-- units that form a tree, and are not too many
pub record IsFaultless (s : Schema) (sp : Spine) : Type 0 where
  pub nation : has_no_nation sp ≡ false
  pub children : first_childless sp ≡ None
  pub few : has_too_many s sp ≡ false

faultless : (s : Schema) (sp : Spine) → tree_fault s sp ≡ None → IsFaultless s sp
faultless s sp none =
    let all = three (has_no_nation sp) (first_childless sp) (has_too_many s sp) none in
    record { nation = all.0; children = all.1; few = all.2 }
  where
    three : (a : Bool) (o : Option ℕ) (b : Bool)
        → cond a (Some NoNation) (or_else (option_map Childless o) (cond b (Some TooMany) None)) ≡ None
        → (a ≡ false) × (o ≡ None) × (b ≡ false)
    three false None false e = (refl, refl, refl)
    three true o b e = cc
    three false (Some u) b e = cc
    three false None true e = cc

pub sound : (s : Schema) (rows : List Row) → 2 ≤ length s.levels → length s.levels ≤ 7
    → first_fault (row_fault s rows) [] rows ≡ None → tree_fault s (spine_in s rows) ≡ None → IsSound (spine_in s rows)
sound s rows deep shallow rows_fine none =
    let sp = spine_in s rows in
    let fine = faultless s sp none in
    let few = or-false _ _ fine.few in
    record {
      tree = tree_of sp (placed s rows rows_fine) fine.nation deep (level_within s rows rows_fine) fine.children;
      distinct = codes_differ s rows rows_fine;
      coded = codes_fit s rows rows_fine;
      few = at_most (length sp.units) units_limit (or-false _ _ few.0).0;
      shallow = shallow;
    }

small_size : (size : FitSize) → is_too_large size ≡ false → (size.nodes ≤ nodes_limit) × (size.arcs ≤ arcs_limit)
small_size size e =
    let both = or-false _ _ e in (at_most size.nodes nodes_limit both.0, at_most size.arcs arcs_limit both.1)

pub within_limits : (s : Schema) (sp : Spine) → sp.depth ≡ length s.levels → IsTree sp (nation_of sp) → tree_fault s sp ≡ None → first_large_fit s sp ≡ None
    → IsWithinLimits s sp
within_limits s sp deep tree none small =
    let few = or-false _ _ (faultless s sp none).few in
    let fewer = or-false _ _ few.0 in
    let fits = none_found (λ fit. is_too_large (fit_size s sp fit)) (fits_of sp) small in
    let root = small_size (fit_size s sp None) fits.0 in
    let splits = map_each Some (λ fit. is_too_large (fit_size s sp fit) ≡ false) (parents_of sp) fits.1 in
    let split = λ (u : ℕ) (here : IsUnit sp u) (above : level_of sp u + 1 < sp.depth).
    small_size (fit_size s sp (Some u)) (each_inner sp tree (λ p. is_too_large (fit_size s sp (Some p)) ≡ false) splits u (record { here = here; above = above })) in
    record {
      depth = deep;
      units = at_most (length sp.units) units_limit fewer.0;
      counts = at_most (length sp.units * cell_count s) counts_limit fewer.1;
      places = at_most (place_count s sp) places_limit few.1;
      root_nodes = root.0;
      root_arcs = root.1;
      nodes = λ u here above. (split u here above).0;
      arcs = λ u here above. (split u here above).1;
    }
  where
    map_each : {X Y : Type 0} (f : X → Y) (P : Y → Type 0) (xs : List X) → Each P (map f xs) → Each (λ x. P (f x)) xs
    map_each f P [] h = tt
    map_each f P (x ∷ xs) (e, h) = (e, map_each f P xs h)
