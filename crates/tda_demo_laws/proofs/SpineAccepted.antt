-- The demo's spine is accepted, for each size from 1 to 64.
use Rattle.std.proofs.Common.{◌≡◌, ℕ, zero, suc, ◌+◌, ◌*◌, ◌<◌, ◌≤◌, ◌^◌, Bool, true, false, ◌||◌, nat_lt, codes, List, [], ◌∷◌, length, get_or, Option, Some, None, Ok, refl, sym, ap, subst, ◌∙◌, arith}
use Rattle.std.specs.List.{AllByRecursion}
use Rattle.std.proofs.lemmas.Bool.{le-ltb}
use Rattle.std.proofs.lemmas.Nat.{mul-le}
use Rattle.std.proofs.lemmas.List.Elements.{All-from_get_or}
use Rattle.std.proofs.lemmas.List.FromFn.{length-range_with_len}
use Rattle.std.proofs.lemmas.List.Sums.{sum_by-le}
use Rattle.tda_io.specs.Texts.{name_test}
use Rattle.tda_model.specs.Cells.{cell_count, possible_cells}
use Rattle.tda_model.specs.Sizes.{fit_size, groups_at, places_at, place_count, units_limit, counts_limit, places_limit, nodes_limit, arcs_limit}
use Rattle.tda_model.specs.Spine.{Spine, level_of, is_at, children_of, unit_numbers}
use Rattle.tda_spine.specs.Judged.{has_too_many, is_too_large, read}
use Rattle.tda_spine.specs.Rows.{level_named}
use Rattle.tda_spine.specs.Sound.{IsSound}
use Rattle.tda_spine.proofs.Numbers.{length-kept-le}
use Rattle.tda_demo.specs.DemoSpine.{branches, spine}
use Rattle.tda_demo.specs.SpineText.{spine_text}
use Rattle.tda_demo.specs.Preorder.{nation}
use Rattle.tda_demo.specs.Schema.{schema}
use Rattle.tda_demo.specs.Names.{level_name}
use Rattle.tda_demo.proofs.Nodes.{whole_size}
use Rattle.tda_demo_laws.proofs.RegularTree.{is_tree, codes_are_names, IsBranch}
use Rattle.tda_demo_laws.proofs.Distinct.{distinct, IsApart}
use Rattle.tda_demo_laws.proofs.ChildCounts.{few_children}
use Rattle.tda_demo_laws.proofs.SpineBack.{IsWritable}
use Rattle.tda_demo_laws.proofs.SpineTexts.{spine_back}

-- ---- numbers of the schema
places_below : (l : ℕ) → places_at schema l ≤ 13
places_below zero = omega arith
places_below (suc zero) = omega arith
places_below (suc (suc zero)) = omega arith
places_below (suc (suc (suc zero))) = omega arith
places_below (suc (suc (suc (suc zero)))) = omega arith
places_below (suc (suc (suc (suc (suc l))))) = omega arith

groups_below : (l : ℕ) → groups_at schema l ≤ 14
groups_below zero = omega arith
groups_below (suc zero) = omega arith
groups_below (suc (suc zero)) = omega arith
groups_below (suc (suc (suc zero))) = omega arith
groups_below (suc (suc (suc (suc zero)))) = omega arith
groups_below (suc (suc (suc (suc (suc l))))) = omega arith

possible_are : length (possible_cells schema) ≡ 10
possible_are = refl

-- a spine of few units, none of which has many children
module _ (sp : Spine) (count : length sp.units ≤ 1569) (children : (p : ℕ) → length (children_of sp p) ≤ 64) where
  not_many : has_too_many schema sp ≡ false
  not_many =
      let units = le-ltb units_limit (length sp.units) (omega (arith, count)) in
      let counts = le-ltb counts_limit (length sp.units * cell_count schema) (omega (arith, count)) in
      let each = sum_by-le (λ u. places_at schema (level_of sp u)) 13 (unit_numbers sp)
      (All-from_get_or (λ u. places_at schema (level_of sp u) ≤ 13) (unit_numbers sp) 0 (λ i l. places_below (level_of sp (get_or (unit_numbers sp) i 0)))) in
      let long = length-range_with_len 0 (length sp.units) in
      let places = le-ltb places_limit (place_count schema sp) (omega (arith, count, each, long)) in
      three (nat_lt units_limit (length sp.units)) (nat_lt counts_limit (length sp.units * cell_count schema)) (nat_lt places_limit (place_count schema sp)) units counts places
    where
      three : (a b c : Bool) → a ≡ false → b ≡ false → c ≡ false → (a || b || c) ≡ false
      three a b c ea eb ec = rw (ea, eb, ec) refl

  small_one : (nodes arcs : ℕ) → nodes ≤ nodes_limit → arcs ≤ arcs_limit → is_too_large (record { nodes = nodes; arcs = arcs }) ≡ false
  small_one nodes arcs hn ha = rw (le-ltb nodes_limit nodes hn, le-ltb arcs_limit arcs ha) refl

  small : (fit : Option ℕ) → is_too_large (fit_size schema sp fit) ≡ false
  small None =
      let states = length-kept-le (is_at sp 1) (length sp.units) in
      small_one (fit_size schema sp None).nodes (fit_size schema sp None).arcs (omega (arith, states, count)) (omega (arith, states, count))
  small (Some p) =
      let few = children p in
      let groups = groups_below (level_of sp p + 1) in
      let most = mul-le (length (children_of sp p)) (groups_at schema (level_of sp p + 1)) 64 14 few groups in
      small_one (fit_size schema sp (Some p)).nodes (fit_size schema sp (Some p)).arcs (omega (arith, most)) (omega (arith, most, few))

level_names : (l : ℕ) → l < 5 → level_named schema (level_name schema l) ≡ Some l
level_names zero h = refl
level_names (suc zero) h = refl
level_names (suc (suc zero)) h = refl
level_names (suc (suc (suc zero))) h = refl
level_names (suc (suc (suc (suc zero)))) h = refl
level_names (suc (suc (suc (suc (suc l))))) h = absurd (omega arith)

pub level_texts : (l : ℕ) → l < 5 → name_test 32 (level_name schema l) ≡ true
level_texts zero h = refl
level_texts (suc zero) h = refl
level_texts (suc (suc zero)) h = refl
level_texts (suc (suc (suc zero))) h = refl
level_texts (suc (suc (suc (suc zero)))) h = refl
level_texts (suc (suc (suc (suc (suc l))))) h = absurd (omega arith)

module _ (size : ℕ) (some : 1 ≤ size) (few : size ≤ 64) where
  pub unit_count : length (spine size).units ≡ 33 + 24 * size
  unit_count = whole_size (codes "US") (branches size) ∙ omega arith

  are_branches : AllByRecursion IsBranch (branches size)
  are_branches = (
    record { some = omega arith; few = omega arith; letter = refl; no_digit = omega arith },
    (
      record { some = omega arith; few = omega arith; letter = refl; no_digit = omega arith },
      (
        record { some = omega arith; few = omega arith; letter = refl; no_digit = omega arith },
        (record { some = omega arith; few = omega arith; letter = refl; no_digit = omega arith }, tt),
      ),
    ),
  )

  nation_apart : IsApart (codes "US") (branches size) (branches size) (nation (codes "US")) []
  nation_apart = λ k rest e. let first = ap head e in omega (arith, first)
    where
      head : List ℕ → ℕ
      head [] = 0
      head (c ∷ cs) = c

  pub sound : IsSound (spine size)
  sound = record {
    tree = is_tree (codes "US") (branches size) (omega arith) are_branches;
    distinct = distinct (codes "US") (branches size) are_branches nation_apart;
    coded = codes_are_names (codes "US") (branches size) (omega arith) are_branches (omega arith) refl;
    few = subst (λ n. n ≤ 2 ^ 17) (sym unit_count) (omega arith);
    shallow = omega arith;
  }

  -- ---- limits
  pub many : length (spine size).units ≤ 1569
  many = subst (λ n. n ≤ 1569) (sym unit_count) (omega arith)

  children_few : (p : ℕ) → length (children_of (spine size) p) ≤ 64
  children_few p = few_children (codes "US") (branches size) 64 p (omega arith, (omega arith, (omega arith, (omega arith, tt))))

  pub writable : IsWritable schema (spine size)
  writable = record { sound = sound; depth = refl; names = level_names; few = not_many (spine size) many children_few; fits = small (spine size) many children_few }

  pub spine_accepted : read schema (spine_text schema (spine size)) ≡ Ok (spine size)
  spine_accepted = spine_back schema (spine size) writable level_texts
