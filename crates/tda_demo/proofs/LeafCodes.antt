-- The last units of a regular spine, in file order, have the codes of their numbers.
use Rattle.std.proofs.Common.{◌≡◌, ℕ, suc, ◌+◌, ◌-◌, ◌*◌, ◌<◌, ◌≤◌, Bool, true, false, cond, List, [], ◌∷◌, ◌++◌, map, length, get_or, Some, None, refl, sym, ap, subst, ◌∙◌, arith, eq-eqb, ne_eqb}
use Rattle.std.specs.Prelude.{◌==◌, filter, slice_get}
use Rattle.std.specs.List.{flat_map, range_with_len}
use Rattle.std.proofs.lemmas.List.{map-append, get_or-map, length-map}
use Rattle.std.proofs.lemmas.List.Elements.{filter-append}
use Rattle.std.proofs.lemmas.List.FromFn.{length-map-range_with_len, get_or-map-range_with_len}
use Rattle.tda_model.specs.Spine.{Spine, SpineUnit, code_of, is_at, units_at}
use Rattle.tda_demo.specs.BlockCodes.{leaf_count, leaf_code}
use Rattle.tda_demo.specs.Facilities.{block_count, block_code}
use Rattle.tda_demo.specs.Preorder.{Branch, child_code, child_place, child, units_below, nation, regular_spine}
use Rattle.tda_demo.proofs.Ranges.{flat_same, rows_of_width}

-- the codes of the last units below a unit, in order
leaf_codes : List Branch → List ℕ → List (List ℕ)
leaf_codes [] stem = stem ∷ []
leaf_codes (b ∷ bs) stem = flat_map (λ k. leaf_codes bs (child_code stem b k)) (range_with_len 0 b.count)

-- ---- numbers and elements
either : {X : Type 0} (f : ℕ → List ℕ) (g : X → List ℕ) (n : ℕ) (x : X) (ns : List ℕ) (xs : List X) (t u : Bool)
    → t ≡ u → f n ≡ g x → map f ns ≡ map g xs → map f (cond t (n ∷ ns) ns) ≡ map g (cond u (x ∷ xs) xs)
either f g n x ns xs true true e first rest = ap (λ y. y ∷ map f ns) first ∙ ap (λ ys. g x ∷ ys) rest
either f g n x ns xs true false e first rest = absurd cc
either f g n x ns xs false true e first rest = absurd cc
either f g n x ns xs false false e first rest = rest

-- a test and a function of the numbers that are those of the elements
kept : {X : Type 0} (p : X → Bool) (g : X → List ℕ) (test : ℕ → Bool) (f : ℕ → List ℕ) (a : ℕ) (xs : List X)
    → ((k : ℕ) (x : X) → slice_get xs k ≡ Some x → (test (a + k) ≡ p x) × (f (a + k) ≡ g x))
    → map f (filter test (range_with_len a (length xs))) ≡ map g (filter p xs)
kept p g test f a [] h = refl
kept p g test f a (x ∷ xs) h =
    let same : a + 0 ≡ a = omega arith in
    let here = subst (λ n. (test n ≡ p x) × (f n ≡ g x)) same (h 0 x refl) in
    either f g a x (filter test (range_with_len (a + 1) (length xs))) (filter p xs) (test a) (p x) here.0 here.1
    (kept p g test f (a + 1) xs (λ k y e. subst (λ n. (test n ≡ p y) × (f n ≡ g y)) (let e : a + suc k ≡ a + 1 + k = omega arith in e) (h (suc k) y e)))

-- ---- the units of the last level
is_last : ℕ → SpineUnit → Bool
is_last last x = x.level == last

codes_at : ℕ → List SpineUnit → List (List ℕ)
codes_at last us = map (λ x. x.code) (filter (is_last last) us)

spread : (last : ℕ) (f : ℕ → List SpineUnit) (g : ℕ → List (List ℕ)) → ((k : ℕ) → codes_at last (f k) ≡ g k)
    → (ks : List ℕ) → codes_at last (flat_map f ks) ≡ flat_map g ks
unfolding codes_at
spread last f g h [] = refl
spread last f g h (k ∷ ks) =
    ap (map (λ x. x.code)) (filter-append (is_last last) (f k) (flat_map f ks))
    ∙ map-append (λ (x : SpineUnit). x.code) (filter (is_last last) (f k)) (filter (is_last last) (flat_map f ks))
    ∙ ap (λ xs. xs ++ codes_at last (flat_map f ks)) (h k)
    ∙ ap (λ xs. g k ++ xs) (spread last f g h ks)

own : (last : ℕ) (x : SpineUnit) (us : List SpineUnit) (t : Bool) → is_last last x ≡ t
    → codes_at last (x ∷ us) ≡ cond t (x.code ∷ codes_at last us) (codes_at last us)
unfolding codes_at
own last x us true e = ap (λ b. map (λ (y : SpineUnit). y.code) (cond b (x ∷ filter (is_last last) us) (filter (is_last last) us))) e
own last x us false e = ap (λ b. map (λ (y : SpineUnit). y.code) (cond b (x ∷ filter (is_last last) us) (filter (is_last last) us))) e

at_last : (last : ℕ) (x : SpineUnit) → x.level ≡ last → is_last last x ≡ true
unfolding is_last
at_last last x e = eq-eqb x.level last e

above_last : (last : ℕ) (x : SpineUnit) → x.level < last → is_last last x ≡ false
unfolding is_last
above_last last x l = ne_eqb x.level last (λ e. omega arith)

none_left : (last : ℕ) → codes_at last [] ≡ []
unfolding codes_at
none_left last = refl

below : (last : ℕ) (bs : List Branch) (x : SpineUnit) (stem : List ℕ) (at : ℕ) → x.level + length bs ≡ last → (bs ≡ [] → x.code ≡ stem)
    → codes_at last (x ∷ units_below bs x.level at stem) ≡ leaf_codes bs stem
unfolding leaf_codes
below last [] x stem at level same =
    own last x [] true (at_last last x (omega arith)) ∙ ap (λ xs. x.code ∷ xs) (none_left last) ∙ ap (λ c. c ∷ []) (same refl)
below last (b ∷ bs) x stem at level same =
    let inner : List ℕ → ℕ → List SpineUnit = λ (s : List ℕ) (k : ℕ). child x.level at stem b k ∷ units_below bs (x.level + 1) (child_place at bs k) (child_code stem b k) in
    own last x (units_below (b ∷ bs) x.level at stem) false (above_last last x (omega arith))
    ∙ spread last (inner stem) (λ k. leaf_codes bs (child_code stem b k))
    (λ k. below last bs (child x.level at stem b k) (child_code stem b k) (child_place at bs k) (omega arith) (λ e. refl))
    (range_with_len 0 b.count)

-- ---- the codes by their numbers
numbered : (bs : List Branch) (stem : List ℕ) → leaf_codes bs stem ≡ map (leaf_code bs stem) (range_with_len 0 (leaf_count bs))
unfolding leaf_codes
numbered [] stem = refl
numbered (b ∷ bs) stem =
    let first : 0 * leaf_count bs ≡ 0 = omega arith in
    flat_same (λ k. leaf_codes bs (child_code stem b k)) (λ k. map (leaf_code bs (child_code stem b k)) (range_with_len 0 (leaf_count bs))) 0 b.count
    (λ k lo hi. numbered bs (child_code stem b k))
    ∙ rows_of_width (λ k i. leaf_code bs (child_code stem b k) i) (leaf_count bs) 0 b.count
    ∙ ap (λ p. map (leaf_code (b ∷ bs) stem) (range_with_len p (b.count * leaf_count bs))) first

module _ (code : List ℕ) (whole : List Branch) (deep : 1 ≤ length whole) where
  abbrev sp : Spine
  sp = regular_spine code whole

  last_codes : map (code_of sp) (units_at sp (sp.depth - 1)) ≡ map (leaf_code whole []) (range_with_len 0 (leaf_count whole))
  unfolding codes_at is_last
  last_codes =
      let last : sp.depth - 1 ≡ length whole = omega arith in
      ap (λ l. map (code_of sp) (units_at sp l)) last
      ∙ kept (is_last (length whole)) (λ x. x.code) (is_at sp (length whole)) (code_of sp) 0 sp.units (λ k x at.
      let place : 0 + k ≡ k = omega arith in
      subst (λ n. (is_at sp (length whole) n ≡ is_last (length whole) x) × (code_of sp n ≡ x.code)) (sym place) (
        ap (λ o. elim o as (λ _. ℕ) [ Some y ↦ y.level | None ↦ 0 ] == length whole) at,
        ap (λ o. elim o as (λ _. List ℕ) [ Some y ↦ y.code | None ↦ [] ]) at,
      ))
      ∙ below (length whole) whole (nation code) [] 0 (omega arith) (λ e. let none = ap length e in absurd (omega arith))
      ∙ numbered whole []

  pub count_is : block_count sp ≡ leaf_count whole
  count_is =
      sym (length-map (units_at sp (sp.depth - 1)) (code_of sp))
      ∙ ap length last_codes
      ∙ length-map-range_with_len (leaf_code whole []) 0 (leaf_count whole)

  pub code_is : (i : ℕ) → i < leaf_count whole → block_code sp i ≡ leaf_code whole [] i
  code_is i low =
      let here : i < block_count sp = subst (λ n. i < n) (sym count_is) low in
      sym (get_or-map (code_of sp) (units_at sp (sp.depth - 1)) i 0 [] here)
      ∙ ap (λ xs. get_or xs i []) last_codes
      ∙ get_or-map-range_with_len (leaf_code whole []) 0 (leaf_count whole) i i [] low (omega arith)
