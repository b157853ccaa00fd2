-- A sound spine within the limits, written row by row, is accepted, and gives the spine.
use Rattle.std.proofs.Common.{◌≡◌, ◌≢◌, ℕ, zero, suc, ◌+◌, ◌<◌, ◌≤◌, ◌⊎◌, inl, inr, Bool, true, false, ◌&&◌, not, nat_lt, cond, List, [], ◌∷◌, ◌++◌, length, get_or, take, map, Option, Some, None, Ok, refl, sym, ap, ◌∙◌, arith, position, unwrap_or, append_assoc}
use Rattle.std.specs.Prelude.{◌==◌, slice_get, slice_index_or, option_and_then, is_none, find}
use Rattle.std.specs.List.{filter, position_or_len, range_with_len}
use Rattle.std.specs.Str.{bytes_eq}
use Rattle.std.specs.Cmp.Lexicographic.{bytes_decides}
use Rattle.std.proofs.lemmas.Bool.{cases_Bool, cases_lt, eq-eqb, eqb-true, lt-ltb}
use Rattle.std.proofs.lemmas.Bool.Decides.{nat_tests}
use Rattle.std.proofs.lemmas.List.{append-nil, length-map, length-take-le, get_or-take, same_lists}
use Rattle.std.proofs.lemmas.List.Elements.{All-from_get_or}
use Rattle.std.proofs.lemmas.List.Folds.{list_any_none}
use Rattle.std.proofs.lemmas.List.FromFn.{length-map-range_with_len, get_or-map-range_with_len}
use Rattle.std.proofs.lemmas.List.Sums.{position_or_len_is}
use Rattle.std.proofs.lemmas.Option.{slice_get-get_or}
use Rattle.tda_io.specs.Csv.{Row, first_fault, judged, or_else}
use Rattle.tda_io.specs.Texts.{name_test}
use Rattle.tda_model.specs.Schema.{Schema}
use Rattle.tda_model.specs.Spine.{Spine, SpineUnit, IsUnit, HasParent, level_of, parent_of, code_of, nation_of, units_at, is_at, is_child, children_of}
use Rattle.tda_model.specs.Sizes.{fit_size}
use Rattle.tda_spine.specs.Rows.{code_in, level_in, parent_in, is_empty, place_of, parent_place, parent_level, level_named, fits_parent, unit_of, spine_in, is_bad_code, is_repeated, has_unknown_parent, has_wrong_level}
use Rattle.tda_spine.specs.Judged.{format, row_fault, has_no_nation, is_inner, is_childless, first_childless, has_too_many, is_too_large, fits_of, first_large_fit, spine_fault}
use Rattle.tda_spine.specs.Sound.{IsSound}
use Rattle.tda_demo.specs.Names.{level_name}
use Rattle.tda_demo.specs.SpineText.{parent_code, unit_row, unit_rows, header}

-- ---- lists

different : (xs ys : List ℕ) → (xs ≡ ys → ⊥) → bytes_eq xs ys ≡ false
different xs ys other = elim (cases_Bool (bytes_eq xs ys)) [ inl e ↦ absurd (other ((bytes_decides xs ys).0 e)) | inr e ↦ e ]

same : (xs ys : List ℕ) → xs ≡ ys → bytes_eq xs ys ≡ true
same xs ys e = (bytes_decides xs ys).1 e

-- rows of which none has a fault beside the rows before it
pub no_first : {F : Type 0} (judge : List Row → Row → Option F) (rows earlier : List Row)
    → ((k : ℕ) → k < length rows → judge (earlier ++ take k rows) (get_or rows k []) ≡ None) → first_fault judge earlier rows ≡ None
no_first judge [] earlier fine = refl
no_first judge (row ∷ rows) earlier fine =
    let here : judge earlier row ≡ None = ap (λ es. judge es row) (sym (append-nil earlier)) ∙ fine 0 (omega arith) in
    ap (λ o. or_else o (first_fault judge (earlier ++ row ∷ []) rows)) here
    ∙ no_first judge rows (earlier ++ row ∷ []) (λ k below.
    ap (λ es. judge es (get_or rows k [])) (append_assoc earlier (row ∷ []) (take k rows)) ∙ fine (suc k) (omega arith))

pub position_first : {X : Type 0} (p : X → Bool) (xs : List X) (k : ℕ) (d : X) → k < length xs → p (get_or xs k d) ≡ true
    → ((i : ℕ) → i < k → p (get_or xs i d) ≡ false) → position p xs ≡ Some k
position_first p xs k d below here before =
    let at = position_or_len_is p xs k d (omega arith) before (λ l. here) in
    let inside : nat_lt (position_or_len p xs) (length xs) ≡ true = lt-ltb (position_or_len p xs) (length xs) (omega (arith, at, below)) in
    ap (λ b. cond b (Some (position_or_len p xs)) None) inside ∙ ap Some at

pub none_passes : {X : Type 0} (p : X → Bool) (xs : List X) → ((x : X) → p x ≡ false) → find p xs ≡ None
none_passes p [] h = refl
none_passes p (x ∷ xs) h = ap (λ b. cond b (Some x) (find p xs)) (h x) ∙ none_passes p xs h

-- of a range, exactly one number passes
one_passes : (p : ℕ → Bool) (a n c : ℕ) → a ≤ c → c < a + n → p c ≡ true → ((i : ℕ) → a ≤ i → i < a + n → i ≢ c → p i ≡ false) → filter p (range_with_len a n) ≡ c ∷ []
one_passes p a zero c low high here others = absurd (omega arith)
one_passes p a (suc n) c low high here others = elim (cases_lt a c) [
  | inl l ↦
      ap (λ b. cond b (a ∷ filter p (range_with_len (a + 1) n)) (filter p (range_with_len (a + 1) n))) (others a (omega arith) (omega arith) (λ e. omega arith))
      ∙ one_passes p (a + 1) n c (omega arith) (omega arith) here (λ i lo hi ne. others i (omega arith) (omega arith) ne)
  | inr ge ↦
      let e : c ≡ a = omega arith in
      ap (λ b. cond b (a ∷ filter p (range_with_len (a + 1) n)) (filter p (range_with_len (a + 1) n))) (ap p (sym e) ∙ here)
      ∙ ap (λ xs. a ∷ xs) (none_in p (a + 1) n (λ i lo hi. others i (omega arith) (omega arith) (λ f. omega arith)))
      ∙ ap (λ k. k ∷ []) (sym e)
]
  where
    none_in : (q : ℕ → Bool) (b m : ℕ) → ((i : ℕ) → b ≤ i → i < b + m → q i ≡ false) → filter q (range_with_len b m) ≡ []
    none_in q b zero h = refl
    none_in q b (suc m) h =
        ap (λ t. cond t (b ∷ filter q (range_with_len (b + 1) m)) (filter q (range_with_len (b + 1) m))) (h b (omega arith) (omega arith))
        ∙ none_in q (b + 1) m (λ i lo hi. h i (omega arith) (omega arith))

-- each unit within [0, n)
none_in_range : (p : ℕ → Bool) (a n : ℕ) → ((i : ℕ) → a ≤ i → i < a + n → p i ≡ false) → find p (range_with_len a n) ≡ None
none_in_range p a zero h = refl
none_in_range p a (suc n) h =
    ap (λ t. cond t (Some a) (find p (range_with_len (a + 1) n))) (h a (omega arith) (omega arith))
    ∙ none_in_range p (a + 1) n (λ i lo hi. h i (omega arith) (omega arith))

-- a spine that is within the limits of a schema whose levels have names of their own
pub record IsWritable (s : Schema) (sp : Spine) : Type 0 where
  pub sound : IsSound sp
  pub depth : sp.depth ≡ length s.levels
  pub names : (l : ℕ) → l < sp.depth → level_named s (level_name s l) ≡ Some l
  pub few : has_too_many s sp ≡ false
  pub fits : (fit : Option ℕ) → is_too_large (fit_size s sp fit) ≡ false

abbrev no_unit : SpineUnit
no_unit = record { code = []; level = 0; parent = None }

module _ (s : Schema) (sp : Spine) (w : IsWritable s sp) where
  abbrev rows : List Row
  rows = unit_rows s sp

  abbrev count : ℕ
  count = length sp.units

  long : length rows ≡ count
  long = length-map-range_with_len (unit_row s sp) 0 (length sp.units)

  row_at : (u : ℕ) → IsUnit sp u → get_or rows u [] ≡ unit_row s sp u
  row_at u here = get_or-map-range_with_len (unit_row s sp) 0 (length sp.units) u u [] here (omega arith)

  -- ---- places
  pub place_back : (u : ℕ) → IsUnit sp u → place_of rows (code_of sp u) ≡ Some u
  place_back u here =
      position_first (λ r. bytes_eq (code_of sp u) (code_in r)) rows u [] (omega (arith, long, here))
      (same _ _ (sym (ap code_in (row_at u here))))
      (λ i below. different _ _ (λ e. w.sound.distinct i u below here (sym (e ∙ ap code_in (row_at i (omega (arith, below, here)))))))

  not_empty : (u : ℕ) → IsUnit sp u → is_empty (code_of sp u) ≡ false
  not_empty u here = by (code_of sp u) (w.sound.coded u here)
    where
      by : (code : List ℕ) → name_test 16 code ≡ true → is_empty code ≡ false
      by [] e = cc
      by (b ∷ bs) e = refl

  -- the unit's parent
  abbrev IsTop : ℕ → Type 0
  IsTop u = (level_of sp u ≡ 0) × (parent_of sp u ≡ None)

  placed : (u : ℕ) → IsUnit sp u → IsTop u ⊎ ((p : ℕ) × HasParent sp u p)
  placed u here = elim (cases_lt 0 (level_of sp u)) [
    | inl l ↦ inr (w.sound.tree.parent u here (omega arith))
    | inr z ↦
        let top : level_of sp u ≡ 0 = omega arith in
        let alone : u ≡ nation_of sp = w.sound.tree.root_alone u here top in
        inl (top, ap (parent_of sp) alone ∙ w.sound.tree.root_parent)
  ]

  code_named : (u : ℕ) (o : Option ℕ) → parent_of sp u ≡ o → parent_code sp u ≡ elim o as (λ _. List ℕ) [ Some p ↦ code_of sp p | None ↦ [] ]
  code_named u o e = ap (λ x. elim x as (λ _. List ℕ) [ Some p ↦ code_of sp p | None ↦ [] ]) e

  -- ---- what a row gives
  level_back : (u : ℕ) → IsUnit sp u → level_named s (level_in (unit_row s sp u)) ≡ Some (level_of sp u)
  level_back u here = w.names (level_of sp u) (w.sound.tree.within u here)

  parent_back : (u : ℕ) → IsUnit sp u → parent_place rows (unit_row s sp u) ≡ parent_of sp u
  parent_back u here = elim (placed u here) [
    | inl top ↦ ap (λ c. cond (is_empty c) None (place_of rows c)) (code_named u None top.1) ∙ sym top.1
    | inr below ↦
        let named : parent_of sp u ≡ Some below.0 = below.1.named in
        let there = below.1.here in
        ap (λ c. cond (is_empty c) None (place_of rows c)) (code_named u (Some below.0) named)
        ∙ ap (λ b. cond b None (place_of rows (code_of sp below.0))) (not_empty below.0 there)
        ∙ place_back below.0 there ∙ sym named
  ]

  above_back : (u p : ℕ) → IsUnit sp u → HasParent sp u p → parent_level s rows (unit_row s sp u) ≡ Some (level_of sp p)
  above_back u p here has =
      let there = has.here in
      let place : parent_place rows (unit_row s sp u) ≡ Some p = parent_back u here ∙ has.named in
      ap (option_and_then (λ q. level_named s (level_in (slice_index_or rows q [])))) place ∙ (ap (λ r. level_named s (level_in r)) (row_at p there) ∙ level_back p there)

  -- ---- no row has a fault
  four : (n : ℕ) (row : Row) (earlier : List Row) → is_bad_code row ≡ false → is_repeated earlier row ≡ false → has_unknown_parent rows row ≡ false → has_wrong_level s rows row ≡ false
      → row_fault s rows earlier row ≡ None
  four n row earlier a b c d = rw (a, b, c, d) refl

  known : (u : ℕ) → IsUnit sp u → has_unknown_parent rows (unit_row s sp u) ≡ false
  known u here = elim (placed u here) [
    | inl top ↦ ap (λ c. not (is_empty c) && is_none (place_of rows c)) (code_named u None top.1)
    | inr below ↦
        let named : parent_of sp u ≡ Some below.0 = below.1.named in
        let there = below.1.here in
        ap (λ c. not (is_empty c) && is_none (place_of rows c)) (code_named u (Some below.0) named)
        ∙ ap (λ b. not b && is_none (place_of rows (code_of sp below.0))) (not_empty below.0 there)
        ∙ ap is_none (place_back below.0 there)
  ]

  right_level : (u : ℕ) → IsUnit sp u → has_wrong_level s rows (unit_row s sp u) ≡ false
  right_level u here = elim (placed u here) [
    | inl top ↦
        let level : level_named s (level_in (unit_row s sp u)) ≡ Some 0 = level_back u here ∙ ap Some top.0 in
        let no_parent : is_empty (parent_in (unit_row s sp u)) ≡ true = ap is_empty (code_named u None top.1) in
        ap (λ l. not (fits_parent l (is_empty (parent_in (unit_row s sp u))) (parent_level s rows (unit_row s sp u)))) level ∙ ap not no_parent
    | inr below ↦
        let p = below.0 in
        let has = below.1 in
        let there = has.here in
        let up : level_of sp u ≡ suc (level_of sp p) = omega (arith, has.above) in
        let level : level_named s (level_in (unit_row s sp u)) ≡ Some (suc (level_of sp p)) = level_back u here ∙ ap Some up in
        let named : parent_of sp u ≡ Some p = has.named in
        let parent : is_empty (parent_in (unit_row s sp u)) ≡ false = ap is_empty (code_named u (Some p) named) ∙ not_empty p there in
        let above = above_back u p here has in
        ap (λ l. not (fits_parent l (is_empty (parent_in (unit_row s sp u))) (parent_level s rows (unit_row s sp u)))) level
        ∙ ap (λ b. not (fits_parent (Some (suc (level_of sp p))) b (parent_level s rows (unit_row s sp u)))) parent
        ∙ ap (λ o. not (fits_parent (Some (suc (level_of sp p))) false o)) above
        ∙ ap not (eq-eqb (level_of sp p) (level_of sp p) refl)
  ]

  is_new : (u : ℕ) → IsUnit sp u → is_repeated (take u rows) (unit_row s sp u) ≡ false
  is_new u here =
      list_any_none (λ e. bytes_eq (code_of sp u) (code_in e)) (take u rows)
      (All-from_get_or (λ e. bytes_eq (code_of sp u) (code_in e) ≡ false) (take u rows) [] (λ i l.
      let before : i < u = omega (arith, l, length-take-le u rows (omega (arith, long, here))) in
      let earlier : IsUnit sp i = omega (arith, before, here) in
      different _ _ (λ e. w.sound.distinct i u before here (sym (e ∙ ap code_in (get_or-take u rows i [] before ∙ row_at i earlier))))))

  fine : first_fault (row_fault s rows) [] rows ≡ None
  fine = no_first (row_fault s rows) rows [] (λ k below.
      let here : IsUnit sp k = omega (arith, below, long) in
      ap (row_fault s rows (take k rows)) (row_at k here)
      ∙ four k (unit_row s sp k) (take k rows) (ap not (w.sound.coded k here)) (is_new k here) (known k here) (right_level k here))

  -- ---- the value
  unit_back : (u : ℕ) (d : SpineUnit) → IsUnit sp u → unit_of s rows (unit_row s sp u) ≡ get_or sp.units u d
  unit_back u d here =
      let x = get_or sp.units u d in
      let at : slice_get sp.units u ≡ Some x = slice_get-get_or sp.units u d here in
      let code : code_of sp u ≡ x.code = ap (λ o. elim o as (λ _. List ℕ) [ Some y ↦ y.code | None ↦ [] ]) at in
      let level : level_of sp u ≡ x.level = ap (λ o. elim o as (λ _. ℕ) [ Some y ↦ y.level | None ↦ 0 ]) at in
      let parent : parent_of sp u ≡ x.parent = ap (λ o. elim o as (λ _. Option ℕ) [ Some y ↦ y.parent | None ↦ None ]) at in
      three x (code_of sp u) (unwrap_or (level_named s (level_in (unit_row s sp u))) 0) (parent_place rows (unit_row s sp u))
      code (ap (λ o. unwrap_or o 0) (level_back u here) ∙ level) (parent_back u here ∙ parent)
    where
      three : (x : SpineUnit) (c : List ℕ) (l : ℕ) (p : Option ℕ) → c ≡ x.code → l ≡ x.level → p ≡ x.parent
          → (let y : SpineUnit = record { code = c; level = l; parent = p } in y) ≡ x
      three x c l p ec el ep = rw (ec, el, ep) refl

  value_is : spine_in s rows ≡ sp
  value_is =
      let units : map (unit_of s rows) rows ≡ sp.units =
      same_lists (map (unit_of s rows) rows) sp.units (length-map rows (unit_of s rows) ∙ long) (λ k d l.
      let here : IsUnit sp k = omega (arith, l, length-map rows (unit_of s rows), long) in
      get_at k d (omega (arith, here, long)) ∙ ap (unit_of s rows) (row_at k here) ∙ unit_back k d here) in
      two (length s.levels) (map (unit_of s rows) rows) (sym w.depth) units
    where
      get_at : (k : ℕ) (d : SpineUnit) → k < length rows → get_or (map (unit_of s rows) rows) k d ≡ unit_of s rows (get_or rows k [])
      get_at k d l = map_at (unit_of s rows) rows k [] d l
        where
          map_at : {X Y : Type 0} (f : X → Y) (xs : List X) (i : ℕ) (a : X) (b : Y) → i < length xs → get_or (map f xs) i b ≡ f (get_or xs i a)
          map_at f [] i a b l = absurd (omega arith)
          map_at f (x ∷ xs) zero a b l = refl
          map_at f (x ∷ xs) (suc i) a b l = map_at f xs i a b (omega arith)

      two : (n : ℕ) (us : List SpineUnit) → n ≡ sp.depth → us ≡ sp.units → (let y : Spine = record { depth = n; units = us } in y) ≡ sp
      two n us en eu = rw (en, eu) refl

  -- ---- the spine as a whole
  one_nation : has_no_nation sp ≡ false
  one_nation =
      let root = w.sound.tree.root in
      let level = w.sound.tree.root_level in
      let only : units_at sp 0 ≡ nation_of sp ∷ [] =
      one_passes (is_at sp 0) 0 (length sp.units) (nation_of sp) (omega arith) (omega (arith, root)) (eq-eqb (level_of sp (nation_of sp)) 0 level)
      (λ i lo hi ne. elim (cases_Bool (is_at sp 0 i)) [
        | inl e ↦ absurd (ne (w.sound.tree.root_alone i (omega (arith, hi)) (eqb-true _ _ e)))
        | inr e ↦ e
      ]) in
      ap (λ xs. not (length xs == 1)) only

  with_children : first_childless sp ≡ None
  with_children = none_in_range (is_childless sp) 0 (length sp.units) (λ u lo hi. elim (cases_Bool (is_inner sp u)) [
    | inl inner ↦
        let low : level_of sp u + 1 < sp.depth = grind (arith, nat_tests) in
        let child = w.sound.tree.child u (omega (arith, hi)) low in
        let there = child.1 in
        let has = child.2 in
        let named : parent_of sp child.0 ≡ Some u = has.named in
        let is : is_child sp u child.0 ≡ true = ap (λ o. elim o as (λ _. Bool) [ Some q ↦ u == q | None ↦ false ]) named ∙ eq-eqb u u refl in
        ap (λ b. b && (length (children_of sp u) == 0)) inner
        ∙ some_left (is_child sp u) 0 (length sp.units) child.0 (omega arith) (omega (arith, there)) is
    | inr e ↦ ap (λ b. b && (length (children_of sp u) == 0)) e
  ])
    where
      some_left : (p : ℕ → Bool) (a n c : ℕ) → a ≤ c → c < a + n → p c ≡ true → (length (filter p (range_with_len a n)) == 0) ≡ false
      some_left p a zero c lo hi is = absurd (omega arith)
      some_left p a (suc n) c lo hi is = elim (cases_Bool (p a)) [
        | inl e ↦ ap (λ b. length (cond b (a ∷ filter p (range_with_len (a + 1) n)) (filter p (range_with_len (a + 1) n))) == 0) e ∙ grind (arith, nat_tests)
        | inr e ↦
            ap (λ b. length (cond b (a ∷ filter p (range_with_len (a + 1) n)) (filter p (range_with_len (a + 1) n))) == 0) e
            ∙ elim (cases_lt a c) [
              | inl l ↦ some_left p (a + 1) n c (omega arith) (omega arith) is
              | inr ge ↦ let at : c ≡ a = omega arith in let both = sym (ap p at) ∙ is in absurd cc
            ]
      ]

  small : first_large_fit s sp ≡ None
  small = none_passes (λ fit. is_too_large (fit_size s sp fit)) (fits_of sp) w.fits

  whole : spine_fault s sp ≡ None
  whole = rw (one_nation, with_children, w.few, small) refl

  -- the rows are accepted, and give the spine
  pub judged_back : judged (format s) (header ∷ unit_rows s sp) ≡ Ok sp
  judged_back =
      let file : spine_fault s (spine_in s rows) ≡ None = ap (spine_fault s) value_is ∙ whole in
      rw (fine, file) (ap Ok value_is)
