-- Which sets of a family aren't sets of earlier ones, and how many different sets there are.
use Rattle.std.proofs.Common.{◌≡◌, ℕ, suc, ◌+◌, ◌<◌, ◌≤◌, Bool, true, false, not, cond, ◌&&◌, ◌||◌, List, [], ◌∷◌, ◌++◌, length, get_or, map, filter, Bor, All, Contains, Some, None, nat_eq, refl, sym, ap, ◌∙◌, subst, arith, inl, inr}
use Rattle.std.specs.List.{list_any, range_with_len}
use Rattle.std.specs.Option.{option_eq}
use Rattle.std.specs.Str.{bytes_eq}
use Rattle.std.proofs.lemmas.Bool.{and_from, and_parts, cases_Bool, false≢true, false_from_ne_true}
use Rattle.std.proofs.lemmas.List.{length-append}
use Rattle.std.proofs.lemmas.List.Folds.{list_any-append}
use Rattle.std.proofs.lemmas.List.FromFn.{length-range_with_len, length-map-range_with_len, get_or-map-range_with_len}
use Rattle.std.proofs.lemmas.List.Sums.{length-filter, count_by-le-length}
use Rattle.std.proofs.lemmas.List.Elements.{filter_agree, All-head, All-tail}
use Rattle.tda_model.specs.Groups.{each_once}
use Rattle.tda_model.proofs.Sums.{Each, Ascends, each_any, each_filter, range_ascends, filter_ascends}
use Rattle.std.proofs.lemmas.Slice.Eq.{bytes_eq-Decides}
use Rattle.tda_sets.specs.Family.{Names, IsFamily, name_at, is_in, set_of, firsts, sets_of}
use Rattle.tda_sets.specs.Nested.{all_sets, is_kept}
use Rattle.tda_sets.specs.Counted.{is_shared, is_fresh, fresh_count}
use Rattle.tda_sets.proofs.Ranges.{filter-filter, filter_range_agree, map_range_agree}
use Rattle.tda_sets.proofs.Families.{same_name, name_is_same, is_in_below}
use Rattle.tda_sets.proofs.Nesting.{in_set, set_tells, set_source, Contains-sets_of, kept_tells, kept_from}
use Rattle.tda_sets.proofs.AllNested.{all_sets_push, lent}
use Rattle.tda_sets.proofs.Once.{has, has_tells, has_from, each_once-append, AreDistinct, each_once-distinct}

-- ---- a set of two families

module _ (names other : Names) (f : IsFamily names) (g : IsFamily other) (same_length : length names ≡ length other) (r : ℕ) (least : is_in names r r ≡ true) where
  one_set : is_in other r r ≡ true → is_kept names other r ≡ true → is_kept other names r ≡ true → set_of other r ≡ set_of names r
  one_set there kept back =
      ap (λ n. filter (is_in other r) (range_with_len 0 n)) (sym same_length)
      ∙ filter_range_agree (is_in other r) (is_in names r) 0 (length names) (λ i low high. by i (is_in other r i) (is_in names r i) refl refl)
    where
      by : (i : ℕ) (a b : Bool) → is_in other r i ≡ a → is_in names r i ≡ b → a ≡ b
      by i true true e h = refl
      by i false false e h = refl
      by i true false e h =
          let same : name_at names i ≡ Some r = sym (kept_tells other names r back i e) ∙ same_name (name_at names r) (Some r) least in
          absurd (false≢true (sym h ∙ name_is_same (name_at names i) (Some r) same))
      by i false true e h =
          let same : name_at other i ≡ Some r = sym (kept_tells names other r kept i h) ∙ same_name (name_at other r) (Some r) there in
          absurd (false≢true (sym e ∙ name_is_same (name_at other i) (Some r) same))

  shared_has : is_shared names other r ≡ true → has (sets_of other) (set_of names r) ≡ true
  shared_has shared =
      let one = and_parts (is_in names r r && is_in other r r && is_kept names other r) (is_kept other names r) shared in
      let two = and_parts (is_in names r r && is_in other r r) (is_kept names other r) one.0 in
      let three = and_parts (is_in names r r) (is_in other r r) two.0 in
      has_from (sets_of other) (set_of names r) (subst (λ zs. Contains (sets_of other) zs) (one_set three.1 two.1 one.1) (Contains-sets_of other r three.1))

  has_shared : has (sets_of other) (set_of names r) ≡ true → is_shared names other r ≡ true
  has_shared found =
      let s = set_source other (set_of names r) (has_tells (sets_of other) (set_of names r) found) in
      let in_other : is_in other s.0 r ≡ true = set_tells other s.0 r (subst (λ zs. Contains zs r) (sym s.2) (in_set names r r least)) in
      let in_names : is_in names r s.0 ≡ true = set_tells names r s.0 (subst (λ zs. Contains zs s.0) s.2 (in_set other s.0 s.0 s.1)) in
      let same : s.0 ≡ r = omega (arith, g.least s.0 r in_other, f.least r s.0 in_names) in
      let sets : set_of other r ≡ set_of names r = ap (set_of other) (sym same) ∙ s.2 in
      let there : is_in other r r ≡ true = subst (λ x. is_in other x r ≡ true) same in_other in
      let kept : is_kept names other r ≡ true = kept_from names other r (λ j within.
      same_name (name_at other r) (Some r) there ∙ sym (same_name (name_at other j) (Some r) (set_tells other r j (subst (λ zs. Contains zs j) (sym sets) (in_set names r j within))))) in
      let back : is_kept other names r ≡ true = kept_from other names r (λ j within.
      same_name (name_at names r) (Some r) least ∙ sym (same_name (name_at names j) (Some r) (set_tells names r j (subst (λ zs. Contains zs j) sets (in_set other r j within))))) in
      and_from (is_in names r r && is_in other r r && is_kept names other r) (is_kept other names r)
      (and_from (is_in names r r && is_in other r r) (is_kept names other r) (and_from (is_in names r r) (is_in other r r) least there) kept) back

  pub has_is_shared : has (sets_of other) (set_of names r) ≡ is_shared names other r
  has_is_shared = by (has (sets_of other) (set_of names r)) (is_shared names other r) refl refl
    where
      by : (a b : Bool) → has (sets_of other) (set_of names r) ≡ a → is_shared names other r ≡ b → a ≡ b
      by true true e h = refl
      by false false e h = refl
      by true false e h = absurd (false≢true (sym h ∙ has_shared e))
      by false true e h = absurd (false≢true (sym e ∙ shared_has h))

-- ---- a set of earlier families

module _ (names : Names) (f : IsFamily names) (r : ℕ) (least : is_in names r r ≡ true) where
  has_any : (earlier : List Names) → Each (λ g. IsFamily g × (length g ≡ length names)) earlier → has (all_sets earlier) (set_of names r) ≡ list_any (λ other. is_shared names other r) earlier
  has_any [] h = refl
  has_any (g ∷ rest) h =
      list_any-append (λ x. bytes_eq x (set_of names r)) (sets_of g) (all_sets rest)
      ∙ ap (λ b. b || has (all_sets rest) (set_of names r)) (has_is_shared names g f h.0.0 (sym h.0.1) r least)
      ∙ ap (λ b. is_shared names g r || b) (has_any rest h.1)

pub length-filter-map : {X Y : Type 0} (p : Y → Bool) (g : X → Y) (xs : List X) → length (filter p (map g xs)) ≡ length (filter (λ x. p (g x)) xs)
length-filter-map p g [] = refl
length-filter-map p g (x ∷ xs) = by (p (g x)) (length-filter-map p g xs)
  where
    by : (b : Bool) → length (filter p (map g xs)) ≡ length (filter (λ y. p (g y)) xs)
        → length (cond b (g x ∷ filter p (map g xs)) (filter p (map g xs))) ≡ length (cond b (x ∷ filter (λ y. p (g y)) xs) (filter (λ y. p (g y)) xs))
    by true e = ap (λ n. suc n) e
    by false e = e

-- ---- the sets of one family are different

module _ (names : Names) (f : IsFamily names) where
  sets_differ : (r s : ℕ) → is_in names r r ≡ true → r < s → bytes_eq (set_of names r) (set_of names s) ≡ false
  sets_differ r s least less = false_from_ne_true (bytes_eq (set_of names r) (set_of names s)) (λ e.
      let same : set_of names r ≡ set_of names s = (bytes_eq-Decides (set_of names r) (set_of names s)).0 e in
      let within : is_in names s r ≡ true = set_tells names s r (subst (λ zs. Contains zs r) same (in_set names r r least)) in
      let below = f.least s r within in
      omega (arith, below, less))

  distinct_from : (rs : List ℕ) → Ascends rs → Each (λ r. is_in names r r ≡ true) rs → AreDistinct (map (set_of names) rs)
  distinct_from [] up least = tt
  distinct_from (r ∷ rs) up least = (apart rs up.0, distinct_from rs up.1 least.1)
    where
      apart : (ss : List ℕ) → Each (λ s. r < s) ss → Each (λ y. bytes_eq (set_of names r) y ≡ false) (map (set_of names) ss)
      apart [] h = tt
      apart (s ∷ ss) h = (sets_differ r s least.0 h.0, apart ss h.1)

  pub sets_distinct : AreDistinct (sets_of names)
  sets_distinct =
      let p : ℕ → Bool = λ i. is_in names i i in
      let all = range_with_len 0 (length names) in
      distinct_from (firsts names) (filter_ascends p all (range_ascends 0 (length names))) (each_filter (λ i. p i ≡ true) p all (each_any (λ i. p i ≡ true → p i ≡ true) all (λ i e. e)))

  -- what a family adds to earlier ones
  module _ (earlier : List Names) (h : Each (λ g. IsFamily g × (length g ≡ length names)) earlier) where
    fresh_sets : length (filter (λ y. not (has (all_sets earlier) y)) (sets_of names)) ≡ fresh_count earlier names
    fresh_sets =
        let all = range_with_len 0 (length names) in
        length-filter-map (λ y. not (has (all_sets earlier) y)) (set_of names) (firsts names)
        ∙ ap length (filter-filter (λ r. not (has (all_sets earlier) (set_of names r))) (λ i. is_in names i i) all
        ∙ filter_agree (λ r. is_in names r r && not (has (all_sets earlier) (set_of names r))) (is_fresh earlier names) (λ r. by r (is_in names r r) refl) all)
      where
        by : (r : ℕ) (b : Bool) → is_in names r r ≡ b → (is_in names r r && not (has (all_sets earlier) (set_of names r))) ≡ is_fresh earlier names r
        by r true e =
            ap (λ b. b && not (has (all_sets earlier) (set_of names r))) e ∙ ap not (has_any names f r e earlier h)
            ∙ sym (ap (λ b. b && not (list_any (λ other. is_shared names other r) earlier)) e)
        by r false e = ap (λ b. b && not (has (all_sets earlier) (set_of names r))) e ∙ sym (ap (λ b. b && not (list_any (λ other. is_shared names other r) earlier)) e)

    pub one_family_more : length (each_once (all_sets (earlier ++ names ∷ []))) ≡ length (each_once (all_sets earlier)) + fresh_count earlier names
    one_family_more =
        let old = all_sets earlier in
        let new = sets_of names in
        ap (λ zs. length (each_once zs)) (all_sets_push earlier names)
        ∙ ap length (each_once-append old new ∙ ap (λ zs. each_once old ++ filter (λ y. not (has old y)) zs) (each_once-distinct new sets_distinct))
        ∙ length-append (each_once old) (filter (λ y. not (has old y)) new)
        ∙ ap (λ n. length (each_once old) + n) fresh_sets

-- ---- the loops that count

module _ (names : Names) (earlier : List Names) where
  fresh_more : (g : Names) (r : ℕ) → (is_fresh earlier names r && not (is_shared names g r)) ≡ is_fresh (earlier ++ g ∷ []) names r
  fresh_more g r =
      by (is_in names r r) (list_any (λ other. is_shared names other r) earlier) (is_shared names g r)
      ∙ ap (λ b. is_in names r r && not b) (sym (list_any-append (λ other. is_shared names other r) earlier (g ∷ [])))
    where
      by : (a e s : Bool) → ((a && not e) && not s) ≡ (a && not (e || (s || false)))
      by true true s = refl
      by true false true = refl
      by true false false = refl
      by false e s = refl

  -- marks of the sets that aren't sets of earlier families
  abbrev pub fresh_marks : List Bool
  fresh_marks = map (is_fresh earlier names) (range_with_len 0 (length names))

  pub length-fresh_marks : length fresh_marks ≡ length names
  length-fresh_marks = length-map-range_with_len (is_fresh earlier names) 0 (length names)

  pub fresh_marks_more : (g : Names) (marks after : List Bool) → marks ≡ fresh_marks → after ≡ map (λ r. get_or marks r false && not (is_shared names g r)) (range_with_len 0 (length names))
      → after ≡ map (is_fresh (earlier ++ g ∷ []) names) (range_with_len 0 (length names))
  fresh_marks_more g marks after is left =
      left ∙ map_range_agree (λ r. get_or marks r false && not (is_shared names g r)) (is_fresh (earlier ++ g ∷ []) names) 0 (length names)
      (λ r low high.
      ap (λ ms. get_or ms r false && not (is_shared names g r)) is
      ∙ ap (λ b. b && not (is_shared names g r)) (get_or-map-range_with_len (is_fresh earlier names) 0 (length names) r r false (omega arith) (omega arith))
      ∙ fresh_more g r)

  pub count_is : (marks : List Bool) → marks ≡ fresh_marks → length (filter (λ m. m) marks) ≡ fresh_count earlier names
  count_is marks is = ap (λ ms. length (filter (λ m. m) ms)) is ∙ length-filter-map (λ m. m) (is_fresh earlier names) (range_with_len 0 (length names))

  pub fresh_count_few : fresh_count earlier names ≤ length names
  fresh_count_few =
      omega (arith, length-filter (is_fresh earlier names) (range_with_len 0 (length names)), count_by-le-length (is_fresh earlier names) (range_with_len 0 (length names)), length-range_with_len 0 (length names))

-- families of one length
pub lent_families : (families : List (Bor Names)) (n : ℕ) → All (λ f. IsFamily f.now) families → All (λ f. n ≡ length f.now) families → Each (λ g. IsFamily g × (length g ≡ n)) (lent families)
lent_families [] n each same = tt
lent_families (f ∷ families) n each same = (
  (All-head (λ g. IsFamily g.now) f families each, sym (All-head (λ g. n ≡ length g.now) f families same)),
  lent_families families n (All-tail (λ g. IsFamily g.now) f families each) (All-tail (λ g. n ≡ length g.now) f families same),
)
