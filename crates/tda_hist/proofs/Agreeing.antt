-- The first of the faults that lists have in order, and what follows where there is none.
use Rattle.std.proofs.Common.{◌≡◌, ℕ, zero, suc, ◌+◌, ◌-◌, ◌<◌, ◌≤◌, Bool, true, false, cond, ◌&&◌, ◌==◌, nat_lt, List, [], ◌∷◌, ◌++◌, length, get_or, drop, map, slice_get, Some, None, refl, sym, ap, ◌∙◌, inl, inr, arith, eq-eqb, ne_eqb}
use Rattle.std.specs.List.{flat_map, range_with_len, find}
use Rattle.std.specs.Option.{option_map}
use Rattle.std.proofs.lemmas.Bool.{cases_lt, lt-ltb, le-ltb}
use Rattle.std.proofs.lemmas.List.{drop_more, drop_all, get_or-map, get_or_default}
use Rattle.std.proofs.lemmas.List.FromFn.{length-range_with_len, get_or-range_with_len}
use Rattle.std.proofs.lemmas.List.Elements.{recursion_from_All}
use Rattle.tda_model.specs.Schema.{Schema}
use Rattle.tda_model.specs.Groups.{kind_count}
use Rattle.tda_model.specs.Bounds.{low, needed}
use Rattle.tda_model.specs.Spine.{Spine, level_of, is_at, blocks_of, units_at, unit_numbers, nation_of, IsUnit, IsTree}
use Rattle.tda_model.specs.Tables.{Tables, kind_sum, persons_in}
use Rattle.tda_model.proofs.Sums.{Each, sum_le, each_range, range_each, filter_each}
use Rattle.tda_model.proofs.Tree.{each_under}
use Rattle.tda_model.proofs.Attain.{kinds_add, persons_by_kind}
use Rattle.tda_invar.specs.KindTable.{NumberTable, number_at}
use Rattle.tda_invar.specs.Known.{known, is_short, short_of, join_fault}
use Rattle.tda_invar.proofs.StatePlaces.{total_at}
use Rattle.tda_invar.proofs.UnitLemmas.{units_within}
use Rattle.tda_hist.specs.declared.fault.HistFault.TheVariants.{NoFacility, Short}
use Rattle.tda_hist.specs.TrueTable.{state_persons, BlocksAddUp}
use Rattle.tda_hist.specs.Agreement as agreement
use Rattle.tda_hist.specs.Agreement.{found, has_no_facility, faults_at, block_faults, faults, agree_fault}

-- the first element of parts that are put together
first_of : {A : Type 0} (xs ys : List A) → slice_get xs 0 ≡ None → slice_get (xs ++ ys) 0 ≡ slice_get ys 0
first_of [] ys none = refl
first_of (x ∷ xs) ys none = cc

first_here : {A : Type 0} (xs ys : List A) (x : A) → slice_get xs 0 ≡ Some x → slice_get (xs ++ ys) 0 ≡ Some x
first_here [] ys x some = cc
first_here (y ∷ xs) ys x some = some

module _ {X A : Type 0} (f : X → List A) (xs : List X) where
  -- the parts before this place are empty
  abbrev pub EmptyBefore : ℕ → Type 0
  EmptyBefore k = slice_get (flat_map f (drop k xs)) 0 ≡ slice_get (flat_map f xs) 0

  module _ (k : ℕ) (before : EmptyBefore k) (d : X) (below : k < length xs) where
    step : slice_get (f (get_or xs k d) ++ flat_map f (drop (k + 1) xs)) 0 ≡ slice_get (flat_map f xs) 0
    step = sym (ap (λ ys. slice_get (flat_map f ys) 0) (drop_more xs k d below)) ∙ before

    pub empty_here : None ≡ slice_get (f (get_or xs k d)) 0 → EmptyBefore (k + 1)
    empty_here none = sym (first_of (f (get_or xs k d)) (flat_map f (drop (k + 1) xs)) (sym none)) ∙ step

    pub first_found : (x : A) → Some x ≡ slice_get (f (get_or xs k d)) 0 → Some x ≡ slice_get (flat_map f xs) 0
    first_found x some = sym (first_here (f (get_or xs k d)) (flat_map f (drop (k + 1) xs)) x (sym some)) ∙ step

  pub all_empty : (k : ℕ) → EmptyBefore k → length xs ≤ k → None ≡ slice_get (flat_map f xs) 0
  all_empty k before all = sym (ap (λ ys. slice_get (flat_map f ys) 0) (drop_all k xs all)) ∙ before

-- the same over numbers
module _ {A : Type 0} (f : ℕ → List A) (n k : ℕ) (before : EmptyBefore f (range_with_len 0 n) k) where
  number : k < n → get_or (range_with_len 0 n) k 0 ≡ k
  number below = get_or-range_with_len 0 n k 0 below ∙ omega arith

  pub number_empty : k < n → None ≡ slice_get (f k) 0 → EmptyBefore f (range_with_len 0 n) (k + 1)
  number_empty below none =
      empty_here f (range_with_len 0 n) k before 0 (omega (arith, length-range_with_len 0 n, below)) (none ∙ sym (ap (λ j. slice_get (f j) 0) (number below)))

  pub number_found : k < n → (x : A) → Some x ≡ slice_get (f k) 0 → Some x ≡ slice_get (flat_map f (range_with_len 0 n)) 0
  number_found below x some =
      first_found f (range_with_len 0 n) k before 0 (omega (arith, length-range_with_len 0 n, below)) x (some ∙ sym (ap (λ j. slice_get (f j) 0) (number below)))

  pub no_number : n ≤ k → None ≡ slice_get (flat_map f (range_with_len 0 n)) 0
  no_number all = all_empty f (range_with_len 0 n) k before (omega (arith, length-range_with_len 0 n, all))

-- where there is no first element no part has one
each_empty : {X A : Type 0} (f : X → List A) (xs : List X) → slice_get (flat_map f xs) 0 ≡ None → Each (λ x. slice_get (f x) 0 ≡ None) xs
each_empty f [] none = tt
each_empty {X} {A} f (x ∷ xs) none = by (f x) none (each_empty f xs)
  where
    by : (ys : List A) → slice_get (ys ++ flat_map f xs) 0 ≡ None → (slice_get (flat_map f xs) 0 ≡ None → Each (λ y. slice_get (f y) 0 ≡ None) xs) → (slice_get ys 0 ≡ None) × Each (λ y. slice_get (f y) 0 ≡ None) xs
    by [] e rest = (refl, rest e)
    by (y ∷ ys) e rest = cc

-- where each fails none is found
none_passes : (p : ℕ → Bool) (xs : List ℕ) → Each (λ x. p x ≡ false) xs → find p xs ≡ None
none_passes p [] fails = refl
none_passes p (x ∷ xs) (fail, fails) = ap (λ b. cond b (Some x) (find p xs)) fail ∙ none_passes p xs fails

module _ (s : Schema) (sp : Spine) (t : IsTree sp (nation_of sp)) (f : NumberTable) (x : Tables) (none : agree_fault s sp f x ≡ None) where
  -- a block has as many persons of a kind of quarters as it has facilities of it
  enough_of : (block kind : ℕ) → 1 ≤ kind → slice_get (faults_at s f x block kind) 0 ≡ None → number_at f block kind ≤ found s x block kind
  enough_of block kind quarters empty = elim (cases_lt (found s x block kind) (number_at f block kind)) [
    | inl less ↦
        let quarters_kind : (kind == 0) ≡ false = ne_eqb kind 0 (λ e. omega arith) in
        let facility : has_no_facility s f x block kind ≡ false = ap (λ b. nat_lt 0 (found s x block kind) && b) (ne_eqb (number_at f block kind) 0 (λ e. omega arith)) ∙ and_false (nat_lt 0 (found s x block kind)) in
        let short : agreement.is_short s f x block kind ≡ true = lt-ltb (found s x block kind) (number_at f block kind) less in
        let parts = λ (a b c : Bool). slice_get (cond a [] (cond b (NoFacility block kind ∷ []) (cond c (Short block kind (found s x block kind) (number_at f block kind) ∷ []) []))) 0 in
        let some : parts false false true ≡ None =
        sym (ap (λ a. parts a (has_no_facility s f x block kind) (agreement.is_short s f x block kind)) quarters_kind ∙ ap (λ b. parts false b (agreement.is_short s f x block kind)) facility ∙ ap (parts false false) short) ∙ empty in
        absurd cc
    | inr le ↦ le
  ]
    where
      and_false : (b : Bool) → (b && false) ≡ false
      and_false true = refl
      and_false false = refl

  enough : (block kind : ℕ) → IsUnit sp block → level_of sp block ≡ sp.depth - 1 → 1 ≤ kind → kind < kind_count s → number_at f block kind ≤ kind_sum s kind (x block)
  enough block kind here at quarters below =
      let each = each_empty (block_faults s f x) (units_at sp (sp.depth - 1)) none in
      let own : slice_get (block_faults s f x block) 0 ≡ None =
      range_each _ 0 (length sp.units) (filter_each (λ b. slice_get (block_faults s f x b) 0 ≡ None) (is_at sp (sp.depth - 1)) (unit_numbers sp) each)
      block (omega arith) (omega (arith, here)) (eq-eqb (level_of sp block) (sp.depth - 1) at) in
      enough_of block kind quarters (range_each (λ k. slice_get (faults_at s f x block k) 0 ≡ None) 0 (kind_count s) (each_empty (faults_at s f x block) (range_with_len 0 (kind_count s)) own) kind (omega arith) (omega arith))

  module _ (some_kind : 1 ≤ kind_count s) (adds : BlocksAddUp s sp x) (totals : List ℕ) where
    low_within : (u kind : ℕ) → IsUnit sp u → kind < kind_count s → low sp (known sp f totals) u kind ≤ kind_sum s kind (x u)
    low_within u zero here below = omega arith
    low_within u (suc kind) here below =
        let le = sum_le (λ b. number_at f b (suc kind)) (λ b. kind_sum s (suc kind) (x b)) (blocks_of sp u)
        (each_under sp (nation_of sp) t (λ b. number_at f b (suc kind) ≤ kind_sum s (suc kind) (x b)) (sp.depth - 1) u (λ b under. enough b (suc kind) under.here under.at (omega arith) below)) in
        omega (arith, le, kinds_add s (blocks_of sp u) x (x u) (suc kind) (adds u here))

    -- so a unit has as many persons as its facilities need
    needed_within : (u : ℕ) → IsUnit sp u → needed s sp (known sp f totals) u ≤ persons_in s (x u)
    needed_within u here =
        let le = sum_le (low sp (known sp f totals) u) (λ k. kind_sum s k (x u)) (range_with_len 0 (kind_count s))
        (each_range (λ k. low sp (known sp f totals) u k ≤ kind_sum s k (x u)) 0 (kind_count s) (λ k low high. low_within u k here (omega arith))) in
        omega (arith, le, persons_by_kind s (x u) some_kind)

  -- and no state is short
  pub join_accepts : 1 ≤ kind_count s → BlocksAddUp s sp x → join_fault s sp (known sp f (state_persons s sp x)) ≡ None
  join_accepts some_kind adds =
      let persons : ℕ → ℕ = λ st. persons_in s (x st) in
      let states = units_at sp 1 in
      let totals = map persons states in
      let p = known sp f totals in
      let Fine : ℕ → Type 0 = λ st. is_short s sp p st ≡ false in
      let fine = recursion_from_All Fine states (λ k d below.
      let st = get_or states k d in
      let same : st ≡ get_or states k 0 = get_or_default states k d 0 below in
      let total : p.total st ≡ persons st =
      ap p.total same ∙ total_at sp totals k below ∙ get_or-map persons states k 0 0 below ∙ ap persons (sym same) in
      let enough_there = needed_within some_kind adds totals st (units_within sp 1 k d below) in
      le-ltb (p.total st) (needed s sp p st) (omega (arith, total, enough_there))) in
      ap (option_map (short_of s sp p)) (none_passes (is_short s sp p) states fine)
