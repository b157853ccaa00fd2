-- What joined facilities and totals give: the bounds of units, and that tables exist.
use Rattle.std.proofs.Common.{◌≡◌, ◌≢◌, ℕ, zero, suc, ◌+◌, ◌-◌, ◌*◌, ◌<◌, ◌≤◌, ◌^◌, min, Bool, true, false, not, ◌||◌, ◌==◌, cond, List, [], ◌∷◌, length, get_or, map, sum, sum_by, position, find, All, ◌/◌, ◌%◌, Option, Some, None, option_map, nat_lt, refl, sym, ap, subst, ◌∙◌, inl, inr, arith, ne_eqb, eq-eqb}
use Rattle.std.proofs.lemmas.Bool.{cases_eq, cases_lt, ltb-false}
use Rattle.std.proofs.lemmas.Nat.{div_below}
use Rattle.std.proofs.lemmas.List.{get_or_past}
use Rattle.std.proofs.lemmas.List.Elements.{All-from_get_or}
use Rattle.std.proofs.lemmas.List.FromFn.{get_or-map-range_with_len, length-map-range_with_len}
use Rattle.std.proofs.lemmas.List.Sums.{sum_by-cons, get_or-le-sum_by, sum-map}
use Rattle.std.specs.List.{range_with_len}
use Rattle.std.specs.Prelude.{IfSome}
use Rattle.tda_model.specs.Schema.{Schema}
use Rattle.tda_model.specs.Groups.{kind_count}
use Rattle.tda_model.specs.Spine.{Spine, IsUnit, IsTree, level_of, nation_of, blocks_of, is_at, units_at, unit_numbers}
use Rattle.tda_model.specs.Tables.{Published}
use Rattle.tda_model.specs.Bounds.{persons_limit, low, high, needed, MostHolds, HasKinds, TotalsSuffice}
use Rattle.tda_model.proofs.Sums.{Each, sum_same, each_range, filter_each, range_each}
use Rattle.tda_model.proofs.Attain.{attains_in_bounds, in_bounds_attains}
use Rattle.tda_model.proofs.Exists.{splits, nation_attains}
use Rattle.tda_spine.specs.Sound.{IsSound}
use Rattle.tda_spine.proofs.Firsts.{none_found}
use Rattle.tda_invar.specs.KindTable.{NumberTable, number_at, table_of}
use Rattle.tda_invar.specs.Facilities.{IsTableOf}
use Rattle.tda_invar.specs.Totals.{AreTotalsOf, state_place, total_of}
use Rattle.tda_invar.specs.Known.{most_of, known, is_short, short_of, join_fault, JoinedLists, known_of, unit_total, lows_of, BoundsFit, IsJoined, AlwaysExists}
use Rattle.tda_invar.specs.declared.join_fault.JoinFault.{JoinFault}
use Rattle.tda_invar.proofs.TableLemmas.{number_in}
use Rattle.tda_invar.proofs.StatePlaces.{totals_listed}
use Rattle.tda_invar.proofs.Needs.{need_small, low_small, low_le_high, high_small, nation_persons_few}

-- of some blocks: as many persons as there may be where one has a facility, and nobody where none has
most_sum : (f : ℕ → ℕ) (bs : List ℕ) → min persons_limit (sum_by (λ b. most_of (f b)) bs) ≡ most_of (sum_by f bs)
most_sum f [] = refl
most_sum f (b ∷ bs) =
    let all = sum_by-cons (λ c. most_of (f c)) b bs in
    let own = sum_by-cons f b bs in
    rw (all, own) (elim (cases_eq (f b) 0) [
      | inl none ↦ rw none (without (sum_by (λ c. most_of (f c)) bs) (sum_by f bs) (most_sum f bs))
      | inr some ↦ rw (ne_eqb (f b) 0 some) (some_of (sum_by (λ c. most_of (f c)) bs) ∙ sym (ap (λ t. cond t 0 persons_limit) (ne_eqb (f b + sum_by f bs) 0 (λ e. omega arith))))
    ])
  where
    without : (a n : ℕ) → min persons_limit a ≡ most_of n → min persons_limit (0 + a) ≡ most_of (0 + n)
    without a n h = let a_is : 0 + a ≡ a = omega arith in let n_is : 0 + n ≡ n = omega arith in rw (a_is, n_is) h

    some_of : (a : ℕ) → min persons_limit (persons_limit + a) ≡ persons_limit
    some_of a = omega arith

turned : (t : Bool) → cond t 0 persons_limit ≡ cond (not t) persons_limit 0
turned true = refl
turned false = refl

pub high_by_low : (sp : Spine) (f : NumberTable) (totals : List ℕ) (u k : ℕ)
    → high sp (known sp f totals) u k ≡ cond ((k == 0) || not (low sp (known sp f totals) u k == 0)) persons_limit 0
high_by_low sp f totals u zero = refl
high_by_low sp f totals u (suc k) =
    most_sum (λ b. number_at f b (suc k)) (blocks_of sp u)
    ∙ turned (sum_by (λ b. number_at f b (suc k)) (blocks_of sp u) == 0)
    ∙ ap (λ t. cond (t || not (sum_by (λ b. number_at f b (suc k)) (blocks_of sp u) == 0)) persons_limit 0) (sym (ne_eqb (suc k) 0 (λ e. omega arith)))

-- nobody, and as many as there may be
pub high_none : (k l : ℕ) → k ≢ 0 → l ≡ 0 → cond ((k == 0) || not (l == 0)) persons_limit 0 ≡ 0
high_none k l other none = rw (ne_eqb k 0 other, eq-eqb l 0 none) refl

pub high_some : (k l : ℕ) → l ≢ 0 → cond ((k == 0) || not (l == 0)) persons_limit 0 ≡ persons_limit
high_some k l some = rw (ne_eqb l 0 some) (by (k == 0))
  where
    by : (t : Bool) → cond (t || true) persons_limit 0 ≡ persons_limit
    by true = refl
    by false = refl

pub high_first : (k l : ℕ) → k ≡ 0 → cond ((k == 0) || not (l == 0)) persons_limit 0 ≡ persons_limit
high_first k l first = rw (eq-eqb k 0 first) refl

-- what the joined lists say of a unit
module _ (s : Schema) (sp : Spine) (inv : JoinedLists) (j : IsJoined s sp inv) where
  pub low_is : (u k : ℕ) → u < inv.lows.units → k < inv.lows.kinds → number_at inv.lows u k ≡ low sp (known_of sp inv) u k
  low_is u k lu lk =
      let units = ap (λ t. t.units) j.lows in
      let kinds = ap (λ t. t.kinds) j.lows in
      ap (λ t. number_at t u k) j.lows ∙ number_in (length sp.units) (kind_count s) (low sp (known_of sp inv)) u k (omega (arith, units, lu)) (omega (arith, kinds, lk))

  pub unit_total_is : (u : ℕ) → u < length inv.unit_totals → get_or inv.unit_totals u None ≡ unit_total sp (known_of sp inv) u
  unit_total_is u l =
      let size = ap length j.unit_totals ∙ length-map-range_with_len (unit_total sp (known_of sp inv)) 0 (length sp.units) in
      let from_zero : 0 + u ≡ u = omega arith in
      ap (λ xs. get_or xs u None) j.unit_totals
      ∙ get_or-map-range_with_len (unit_total sp (known_of sp inv)) 0 (length sp.units) u u None (omega (arith, size, l)) from_zero

-- the least persons by a table that is the facilities'
pub lows_are : (s : Schema) (sp : Spine) (f table : NumberTable) (totals : List ℕ) → IsTableOf s sp f → table ≡ f → (lows : NumberTable)
    → lows ≡ table_of (length sp.units) table.kinds (low sp (known sp table totals)) → lows ≡ lows_of s sp (known sp f totals)
lows_are s sp f table totals is same lows lows_is =
    lows_is
    ∙ ap (λ t. table_of (length sp.units) t.kinds (low sp (known sp t totals))) same
    ∙ ap (λ n. table_of (length sp.units) n (low sp (known sp f totals))) is.kinds

-- a row of the least persons is what the facilities of its unit need
pub row_needed : (s : Schema) (sp : Spine) (p : Published) (lows : NumberTable) → lows ≡ lows_of s sp p → (u : ℕ) → IsUnit sp u
    → sum_by (number_at lows u) (range_with_len 0 lows.kinds) ≡ needed s sp p u
row_needed s sp p lows is u here =
    ap (λ t. sum_by (number_at t u) (range_with_len 0 t.kinds)) is
    ∙ sum_same (number_at (lows_of s sp p) u) (low sp p u) (range_with_len 0 (kind_count s))
    (each_range _ 0 (kind_count s) (λ k from to. number_in (length sp.units) (kind_count s) (low sp p) u k here (omega arith)))

-- no total passes the limit
pub total_small : (sp : Spine) (totals : List ℕ) → sum totals ≤ persons_limit → (u : ℕ) → total_of sp totals u ≤ persons_limit
total_small sp totals few u = by (state_place sp u)
  where
    at : (k : ℕ) → get_or totals k 0 ≤ persons_limit
    at k = elim (cases_lt k (length totals)) [
      | inl below ↦ let le = get_or-le-sum_by (λ n. n) totals k 0 below in omega arith
      | inr past ↦ let e = get_or_past totals k 0 past in omega arith
    ]

    by : (o : Option ℕ) → elim o as (λ _. ℕ) [ Some k ↦ get_or totals k 0 | None ↦ 0 ] ≤ persons_limit
    by (Some k) = at k
    by None = omega arith

pub unit_total_small : (s : Schema) (sp : Spine) (inv : JoinedLists) → IsJoined s sp inv → (u : ℕ) → IfSome (unit_total sp (known_of sp inv) u) (λ n. n ≤ persons_limit)
unit_total_small s sp inv j u = by (is_at sp 1 u)
  where
    by : (b : Bool) → IfSome (cond b (Some (total_of sp inv.totals u)) None) (λ n. n ≤ persons_limit)
    by true = total_small sp inv.totals j.totals.few u
    by false = tt

-- no state is short
enough_of : (s : Schema) (sp : Spine) (p : Published) → join_fault s sp p ≡ None → (st : ℕ) → IsUnit sp st → level_of sp st ≡ 1 → needed s sp p st ≤ p.total st
enough_of s sp p none st here at =
    let first = no_short (find (is_short s sp p) (units_at sp 1)) none in
    let each = filter_each (λ u. is_short s sp p u ≡ false) (is_at sp 1) (unit_numbers sp) (none_found (is_short s sp p) (units_at sp 1) first) in
    let fits = range_each (λ u. is_at sp 1 u ≡ true → is_short s sp p u ≡ false) 0 (length sp.units) each st (omega arith) (omega arith) (eq-eqb _ 1 at) in
    ltb-false (p.total st) (needed s sp p st) fits
  where
    no_short : (o : Option ℕ) → option_map (short_of s sp p) o ≡ None → o ≡ None
    no_short None e = refl
    no_short (Some u) e = cc

-- the totals of the states together
few_persons : (sp : Spine) (totals : List ℕ) → AreTotalsOf sp totals → sum_by (total_of sp totals) (units_at sp 1) ≤ persons_limit
few_persons sp totals are =
    let listed = sum-map (total_of sp totals) (units_at sp 1) in
    let same = ap sum (totals_listed sp totals are.size) in
    omega (arith, listed, same, are.few)

module _ (s : Schema) (sp : Spine) (f : NumberTable) (totals : List ℕ) (are : AreTotalsOf sp totals) (none : join_fault s sp (known sp f totals) ≡ None) where
  abbrev given : Published
  given = known sp f totals

  suffices : TotalsSuffice s sp given
  suffices = record {
    enough = enough_of s sp given none;
    not_many = λ st here at. total_small sp totals are.few st;
  }

  bounds_fit : IsTree sp (nation_of sp) → MostHolds given → BoundsFit s sp given
  bounds_fit tree most = record {
    all_kinds = need_small sp (nation_of sp) tree given s suffices (few_persons sp totals are);
    ordered = low_le_high sp (nation_of sp) tree given s suffices (few_persons sp totals are) most;
    limited = λ u k here l. high_small sp (nation_of sp) tree given u k;
  }

  -- no number of the least persons passes the limit
  pub lows_small : IsTree sp (nation_of sp) → (lows : NumberTable) → lows ≡ lows_of s sp given → All (λ n. n ≤ persons_limit) lows.numbers
  lows_small tree lows are_lows =
      let f_at : ℕ → ℕ = λ place. low sp given (place / kind_count s) (place % kind_count s) in
      let places = length sp.units * kind_count s in
      let Small : List ℕ → Type 0 = All (λ n. n ≤ persons_limit) in
      subst Small (sym (ap (λ t. t.numbers) are_lows))
      (All-from_get_or (λ n. n ≤ persons_limit) (map f_at (range_with_len 0 places)) 0 (λ i l.
      let len = length-map-range_with_len f_at 0 places in
      let below : i < places = omega arith in
      let from_zero : 0 + i ≡ i = omega arith in
      let P : ℕ → Type 0 = λ n. n ≤ persons_limit in
      subst P (sym (get_or-map-range_with_len f_at 0 places i i 0 below from_zero))
      (low_small sp (nation_of sp) tree given s suffices (few_persons sp totals are) (i / kind_count s) (i % kind_count s)
      (div_below i (kind_count s) (length sp.units) (some (length sp.units) (kind_count s) i below) below)
      (mod_below i (kind_count s) (some (length sp.units) (kind_count s) i below)))))
    where
      some : (units kinds i : ℕ) → i < units * kinds → 0 < kinds
      some units zero i l = absurd (omega arith)
      some units (suc kinds) i l = omega arith

      mod_below : (n m : ℕ) → 0 < m → n % m < m
      mod_below n m h = omega arith

module _ (s : Schema) (sp : Spine) (f lows : NumberTable) (totals : List ℕ) (unit_totals : List (Option ℕ)) where
  abbrev lists : JoinedLists
  lists = record { facilities = f; totals = totals; lows = lows; unit_totals = unit_totals }

  pub joined : IsTableOf s sp f → AreTotalsOf sp totals → IsSound sp → HasKinds s → MostHolds (known sp f totals)
      → lows ≡ lows_of s sp (known sp f totals) → unit_totals ≡ map (unit_total sp (known sp f totals)) (unit_numbers sp) → join_fault s sp (known sp f totals) ≡ None
      → IsJoined s sp (record { facilities = f; totals = totals; lows = lows; unit_totals = unit_totals })
  joined table are sound kinds most lows_are totals_are none = record {
    facilities = table;
    totals = are;
    lows = lows_are;
    unit_totals = totals_are;
    low_units = ap (λ t. t.units) lows_are;
    low_kinds = ap (λ t. t.kinds) lows_are;
    total_units = ap length totals_are ∙ length-map-range_with_len (unit_total sp (known sp f totals)) 0 (length sp.units);
    tree = sound.tree;
    kinds = kinds;
    most = most;
    suffice = suffices s sp f totals are none;
    fits = bounds_fit s sp f totals are none sound.tree most;
  }

-- tables exist
pub always : (s : Schema) (sp : Spine) (inv : JoinedLists) → IsJoined s sp inv → AlwaysExists s sp (known_of sp inv)
always s sp inv j = record {
  nation = nation_attains sp (nation_of sp) j.tree s (known_of sp inv) j.most j.kinds j.suffice;
  few = nation_persons_few sp (nation_of sp) j.tree (known_of sp inv) s (few_persons sp inv.totals j.totals);
  splits = splits sp (nation_of sp) j.tree s (known_of sp inv);
  bounds = λ u here below x few. (
    attains_in_bounds sp (nation_of sp) j.tree s (known_of sp inv) u here below x few,
    in_bounds_attains sp (nation_of sp) j.tree s (known_of sp inv) u here below j.most x,
  );
}
