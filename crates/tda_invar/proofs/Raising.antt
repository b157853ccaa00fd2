-- The least persons of units, from the blocks up to the nation.
use Rattle.std.proofs.Common.{◌≡◌, ◌≢◌, ℕ, zero, suc, ◌+◌, ◌-◌, ◌*◌, ◌<◌, ◌≤◌, ◌^◌, Bool, true, false, cond, ◌==◌, List, [], ◌∷◌, length, get_or, drop, All, ◌/◌, ◌%◌, refl, sym, ap, ◌∙◌, subst, inl, inr, arith, ne_eqb, eq-eqb}
use Rattle.std.proofs.lemmas.Bool.{cases_eq, cases_Bool, eqb-true}
use Rattle.std.proofs.lemmas.List.{drop_more}
use Rattle.std.proofs.lemmas.List.Elements.{All-from_recursion}
use Rattle.std.proofs.lemmas.List.FromFn.{length-map-range_with_len}
use Rattle.std.proofs.lemmas.List.Sums.{sum_by-le}
use Rattle.std.proofs.Math.ListN.{drop_of_length-le}
use Rattle.std.specs.List.{sum_by}
use Rattle.tda_model.specs.Spine.{Spine, level_of, is_child, is_at, is_over, children_of, blocks_of, units_at, unit_numbers, nation_of, parents_of, IsUnit, HasParent, IsTree}
use Rattle.tda_model.specs.Bounds.{low, MostHolds}
use Rattle.tda_model.proofs.Sums.{Each, sum_same, sum_filter, sum_one, each_weaker, each_filter, each_range}
use Rattle.tda_model.proofs.Tree.{child_tells, over_itself, over_same}
use Rattle.tda_spine.specs.Sound.{IsSound, IsInner}
use Rattle.tda_spine.proofs.FitOrder.{parents_inner, each_inner}
use Rattle.tda_invar.specs.Facilities.{facilities_limit, own_need}
use Rattle.tda_invar.specs.KindTable.{NumberTable, number_at, number_limit, table_of, HasRow}
use Rattle.tda_invar.specs.Known.{most_of, known}
use Rattle.tda_invar.proofs.UnitLists.{few_blocks}
use Rattle.tda_invar.proofs.FitOrder.{child_later}
use Rattle.tda_invar.proofs.Needs.{low_split}
use Rattle.tda_invar.proofs.TableLemmas.{number_in, number_small, table_is}

-- a kind whose facilities need somebody has room for them
pub most_holds : (sp : Spine) (f : NumberTable) (totals : List ℕ) → All (λ n. n ≤ facilities_limit) f.numbers → MostHolds (known sp f totals)
most_holds sp f totals small = record { holds = λ b k some. by (number_at f b k) (number_small f facilities_limit small b k) }
  where
    by : (n : ℕ) → n ≤ facilities_limit → n ≤ most_of n
    by n le = elim (cases_eq n 0) [
      | inl none ↦ rw none (omega arith)
      | inr some ↦ rw (ne_eqb n 0 some) (omega arith)
    ]

-- a block's own block is itself
module _ (sp : Spine) (t : IsTree sp (nation_of sp)) (g : ℕ → ℕ) (b : ℕ) (here : IsUnit sp b) (at : level_of sp b ≡ sp.depth - 1) where
  abbrev term : ℕ → ℕ
  term v = cond (is_at sp (sp.depth - 1) v) (cond (is_over sp b v sp.depth) (g v) 0) 0

  no_term : (v : ℕ) → IsUnit sp v → v ≢ b → term v ≡ 0
  no_term v in_v other = elim (cases_Bool (is_at sp (sp.depth - 1) v)) [
    | inl is ↦ rw is (elim (cases_Bool (is_over sp b v sp.depth)) [
      | inl over ↦ absurd (other (sym (over_same sp (nation_of sp) t b v in_v (at ∙ sym (eqb-true (level_of sp v) (sp.depth - 1) is)) over)))
      | inr apart ↦ rw apart refl
    ])
    | inr apart ↦ rw apart refl
  ]

  one_term : (v : ℕ) → IsUnit sp v → term v ≡ cond (v == b) (g v) 0
  one_term v in_v = elim (cases_eq v b) [
    | inl e ↦
        let P : ℕ → Type 0 = λ w. term w ≡ cond (w == b) (g w) 0 in
        let at_b : is_at sp (sp.depth - 1) b ≡ true = eq-eqb (level_of sp b) (sp.depth - 1) at in
        let over_b = over_itself sp (nation_of sp) t b here in
        subst P (sym e) (rw (at_b, over_b, eq-eqb b b refl) refl)
    | inr other ↦ no_term v in_v other ∙ sym (ap (λ c. cond c (g v) 0) (ne_eqb v b other))
  ]

  own_block : sum_by g (blocks_of sp b) ≡ g b
  own_block =
      let last = sp.depth - 1 in
      sum_filter g (λ v. is_over sp b v sp.depth) (units_at sp last)
      ∙ sum_filter (λ v. cond (is_over sp b v sp.depth) (g v) 0) (is_at sp last) (unit_numbers sp)
      ∙ sum_same term (λ v. cond (v == b) (g v) 0) (unit_numbers sp) (each_range _ 0 (length sp.units) (λ v from to. one_term v (omega arith)))
      ∙ sum_one g b 0 (length sp.units) (omega arith) (omega (arith, here))

module _ (sp : Spine) (f : NumberTable) (totals : List ℕ) where
  -- the row of a unit says how many persons it has at least
  abbrev pub IsLow : NumberTable → ℕ → Type 0
  IsLow t u = (k : ℕ) → k < f.kinds → number_at t u k ≡ low sp (known sp f totals) u k

  -- the rows of the blocks do, and those of the parents from a place on
  pub record AreRaised (place : ℕ) (t : NumberTable) : Type 0 where
    pub units : t.units ≡ length sp.units
    pub kinds : t.kinds ≡ f.kinds
    pub size : length t.numbers ≡ length sp.units * f.kinds
    pub blocks : (b : ℕ) → IsUnit sp b → level_of sp b ≡ sp.depth - 1 → IsLow t b
    pub done : Each (IsLow t) (drop place (parents_of sp))

  own_is_low : IsTree sp (nation_of sp) → (b : ℕ) → IsUnit sp b → level_of sp b ≡ sp.depth - 1 → (k : ℕ) → own_need f b k ≡ low sp (known sp f totals) b k
  own_is_low t b here at zero = refl
  own_is_low t b here at (suc k) =
      ap (λ c. cond c 0 (number_at f b (suc k))) (ne_eqb (suc k) 0 (λ e. omega arith))
      ∙ sym (own_block sp t (λ c. number_at f c (suc k)) b here at)

  pub low_limited : IsSound sp → All (λ n. n ≤ facilities_limit) f.numbers → (u k : ℕ) → low sp (known sp f totals) u k ≤ number_limit
  low_limited sound small u zero = omega arith
  low_limited sound small u (suc k) =
      let le = sum_by-le (λ b. number_at f b (suc k)) facilities_limit (blocks_of sp u) (λ i d l. number_small f facilities_limit small (get_or (blocks_of sp u) i d) (suc k)) in
      let few = few_blocks sp u sound in
      within (sum_by (λ b. number_at f b (suc k)) (blocks_of sp u)) (length (blocks_of sp u)) le few
    where
      within : (a n : ℕ) → a ≤ n * facilities_limit → n ≤ 2 ^ 17 → a ≤ number_limit
      within a n le few = omega arith

  -- at the start the blocks' rows are those of their own facilities
  pub raised_start : IsSound sp → f.units ≡ length sp.units → (t : NumberTable) → t ≡ table_of f.units f.kinds (own_need f) → AreRaised (length (parents_of sp)) t
  raised_start sound units_are t is = record {
    units = ap (λ x. x.units) is ∙ units_are;
    kinds = ap (λ x. x.kinds) is;
    size =
        ap (λ x. length x.numbers) is
        ∙ length-map-range_with_len (λ place. own_need f (place / f.kinds) (place % f.kinds)) 0 (f.units * f.kinds)
        ∙ ap (λ n. n * f.kinds) units_are;
    blocks = λ b here at k l.
        ap (λ x. number_at x b k) is
        ∙ number_in f.units f.kinds (own_need f) b k (omega (arith, here, units_are)) l
        ∙ own_is_low sound.tree b here at k;
    done = subst (Each (IsLow t)) (sym (drop_of_length-le (parents_of sp) (omega arith))) tt;
  }

  module _ (sound : IsSound sp) (place : ℕ) (some : 0 < place) (within : place ≤ length (parents_of sp)) (t : NumberTable) (h : AreRaised place t) where
    abbrev parent : ℕ
    parent = get_or (parents_of sp) (place - 1) 0

    parent_inner : IsInner sp parent
    parent_inner = All-from_recursion (IsInner sp) (parents_of sp) (parents_inner sp sound.tree) (place - 1) 0 (omega arith)

    done_after : Each (IsLow t) (drop (place - 1 + 1) (parents_of sp))
    done_after = let back : place - 1 + 1 ≡ place = omega arith in subst (λ n. Each (IsLow t) (drop n (parents_of sp))) (sym back) h.done

    child_low : (c : ℕ) → IsUnit sp c → HasParent sp c parent → IsLow t c
    child_low c here up = elim (cases_eq (level_of sp c) (sp.depth - 1)) [
      | inl last ↦ h.blocks c here last
      | inr above ↦ λ kind l. elim (cases_eq (number_at t c kind) (low sp (known sp f totals) c kind)) [
        | inl same ↦ same
        | inr differ ↦
            let deep = sound.tree.within c here in
            let inner : IsInner sp c = record { here = here; above = omega arith } in
            let P : ℕ → Type 0 = λ v. number_at t v kind ≡ low sp (known sp f totals) v kind in
            absurd (child_later sp sound.tree (place - 1) (omega arith) c inner up
            (each_weaker (IsLow t) (λ v. v ≢ c) (drop (place - 1 + 1) (parents_of sp)) (λ v is same. differ (subst P same (is kind l))) done_after))
      ]
    ]

    children_low : Each (IsLow t) (children_of sp parent)
    children_low =
        each_filter (IsLow t) (is_child sp parent) (unit_numbers sp) (each_range _ 0 (length sp.units) (λ c from to is.
        let here : IsUnit sp c = omega arith in child_low c here (child_tells sp (nation_of sp) sound.tree parent c here is)))

    child_sum : (kind : ℕ) → kind < f.kinds → sum_by (λ c. number_at t c kind) (children_of sp parent) ≡ low sp (known sp f totals) parent kind
    child_sum kind l =
        sum_same (λ c. number_at t c kind) (λ c. low sp (known sp f totals) c kind) (children_of sp parent)
        (each_weaker (IsLow t) (λ c. number_at t c kind ≡ low sp (known sp f totals) c kind) (children_of sp parent) (λ c is. is kind l) children_low)
        ∙ sym (low_split sp (nation_of sp) sound.tree (known sp f totals) parent kind parent_inner.here parent_inner.above)

    pub raised_room : All (λ n. n ≤ facilities_limit) f.numbers → (kind : ℕ) → kind < t.kinds → sum_by (λ c. number_at t c kind) (children_of sp parent) ≤ number_limit
    raised_room small kind l =
        let is = child_sum kind (omega (arith, l, h.kinds)) in
        let le = low_limited sound small parent kind in
        omega (arith, is, le)

    pub raised_here : IsUnit sp parent
    raised_here = parent_inner.here

    -- one parent more
    pub raised_more : (new : NumberTable) → HasRow t new parent t.kinds (λ kind. sum_by (λ c. number_at t c kind) (children_of sp parent)) → AreRaised (place - 1) new
    raised_more new row = record {
      units = row.sized.units ∙ h.units;
      kinds = row.sized.kinds ∙ h.kinds;
      size = row.sized.size ∙ h.size;
      blocks = λ b here at. keeps b (h.blocks b here at);
      done = subst (Each (IsLow new)) (sym (drop_more (parents_of sp) (place - 1) 0 (omega arith))) (own, each_weaker (IsLow t) (IsLow new) (drop (place - 1 + 1) (parents_of sp)) keeps done_after);
    }
      where
        own : IsLow new parent
        own kind l = row.own kind (omega (arith, l, h.kinds)) ∙ child_sum kind l

        keeps : (v : ℕ) → IsLow t v → IsLow new v
        keeps v is = elim (cases_eq v parent) [
          | inl same ↦ subst (IsLow new) (sym same) own
          | inr other ↦ λ kind l. row.others v kind (λ e _. other e) ∙ is kind l
        ]

  -- in the end all rows do
  pub raised_all : IsSound sp → (t : NumberTable) → AreRaised 0 t → t ≡ table_of (length sp.units) f.kinds (low sp (known sp f totals))
  raised_all sound t h =
      table_is t (length sp.units) f.kinds (low sp (known sp f totals)) h.units h.kinds h.size (λ u k here l. each u here k l)
    where
      each : (u : ℕ) → IsUnit sp u → IsLow t u
      each u here = elim (cases_eq (level_of sp u) (sp.depth - 1)) [
        | inl last ↦ h.blocks u here last
        | inr above ↦
            let within = sound.tree.within u here in
            each_inner sp sound.tree (IsLow t) h.done u (record { here = here; above = omega arith })
      ]

-- the children of a unit keep their numbers while its own are changed
pub same_children : (sp : Spine) → IsSound sp → (u : ℕ) → IsUnit sp u → (old new : NumberTable) (n : ℕ) (row : ℕ → ℕ) → HasRow old new u n row
    → (k : ℕ) → sum_by (λ c. number_at new c k) (children_of sp u) ≡ sum_by (λ c. number_at old c k) (children_of sp u)
same_children sp sound u here old new n row h k =
    sum_same (λ c. number_at new c k) (λ c. number_at old c k) (children_of sp u)
    (each_filter _ (is_child sp u) (unit_numbers sp) (each_range _ 0 (length sp.units) (λ c from to is.
    let in_c : IsUnit sp c = omega arith in
    let up = child_tells sp (nation_of sp) sound.tree u c in_c is in
    let above : level_of sp c ≡ level_of sp u + 1 = up.above in
    h.others c k (λ same _. let level = ap (level_of sp) same in omega arith))))
