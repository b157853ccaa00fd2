-- The class of a possible cell in a query over all possible cells: the first of those that count as one with it.
use Rattle.std.proofs.Common.{All, Contains, ◌≡◌, ℕ, ◌+◌, ◌<◌, ◌≤◌, Bool, true, false, cond, ◌&&◌, ◌||◌, ◌==◌, not, List, [], ◌∷◌, length, get_or, filter, nat_lt, refl, sym, ap, ◌∙◌, subst, inl, inr, arith, ne_eqb, eq-eqb, sum_by}
use Rattle.std.proofs.lemmas.Bool.{cases_Bool, cases_eq, cases_lt, eqb-true, and_parts, and_from, false≢true, lt-ltb}
use Rattle.std.proofs.lemmas.List.Elements.{All-contains, All-from_recursion}
use Rattle.std.specs.Cmp.{IsEquivalence, both_ways}
use Rattle.std.specs.List.{list_all, range_with_len}
use Rattle.tda_model.specs.Schema.{Query, Schema}
use Rattle.tda_model.specs.Cells.{cell_count, is_possible, is_listed, all_cells, possible_cells}
use Rattle.tda_model.specs.Groups.{one_class, scope_cells, class_cells, is_class, classes_of}
use Rattle.tda_model.proofs.Sums.{Each, sum_filter, sum_filter_le, sum_same, sum_zero, each_range, each_filter, each_any, each_weaker, Ascends, range_ascends, filter_ascends}
use Rattle.tda_sets.proofs.Families.{HasFirst, has_first, first_alike_same}
use Rattle.tda_sets.proofs.Ranges.{filter_all, filter-filter}
use Rattle.tda_schema.specs.Parts.{holds}
use Rattle.tda_schema.specs.Stated.{queries_at, query_at, class_of}
use Rattle.tda_schema.proofs.QueryGroups.{all_alike}
use Rattle.tda_schema.proofs.WholeLemmas.{cell_of_possible}
use Rattle.tda_hist.proofs.CountLemmas.{one_if, at_most_one}
use Rattle.tda_hist.proofs.KindCells.{sum_parts}
use Rattle.tda_hist.proofs.Living.{holds_kept, holds_range}

-- what holds of all holds of each that the list holds
all_held : (p : ℕ → Bool) (xs : List ℕ) (y : ℕ) → list_all p xs ≡ true → holds xs y ≡ true → p y ≡ true
all_held p [] y all there = absurd (false≢true there)
all_held p (x ∷ xs) y all there =
    let parts = and_parts (p x) (list_all p xs) all in
    elim (cases_eq x y) [
      | inl e ↦ ap p (sym e) ∙ parts.0
      | inr other ↦ all_held p xs y parts.1 (sym (ap (λ b. b || holds xs y) (ne_eqb x y other)) ∙ there)
    ]

-- a level's queries are over all possible cells, and so is each
pub over_whole : (s : Schema) (level query : ℕ) → All (λ q. q.only ≡ []) (queries_at s level) → query < length (queries_at s level) → (query_at s level query).only ≡ []
over_whole s level query whole below = whole query (record { name = []; by = []; only = []; share = record { num = 0; den = 1 } }) below

module _ (s : Schema) (q : Query) (whole : q.only ≡ []) where
  equivalence : IsEquivalence (one_class s q)
  equivalence = all_alike s q.by

  -- the query counts all possible cells
  scope_is : scope_cells s q ≡ possible_cells s
  scope_is =
      ap (λ row. filter (is_listed s row) (possible_cells s)) whole
      ∙ filter_all (is_listed s []) (possible_cells s) (each_any (λ j. is_listed s [] j ≡ true) (possible_cells s) (λ j. refl))

  module _ (j : ℕ) (possible : is_possible s j ≡ true) where
    below : j < cell_count s
    below = cell_of_possible s j possible

    class_is : class_of s q j ≡ get_or (filter (one_class s q j) (possible_cells s)) 0 0
    class_is = ap (λ cells. get_or (filter (one_class s q j) cells) 0 0) scope_is

    found : HasFirst (cell_count s) (is_possible s) (one_class s q) j (class_of s q j)
    found = subst (HasFirst (cell_count s) (is_possible s) (one_class s q) j) (sym class_is) (has_first (cell_count s) (is_possible s) (one_class s q) equivalence j below possible)

    -- it is a cell, not after the cell itself, and counts as one with it
    pub class_below : class_of s q j < cell_count s
    class_below = let within = found.first.below in within

    pub class_not_after : class_of s q j ≤ j
    class_not_after = let least = found.least in least

    class_parts : (is_possible s (class_of s q j) ≡ true) × (one_class s q j (class_of s q j) ≡ true)
    class_parts = and_parts (is_possible s (class_of s q j)) (one_class s q j (class_of s q j)) found.first.passes

    in_scope : holds (scope_cells s q) j ≡ true
    in_scope =
        ap (λ cells. holds cells j) scope_is ∙ holds_kept (is_possible s) j (all_cells s)
        ∙ and_from (is_possible s j) (holds (all_cells s) j) possible (holds_range 0 (cell_count s) j (omega arith) (omega (arith, below)))

    -- alike cells have one class
    same_class : (c : ℕ) → is_possible s c ≡ true → one_class s q j c ≡ true → class_of s q j ≡ get_or (filter (one_class s q c) (possible_cells s)) 0 0
    same_class c here same = class_is ∙ first_alike_same (cell_count s) (is_possible s) (one_class s q) equivalence j c same

  -- a class is its own
  own_class : (c : ℕ) → is_class s q c ≡ true → is_possible s c ≡ true → class_of s q c ≡ c
  own_class c is here =
      let r = class_of s q c in
      let parts = class_parts c here in
      let among : holds (class_cells s q c) r ≡ true =
      holds_kept (one_class s q c) r (scope_cells s q) ∙ and_from (one_class s q c r) (holds (scope_cells s q) r) parts.1 (in_scope r parts.0) in
      let first : not (nat_lt r c) ≡ true = all_held (λ i. not (nat_lt i c)) (class_cells s q c) r is among in
      let least = class_not_after c here in
      elim (cases_lt r c) [
        | inl less ↦ absurd (false≢true (sym (ap not (lt-ltb r c less)) ∙ first))
        | inr more ↦ omega arith
      ]

  -- the cells of a class are those whose class it is
  pub in_class : (j c : ℕ) → is_possible s j ≡ true → is_class s q c ≡ true → is_possible s c ≡ true → holds (class_cells s q c) j ≡ (class_of s q j == c)
  in_class j c possible is here =
      let eq = equivalence in
      holds_kept (one_class s q c) j (scope_cells s q)
      ∙ ap (λ b. one_class s q c j && b) (in_scope j possible)
      ∙ both_ways (one_class s q c j && true) (class_of s q j == c)
      (λ alike.
      let same : one_class s q j c ≡ true = eq.symm j c ∙ (and_parts (one_class s q c j) true alike).0 in
      eq-eqb (class_of s q j) c (same_class j possible c here same ∙ sym (class_is c here) ∙ own_class c is here))
      (λ same.
      let alike : one_class s q j c ≡ true = ap (one_class s q j) (sym (eqb-true (class_of s q j) c same)) ∙ (class_parts j possible).1 in
      and_from (one_class s q c j) true (eq.symm c j ∙ alike) refl)

  -- a class is named by a possible cell, which is the first of the class
  pub record IsClass (c : ℕ) : Type 0 where
    pub first : is_class s q c ≡ true
    pub possible : is_possible s c ≡ true
    pub below : c < cell_count s

  pub each_class : Each IsClass (classes_of s q)
  each_class =
      each_filter IsClass (is_class s q) (scope_cells s q) (subst (Each (λ c. is_class s q c ≡ true → IsClass c)) (sym scope_is)
      (each_filter _ (is_possible s) (all_cells s) (each_range _ 0 (cell_count s) (λ c low high here first. record { first = first; possible = here; below = omega arith }))))

  -- a possible cell is in at most one class
  pub one_class_there : (j : ℕ) → is_possible s j ≡ true → sum_by (λ c. one_if (holds (class_cells s q c) j)) (classes_of s q) ≤ 1
  one_class_there j possible =
      let a = class_of s q j in
      let own : ℕ → ℕ = λ c. one_if (a == c) in
      let same = sum_same (λ c. one_if (holds (class_cells s q c) j)) own (classes_of s q)
      (each_weaker IsClass (λ c. one_if (holds (class_cells s q c) j) ≡ one_if (a == c)) (classes_of s q) (λ c is. ap one_if (in_class j c possible is.first is.possible)) each_class) in
      let classes = sum_filter_le own (is_class s q) (scope_cells s q) in
      let scope = sum_filter_le own (is_listed s q.only) (possible_cells s) in
      let cells = sum_filter_le own (is_possible s) (all_cells s) in
      let one = at_most_one a (cell_count s) in
      omega (arith, same, classes, scope, cells, one)

  -- each cell of a class stands in it once
  pub class_ascends : (c : ℕ) → Ascends (class_cells s q c)
  class_ascends c =
      filter_ascends (one_class s q c) (scope_cells s q) (filter_ascends (is_listed s q.only) (possible_cells s) (filter_ascends (is_possible s) (all_cells s) (range_ascends 0 (cell_count s))))

  -- no impossible cell is in a class, and no cell before its first
  pub not_in_class : (j c : ℕ) → is_possible s j ≡ false → holds (class_cells s q c) j ≡ false
  not_in_class j c impossible =
      holds_kept (one_class s q c) j (scope_cells s q)
      ∙ ap (λ b. one_class s q c j && b)
      (ap (λ cells. holds cells j) scope_is ∙ holds_kept (is_possible s) j (all_cells s) ∙ ap (λ b. b && holds (all_cells s) j) impossible)
      ∙ and_false (one_class s q c j)
    where
      and_false : (b : Bool) → (b && false) ≡ false
      and_false true = refl
      and_false false = refl

  pub none_before : (c : ℕ) → IsClass c → (j : ℕ) → j < c → holds (class_cells s q c) j ≡ false
  none_before c class j less = elim (cases_Bool (is_possible s j)) [
    | inl possible ↦ in_class j c possible class.first class.possible ∙ ne_eqb (class_of s q j) c (λ e. let least = class_not_after j possible in omega arith)
    | inr impossible ↦ not_in_class j c impossible
  ]

  -- a sum over a class, by all cells
  pub class_by_cells : (x : ℕ → ℕ) (c : ℕ) → sum_by x (class_cells s q c) ≡ sum_by (λ j. cond (holds (class_cells s q c) j) (x j) 0) (all_cells s)
  class_by_cells x c =
      let kept : ℕ → Bool = λ j. (is_possible s j && is_listed s q.only j) && one_class s q c j in
      let cells : class_cells s q c ≡ filter kept (all_cells s) =
      ap (filter (one_class s q c)) (filter-filter (is_listed s q.only) (is_possible s) (all_cells s))
      ∙ filter-filter (one_class s q c) (λ j. is_possible s j && is_listed s q.only j) (all_cells s) in
      ap (sum_by x) cells ∙ sum_filter x kept (all_cells s)
      ∙ sum_same (λ j. cond (kept j) (x j) 0) (λ j. cond (holds (class_cells s q c) j) (x j) 0) (all_cells s)
      (each_range _ 0 (cell_count s) (λ j low high. ap (λ b. cond b (x j) 0)
      (sym (ap (λ xs. holds xs j) cells ∙ holds_kept kept j (all_cells s) ∙ ap (λ b. kept j && b) (holds_range 0 (cell_count s) j low high) ∙ and_true (kept j)))))
    where
      and_true : (b : Bool) → (b && true) ≡ b
      and_true true = refl
      and_true false = refl

  -- none of the cells before its first counts
  pub class_sum_by : (x : ℕ → ℕ) (c : ℕ) → IsClass c → (n total : ℕ) → c + n ≡ cell_count s → total ≡ sum_by (λ j. cond (holds (class_cells s q c) j) (x j) 0) (range_with_len c n) → total ≡ sum_by x (class_cells s q c)
  class_sum_by x c class n total all is =
      let term : ℕ → ℕ = λ j. cond (holds (class_cells s q c) j) (x j) 0 in
      let whole_sum = class_by_cells x c ∙ ap (λ m. sum_by term (range_with_len 0 m)) (sym all) in
      let parts = sum_parts term 0 c n in
      let before : sum_by term (range_with_len 0 c) ≡ 0 =
      sum_same term (λ j. 0) (range_with_len 0 c) (each_range (λ j. term j ≡ 0) 0 c (λ j low high. ap (λ b. cond b (x j) 0) (none_before c class j (omega arith)))) ∙ sum_zero (range_with_len 0 c) in
      let own = ap (λ a. sum_by term (range_with_len a n)) (let e : 0 + c ≡ c = omega arith in e) in
      omega (arith, whole_sum, parts, before, own, is)

-- the cells of a class of which there is a place
pub class_at : (s : Schema) (q : Query) (whole : q.only ≡ []) (c : ℕ) → Contains (classes_of s q) c → IsClass s q whole c
class_at s q whole c there = All-contains (IsClass s q whole) (classes_of s q) c (All-from_recursion (IsClass s q whole) (classes_of s q) (each_class s q whole)) there
