-- Fit order: each unit with children once and no other, the nation first, and a unit after its parent.
use Rattle.std.proofs.Common.{◌≡◌, ◌≢◌, ℕ, zero, suc, ◌+◌, ◌-◌, ◌<◌, ◌≤◌, Bool, true, false, ◌==◌, List, [], ◌∷◌, ◌++◌, length, get_or, drop, Contains, Some, None, refl, sym, ap, ◌∙◌, subst, inl, inr, ◌⊎◌, arith, eq-eqb}
use Rattle.std.specs.List.{flat_map, AllPairs}
use Rattle.std.proofs.lemmas.List.Elements.{All-from_recursion, recursion_from_All, All-contains_itself, All-contains, All-get_or, All-from_get_or}
use Rattle.std.proofs.lemmas.Bool.{cases_lt}
use Rattle.std.proofs.lemmas.List.{get_or-drop, length-drop}
use Rattle.std.proofs.lemmas.List.Kept.{AllPairs-cons}
use Rattle.tda_model.specs.Spine.{Spine, level_of, parent_of, is_child, children_of, preorder_from, nation_of, parents_of, IsUnit, HasParent, IsTree}
use Rattle.tda_model.proofs.Sums.{Each, each_weaker, each_both, each_filter, filter_each, each_range, range_each, Ascends, range_ascends, filter_ascends}
use Rattle.tda_model.proofs.Tree.{child_tells, parent_is, up, up_step, parent_or_self}

-- Each over lists that are joined
module _ (P : ℕ → Type 0) where
  pub each_append : (xs ys : List ℕ) → Each P xs → Each P ys → Each P (xs ++ ys)
  each_append [] ys h k = k
  each_append (x ∷ xs) ys (e, h) k = (e, each_append xs ys h k)

  pub append_each : (xs ys : List ℕ) → Each P (xs ++ ys) → Each P xs × Each P ys
  append_each [] ys h = (tt, h)
  append_each (x ∷ xs) ys (e, h) = let rest = append_each xs ys h in ((e, rest.0), rest.1)

  pub each_joined : (f : ℕ → List ℕ) (xs : List ℕ) → Each (λ x. Each P (f x)) xs → Each P (flat_map f xs)
  each_joined f [] h = tt
  each_joined f (x ∷ xs) (e, h) = each_append (f x) (flat_map f xs) e (each_joined f xs h)

  pub joined_each : (f : ℕ → List ℕ) (xs : List ℕ) → Each P (flat_map f xs) → Each (λ x. Each P (f x)) xs
  joined_each f [] h = tt
  joined_each f (x ∷ xs) h = let both = append_each (f x) (flat_map f xs) h in (both.0, joined_each f xs both.1)

-- no number stands twice
abbrev pub EachOnce : List ℕ → Type 0
EachOnce [] = Unit {0}
EachOnce (x ∷ xs) = Each (λ y. x ≢ y) xs × EachOnce xs

ascends_once : (xs : List ℕ) → Ascends xs → EachOnce xs
ascends_once [] h = tt
ascends_once (x ∷ xs) h = (each_weaker (λ y. x < y) (λ y. x ≢ y) xs (λ y less e. omega arith) h.0, ascends_once xs h.1)

once_append : (xs ys : List ℕ) → EachOnce xs → EachOnce ys → Each (λ x. Each (λ y. x ≢ y) ys) xs → EachOnce (xs ++ ys)
once_append [] ys h k apart = k
once_append (x ∷ xs) ys h k apart = (each_append (λ y. x ≢ y) xs ys h.0 apart.0, once_append xs ys h.1 k apart.1)

-- lists of which each has a mark of its own
once_joined : (mark : ℕ → ℕ) (f : ℕ → List ℕ) (cs : List ℕ) → EachOnce cs → Each (λ c. EachOnce (f c)) cs → Each (λ c. Each (λ v. mark v ≡ c) (f c)) cs
    → EachOnce (flat_map f cs)
once_joined mark f [] once each marks = tt
once_joined mark f (c ∷ cs) once each marks =
    once_append (f c) (flat_map f cs) each.0 (once_joined mark f cs once.1 each.1 marks.1)
    (each_weaker (λ v. mark v ≡ c) (λ x. Each (λ y. x ≢ y) (flat_map f cs)) (f c)
    (λ x is. each_joined (λ y. x ≢ y) f cs
    (each_both (λ d. c ≢ d) (λ d. Each (λ v. mark v ≡ d) (f d)) (λ d. Each (λ y. x ≢ y) (f d)) cs
    (λ d apart has. each_weaker (λ v. mark v ≡ d) (λ y. x ≢ y) (f d) (λ y is_y same. apart (sym is ∙ ap mark same ∙ is_y)) has)
    once.0 marks.1))
    marks.0)

pub once_pairs : (xs : List ℕ) → EachOnce xs → AllPairs (λ u v. u ≢ v) xs
once_pairs [] h = λ i j d less within. absurd (omega arith)
once_pairs (x ∷ xs) h = AllPairs-cons (λ u v. u ≢ v) x xs (All-from_recursion (λ y. x ≢ y) xs h.0) (once_pairs xs h.1)

module _ (sp : Spine) where
  -- each unit's parent was seen, or stands before it
  abbrev AreAfterParents : (ℕ → Type 0) → List ℕ → Type 0
  AreAfterParents Seen [] = Unit {0}
  AreAfterParents Seen (u ∷ us) = ((p : ℕ) → HasParent sp u p → Seen p) × AreAfterParents (λ v. (v ≡ u) ⊎ Seen v) us

  after_weaker : (S T : ℕ → Type 0) (us : List ℕ) → ((v : ℕ) → S v → T v) → AreAfterParents S us → AreAfterParents T us
  after_weaker S T [] w h = tt
  after_weaker S T (u ∷ us) w h = (
    λ p up. w p (h.0 p up),
    after_weaker (λ v. (v ≡ u) ⊎ S v) (λ v. (v ≡ u) ⊎ T v) us (λ v s. elim s [ inl e ↦ inl e | inr t ↦ inr (w v t) ]) h.1,
  )

  after_append : (S : ℕ → Type 0) (us vs : List ℕ) → AreAfterParents S us → AreAfterParents S vs → AreAfterParents S (us ++ vs)
  after_append S [] vs h k = k
  after_append S (u ∷ us) vs h k = (h.0, after_append (λ v. (v ≡ u) ⊎ S v) us vs h.1 (after_weaker S (λ v. (v ≡ u) ⊎ S v) vs (λ v s. inr s) k))

  after_joined : (S : ℕ → Type 0) (f : ℕ → List ℕ) (us : List ℕ) → Each (λ u. AreAfterParents S (f u)) us → AreAfterParents S (flat_map f us)
  after_joined S f [] h = tt
  after_joined S f (u ∷ us) h = after_append S (f u) (flat_map f us) h.0 (after_joined S f us h.1)

  -- by places
  after_place : (S : ℕ → Type 0) (us : List ℕ) → AreAfterParents S us → (k : ℕ) → k < length us → (p : ℕ) → HasParent sp (get_or us k 0) p
      → S p ⊎ ((i : ℕ) × (i < k) × (get_or us i 0 ≡ p))
  after_place S [] h k l p up = absurd (omega arith)
  after_place S (u ∷ us) h zero l p up = inl (h.0 p up)
  after_place S (u ∷ us) h (suc k) l p up = elim (after_place (λ v. (v ≡ u) ⊎ S v) us h.1 k (omega arith) p up) [
    | inl s ↦ elim s [ inl e ↦ inr (0, omega arith, sym e) | inr t ↦ inl t ]
    | inr found ↦ let less = found.1 in inr (suc found.0, omega arith, found.2)
  ]

  child_yes : (c u : ℕ) → parent_of sp c ≡ Some u → is_child sp u c ≡ true
  child_yes c u e = ap (λ v. elim v as (λ _. Bool) [ Some q ↦ u == q | None ↦ false ]) e ∙ eq-eqb u u refl

  -- what holds of each child
  pub among_children : (Q : ℕ → Type 0) (u c : ℕ) → IsUnit sp c → HasParent sp c u → Each Q (children_of sp u) → Q c
  among_children Q u c here up each =
      range_each _ 0 (length sp.units) (filter_each Q (is_child sp u) _ each) c (omega arith) (omega (arith, here)) (child_yes c u up.named)

  pub some_child : (u c : ℕ) → IsUnit sp c → HasParent sp c u → children_of sp u ≢ []
  some_child u c here up none = among_children (λ _. ⊥) u c here up (subst (Each (λ _. ⊥)) (sym none) tt)

  step_of : (steps u : ℕ) → children_of sp u ≢ [] → preorder_from sp (suc steps) u ≡ u ∷ flat_map (preorder_from sp steps) (children_of sp u)
  step_of steps u some = by (children_of sp u) some
    where
      by : (cs : List ℕ) → cs ≢ [] → elim cs as (λ _. List ℕ) [ [] ↦ [] | c ∷ rest ↦ u ∷ flat_map (preorder_from sp steps) (c ∷ rest) ] ≡ u ∷ flat_map (preorder_from sp steps) cs
      by [] h = absurd (h refl)
      by (c ∷ rest) h = refl

  -- what holds of no unit and of a unit before its children holds of the walk
  walk : (Q : List ℕ → Type 0) (steps u : ℕ) → Q [] → Q (u ∷ flat_map (preorder_from sp steps) (children_of sp u)) → Q (preorder_from sp (suc steps) u)
  walk Q steps u none some = by (children_of sp u) some
    where
      by : (cs : List ℕ) → Q (u ∷ flat_map (preorder_from sp steps) cs) → Q (elim cs as (λ _. List ℕ) [ [] ↦ [] | c ∷ rest ↦ u ∷ flat_map (preorder_from sp steps) (c ∷ rest) ])
      by [] q = none
      by (c ∷ rest) q = q

  children_once : (u : ℕ) → EachOnce (children_of sp u)
  children_once u = ascends_once (children_of sp u) (filter_ascends (is_child sp u) _ (range_ascends 0 (length sp.units)))

  module _ (t : IsTree sp (nation_of sp)) where
    pub record IsChild (u c : ℕ) : Type 0 where
      pub here : IsUnit sp c
      pub up : HasParent sp c u

    pub children_each : (u : ℕ) → Each (IsChild u) (children_of sp u)
    children_each u =
        each_filter _ (is_child sp u) _ (each_range _ 0 (length sp.units) (λ c low high is.
        let here : IsUnit sp c = omega arith in record { here = here; up = child_tells sp (nation_of sp) t u c here is }))

    pub each_child : (Q : ℕ → Type 0) (u : ℕ) → ((c : ℕ) → IsUnit sp c → HasParent sp c u → Q c) → Each Q (children_of sp u)
    each_child Q u h = each_weaker (IsChild u) Q (children_of sp u) (λ c i. h c i.here i.up) (children_each u)

    -- a unit has children where it stands above the last level
    pub inner_has : (u : ℕ) → IsUnit sp u → level_of sp u + 1 < sp.depth → children_of sp u ≢ []
    inner_has u here above = let c = t.child u here above in some_child u c.0 c.1 c.2

    pub has_inner : (u : ℕ) → children_of sp u ≢ [] → level_of sp u + 1 < sp.depth
    has_inner u some = by (children_of sp u) some (children_each u)
      where
        by : (cs : List ℕ) → cs ≢ [] → Each (IsChild u) cs → level_of sp u + 1 < sp.depth
        by [] h each = absurd (h refl)
        by (c ∷ rest) h each =
            let above : level_of sp c ≡ level_of sp u + 1 = each.0.up.above in
            let deep : level_of sp c < sp.depth = t.within c each.0.here in omega arith

    -- what holds of each unit above the last level holds of each in fit order
    module _ (P : ℕ → Type 0) (h : (p : ℕ) → IsUnit sp p → level_of sp p + 1 < sp.depth → P p) where
      each_from : (steps u : ℕ) → IsUnit sp u → Each P (preorder_from sp steps u)
      each_from zero u here = tt
      each_from (suc steps) u here = by (children_of sp u) (has_inner u) (each_child (λ c. Each P (preorder_from sp steps c)) u (λ c here_c up. each_from steps c here_c))
        where
          by : (cs : List ℕ) → (cs ≢ [] → level_of sp u + 1 < sp.depth) → Each (λ c. Each P (preorder_from sp steps c)) cs
              → Each P (elim cs as (λ _. List ℕ) [ [] ↦ [] | c ∷ rest ↦ u ∷ flat_map (preorder_from sp steps) (c ∷ rest) ])
          by [] inner below = tt
          by (c ∷ rest) inner below = (h u here (inner (λ e. cc)), each_joined P (preorder_from sp steps) (c ∷ rest) below)

      pub parents_each : Each P (parents_of sp)
      parents_each = each_from sp.depth (nation_of sp) t.root

    -- and the other way round
    module _ (P : ℕ → Type 0) (all : Each P (parents_of sp)) where
      below_all : (level steps u : ℕ) → IsUnit sp u → level_of sp u ≡ level → level + steps ≡ sp.depth → Each P (preorder_from sp steps u)
      below_all zero steps u here at deep =
          let same : u ≡ nation_of sp = t.root_alone u here at in
          let whole : steps ≡ sp.depth = omega arith in
          subst (λ n. Each P (preorder_from sp n u)) (sym whole) (subst (λ v. Each P (preorder_from sp sp.depth v)) (sym same) all)
      below_all (suc level) steps u here at deep =
          let p = t.parent u here (omega arith) in
          let above : level_of sp u ≡ level_of sp p.0 + 1 = p.1.above in
          let over : Each P (preorder_from sp (suc steps) p.0) = below_all level (suc steps) p.0 p.1.here (omega arith) (omega arith) in
          let step = step_of steps p.0 (some_child p.0 u here p.1) in
          among_children (λ c. Each P (preorder_from sp steps c)) p.0 u here p.1
          (joined_each P (preorder_from sp steps) (children_of sp p.0) (subst (Each P) step over).1)

      pub each_inner : (u : ℕ) → IsUnit sp u → level_of sp u + 1 < sp.depth → P u
      each_inner u here inner = from (sp.depth - level_of sp u) (omega arith)
        where
          from : (steps : ℕ) → level_of sp u + steps ≡ sp.depth → P u
          from zero deep = absurd (omega arith)
          from (suc steps) deep = (subst (Each P) (step_of steps u (inner_has u here inner)) (below_all (level_of sp u) (suc steps) u here refl deep)).0

    -- exactly the units above the last level
    pub parents_have : (u : ℕ) → IsUnit sp u → level_of sp u + 1 < sp.depth → Contains (parents_of sp) u
    parents_have = each_inner (Contains (parents_of sp)) (recursion_from_All (Contains (parents_of sp)) (parents_of sp) (All-contains_itself (parents_of sp)))

    pub parents_are : (u : ℕ) → Contains (parents_of sp) u → IsUnit sp u × (level_of sp u + 1 < sp.depth)
    parents_are u = All-contains (λ v. IsUnit sp v × (level_of sp v + 1 < sp.depth)) (parents_of sp) u
        (All-from_recursion _ (parents_of sp) (parents_each (λ v. IsUnit sp v × (level_of sp v + 1 < sp.depth)) (λ p here inner. (here, inner))))

    -- what stands in the walk from u lies u or below: so many steps above it is u
    record IsBelow (u v : ℕ) : Type 0 where
      pub low : level_of sp u ≤ level_of sp v
      pub over : up sp v (level_of sp v - level_of sp u) ≡ u

    below_itself : (u : ℕ) → IsBelow u u
    below_itself u = let none : level_of sp u - level_of sp u ≡ 0 = omega arith in record { low = omega arith; over = ap (up sp u) none }

    below_up : (u c v : ℕ) → HasParent sp c u → IsBelow c v → IsBelow u v
    below_up u c v h below =
        let above : level_of sp c ≡ level_of sp u + 1 = h.above in
        let low = below.low in
        let one : level_of sp v - level_of sp u ≡ suc (level_of sp v - level_of sp c) = omega arith in
        record {
          low = omega arith;
          over = ap (up sp v) one ∙ up_step sp v (level_of sp v - level_of sp c) ∙ ap (parent_or_self sp) below.over ∙ parent_is sp (nation_of sp) t c u h;
        }

    walk_below : (steps u : ℕ) → Each (IsBelow u) (preorder_from sp steps u)
    walk_below zero u = tt
    walk_below (suc steps) u =
        walk (Each (IsBelow u)) steps u tt (
          below_itself u,
          each_joined (IsBelow u) (preorder_from sp steps) (children_of sp u)
              (each_child (λ c. Each (IsBelow u) (preorder_from sp steps c)) u
              (λ c here h. each_weaker (IsBelow c) (IsBelow u) (preorder_from sp steps c) (λ v below. below_up u c v h below) (walk_below steps c))),
        )

    walk_once : (steps u : ℕ) → EachOnce (preorder_from sp steps u)
    walk_once zero u = tt
    walk_once (suc steps) u =
        walk EachOnce steps u tt (
          each_joined (λ v. u ≢ v) (preorder_from sp steps) (children_of sp u)
              (each_child (λ c. Each (λ v. u ≢ v) (preorder_from sp steps c)) u
              (λ c here h. each_weaker (IsBelow c) (λ v. u ≢ v) (preorder_from sp steps c) (λ v below same. deeper c v h below same) (walk_below steps c))),
          once_joined (λ v. up sp v (level_of sp v - (level_of sp u + 1))) (preorder_from sp steps) (children_of sp u) (children_once u)
              (each_child (λ c. EachOnce (preorder_from sp steps c)) u (λ c here h. walk_once steps c))
              (each_child (λ c. Each (λ v. up sp v (level_of sp v - (level_of sp u + 1)) ≡ c) (preorder_from sp steps c)) u
              (λ c here h. each_weaker (IsBelow c) (λ v. up sp v (level_of sp v - (level_of sp u + 1)) ≡ c) (preorder_from sp steps c)
              (λ v below. ap (λ l. up sp v (level_of sp v - l)) (sym h.above) ∙ below.over) (walk_below steps c))),
        )
      where
        deeper : (c v : ℕ) → HasParent sp c u → IsBelow c v → u ≡ v → ⊥
        deeper c v h below same =
            let above : level_of sp c ≡ level_of sp u + 1 = h.above in
            let low = below.low in
            let level = ap (level_of sp) same in omega arith

    -- each once
    pub parents_once : EachOnce (parents_of sp)
    parents_once = walk_once sp.depth (nation_of sp)

    one_parent : (c p q : ℕ) → HasParent sp c p → HasParent sp c q → p ≡ q
    one_parent c p q h k = let first = h.named in let second = k.named in cc

    walk_after : (steps u : ℕ) (S : ℕ → Type 0) → ((p : ℕ) → HasParent sp u p → S p) → AreAfterParents S (preorder_from sp steps u)
    walk_after zero u S seen = tt
    walk_after (suc steps) u S seen =
        walk (AreAfterParents S) steps u tt (
          seen,
          after_joined (λ v. (v ≡ u) ⊎ S v) (preorder_from sp steps) (children_of sp u)
              (each_child (λ c. AreAfterParents (λ v. (v ≡ u) ⊎ S v) (preorder_from sp steps c)) u
              (λ c here h. walk_after steps c (λ v. (v ≡ u) ⊎ S v) (λ p k. inl (one_parent c p u k h)))),
        )

    -- a unit after its parent
    pub parent_before : (k : ℕ) → k < length (parents_of sp) → (p : ℕ) → HasParent sp (get_or (parents_of sp) k 0) p → (i : ℕ) × (i < k) × (get_or (parents_of sp) i 0 ≡ p)
    parent_before k l p up = elim (after_place (λ _. ⊥) (parents_of sp) (walk_after sp.depth (nation_of sp) (λ _. ⊥) (λ q h. let named = h.named in let none = t.root_parent in absurd cc)) k l p up) [
      | inl never ↦ absurd never
      | inr found ↦ found
    ]

    -- the nation first
    pub nation_first : (rest : List ℕ) × (parents_of sp ≡ nation_of sp ∷ rest)
    nation_first = from sp.depth refl
      where
        from : (steps : ℕ) → sp.depth ≡ steps → (rest : List ℕ) × (parents_of sp ≡ nation_of sp ∷ rest)
        from zero e = let deep : 2 ≤ sp.depth = t.deep in absurd (omega arith)
        from (suc steps) e =
            let deep : 2 ≤ sp.depth = t.deep in
            let root : level_of sp (nation_of sp) ≡ 0 = t.root_level in (
              flat_map (preorder_from sp steps) (children_of sp (nation_of sp)),
              ap (λ n. preorder_from sp n (nation_of sp)) e ∙ step_of steps (nation_of sp) (inner_has (nation_of sp) t.root (omega arith)),
            )

    -- a unit's child that has children itself stands after it
    pub child_later : (k : ℕ) → k < length (parents_of sp) → (c : ℕ) → IsUnit sp c → level_of sp c + 1 < sp.depth → HasParent sp c (get_or (parents_of sp) k 0)
        → Each (λ v. v ≢ c) (drop (k + 1) (parents_of sp)) → ⊥
    child_later k l c here inner h none =
        each_inner (λ v. v ≢ c) (recursion_from_All (λ v. v ≢ c) (parents_of sp) (All-from_get_or (λ v. v ≢ c) (parents_of sp) 0 apart)) c here inner refl
      where
        apart : (i : ℕ) → i < length (parents_of sp) → get_or (parents_of sp) i 0 ≢ c
        apart i low same = elim (cases_lt k i) [
          | inl after ↦
              let there : k + 1 + (i - (k + 1)) ≡ i = omega arith in
              let is : get_or (drop (k + 1) (parents_of sp)) (i - (k + 1)) 0 ≡ get_or (parents_of sp) i 0 = get_or-drop (k + 1) (parents_of sp) (i - (k + 1)) 0 ∙ ap (λ n. get_or (parents_of sp) n 0) there in
              All-get_or (λ v. v ≢ c) (drop (k + 1) (parents_of sp)) (i - (k + 1)) 0 (omega (arith, length-drop (k + 1) (parents_of sp), after, low)) (All-from_recursion _ (drop (k + 1) (parents_of sp)) none) (is ∙ same)
          | inr before ↦
              let found = parent_before i low (get_or (parents_of sp) k 0) (subst (λ v. HasParent sp v (get_or (parents_of sp) k 0)) (sym same) h) in
              let less = found.1 in
              once_pairs (parents_of sp) parents_once found.0 k 0 (omega arith) l found.2
        ]
