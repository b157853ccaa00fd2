-- Last steps followed back from a node that the last row lowers.
use Rattle.std.proofs.Common.{◌≡◌, ℕ, suc, ◌+◌, ◌-◌, ◌*◌, ◌<◌, ◌≤◌, List, [], ◌∷◌, length, get_or, set, replicate, Option, Some, None, IsSome, is_none, count_by, ℤ, ◌+ℤ◌, ◌≤ℤ◌, ◌<ℤ◌, refl, sym, ap, subst, ◌∙◌, inl, inr, arith, get_or-set_same, get_or-set_other}
use Rattle.std.proofs.lemmas.Int.{ints}
use Rattle.std.proofs.lemmas.Bool.{cases_eq, cases_lt}
use Rattle.std.proofs.lemmas.List.{get_or_past, get_or-replicate, length-replicate, length-map}
use Rattle.std.specs.List.{slice_range}
use Rattle.tda_flow.specs.declared.net.Turn.{Turn}
use Rattle.tda_cancel.specs.declared.steps.Step.{Step}
use Rattle.tda_cancel.specs.Steps.{step_at, AreBetween}
use Rattle.tda_cancel.specs.Rows.{last_at, IsLowered, IsTable}
use Rattle.tda_cancel.specs.Trace.{IsPath, path_cost, path_turns, AvoidsNode, PassesOnce, IsLosing}
use Rattle.tda_cancel.proofs.Lists.{count-replicate, count-set, range_more, length-range}
use Rattle.tda_cancel.proofs.History.{table-falls, last-some, some-lowers}

-- the row in which a node was passed
abbrev pub mark_at : List (Option ℕ) → ℕ → Option ℕ
mark_at marks v = get_or marks v None

-- the nodes where these steps begin are marked with k, k + 1 and so on
abbrev pub AreMarked : List Step → List (Option ℕ) → ℕ → List ℕ → Type 0
AreMarked steps marks k [] = Unit {0}
AreMarked steps marks k (i ∷ is) = (mark_at marks (step_at steps i).from ≡ Some k) × AreMarked steps marks (suc k) is

-- the walk from node `at` in row `row` to node u, which was passed in row j
pub record IsPassed (steps : List Step) (rows : ℕ → ℕ → ℤ) (n : ℕ) (marks : List (Option ℕ)) (walk : List Turn) (at row u j : ℕ) : Type 0 where
  pub first : ℕ
  pub rest : List ℕ
  pub above : row < j
  pub within : j ≤ n
  pub lower : (i : ℕ) → i < j → rows j u <ℤ rows i u
  pub turns : slice_range walk row j ≡ path_turns steps (first ∷ rest)
  pub follows : IsPath steps at (first ∷ rest) u
  pub marked : AreMarked steps marks (suc row) rest
  pub cost : rows j u ≡ rows row at +ℤ path_cost steps (first ∷ rest)

-- how far last steps have been followed back
pub record IsFollowing (steps : List Step) (rows : ℕ → ℕ → ℤ) (n : ℕ) (marks : List (Option ℕ)) (walk : List Turn) (at row : ℕ) : Type 0 where
  pub node : at < n
  pub low : row ≤ n
  pub falls : (j : ℕ) → suc j ≡ row → rows row at <ℤ rows j at
  pub passed : (u j : ℕ) → mark_at marks u ≡ Some j → IsPassed steps rows n marks walk at row u j
  pub left : count_by is_none marks ≡ row

pub following-none : (steps : List Step) (n : ℕ) (lasts : List (Option ℕ)) (t : IsTable steps n lasts n) (marks : List (Option ℕ)) (walk : List Turn) (start : ℕ)
    → start < n → IsSome (last_at lasts ((n - 1) * n + start)) → marks ≡ replicate n None → IsFollowing steps t.0 n marks walk start n
following-none steps n lasts t marks walk start l some e = record {
  node = l;
  low = omega arith;
  falls =
      λ j q.
      let p : n - 1 ≡ j = omega arith in
      let s : IsSome (last_at lasts (j * n + start)) = subst (λ z. IsSome (last_at lasts (z * n + start))) p some in
      subst (λ z. t.0 z start <ℤ t.0 j start) q
      (some-lowers steps (length steps) (t.0 j) (t.0 (suc j)) start (last_at lasts (j * n + start)) ((t.1 j (omega arith)).last start l) s);
  passed = λ u j q. let none = no_mark u in absurd (cc);
  left = ap (λ (xs : List (Option ℕ)). count_by is_none xs) e ∙ count-replicate ℕ n;
}
  where
    no_mark : (u : ℕ) → mark_at marks u ≡ None
    no_mark u =
        ap (λ xs. mark_at xs u) e
        ∙ elim (cases_lt u n) [
          | inl k ↦ get_or-replicate n u None None k
          | inr k ↦ get_or_past (replicate n None) u None (omega (arith, length-replicate {A = Option ℕ} n None))
        ]

-- a node without a mark is passed in a row above the first
pub row-left : (steps : List Step) (rows : ℕ → ℕ → ℤ) (n : ℕ) (marks : List (Option ℕ)) (walk : List Turn) (at row : ℕ) → IsFollowing steps rows n marks walk at row
    → length marks ≡ n → mark_at marks at ≡ None → 0 < row
row-left steps rows n marks walk at row h size none =
    let a = count-set marks at row (let b = h.node in omega arith) none in
    let c = h.left in
    omega arith

-- its last step
pub last-step : (steps : List Step) (n : ℕ) (lasts : List (Option ℕ)) (t : IsTable steps n lasts n) (marks : List (Option ℕ)) (walk : List Turn) (at row : ℕ)
    → IsFollowing steps t.0 n marks walk at row → 0 < row
    → (i : ℕ) × (last_at lasts ((row - 1) * n + at) ≡ Some i) × IsLowered steps (length steps) (t.0 (row - 1)) (t.0 row) at i
last-step steps n lasts t marks walk at row h some =
    let e : suc (row - 1) ≡ row = omega arith in
    let low = h.low in
    let less : t.0 (suc (row - 1)) at <ℤ t.0 (row - 1) at = subst (λ z. t.0 z at <ℤ t.0 (row - 1) at) (sym e) (h.falls (row - 1) e) in
    let w = last-some steps (length steps) (t.0 (row - 1)) (t.0 (suc (row - 1))) at (last_at lasts ((row - 1) * n + at)) ((t.1 (row - 1) (omega arith)).last at h.node) less in
    (w.0, w.1, subst (λ z. IsLowered steps (length steps) (t.0 (row - 1)) (t.0 z) at w.0) e w.2)

-- marks stay where a node without one gets one
marked-more : (steps : List Step) (marks : List (Option ℕ)) (at row k : ℕ) (is : List ℕ) → mark_at marks at ≡ None → AreMarked steps marks k is
    → AreMarked steps (set marks at (Some row)) k is
marked-more steps marks at row k [] none h = tt
marked-more steps marks at row k (i ∷ is) none h = (
  elim (cases_eq (step_at steps i).from at) [
    | inl e ↦ let a = ap (mark_at marks) e in absurd (cc (h.0))
    | inr ne ↦ get_or-set_other marks at (step_at steps i).from (Some row) None ne ∙ h.0
  ],
  marked-more steps marks at row (suc k) is none h.1,
)

pub following-more : (steps : List Step) (n : ℕ) (lasts : List (Option ℕ)) (t : IsTable steps n lasts n) (marks : List (Option ℕ)) (walk : List Turn) (at row i : ℕ)
    → AreBetween n steps → IsFollowing steps t.0 n marks walk at row → length marks ≡ n → length walk ≡ n → mark_at marks at ≡ None → 0 < row
    → IsLowered steps (length steps) (t.0 (row - 1)) (t.0 row) at i
    → IsFollowing steps t.0 n (set marks at (Some row)) (set walk (row - 1) (step_at steps i).turn) (step_at steps i).from (row - 1)
following-more steps n lasts t marks walk at row i between h size size' none some is =
    let r : ℕ = row - 1 in
    let e : suc r ≡ row = omega arith in
    let e' : r + 1 ≡ row = omega arith in
    let w : ℕ = (step_at steps i).from in
    let more : List (Option ℕ) = set marks at (Some row) in
    let longer : List Turn = set walk r (step_at steps i).turn in
    let low = h.low in
    let node = h.node in
    let here : mark_at more at ≡ Some row = get_or-set_same marks at (Some row) None (omega arith) in
    record {
      node = between.from i is.listed;
      low = omega arith;
      falls =
          λ j q.
          let u = (t.1 j (omega arith)).under i is.listed in
          let a : t.0 (suc j) at ≤ℤ (t.0 j w +ℤ (step_at steps i).cost) = subst (λ z. t.0 (suc j) z ≤ℤ (t.0 j w +ℤ (step_at steps i).cost)) is.to u in
          let b : t.0 r at ≤ℤ (t.0 j w +ℤ (step_at steps i).cost) = subst (λ z. t.0 z at ≤ℤ (t.0 j w +ℤ (step_at steps i).cost)) q a in
          let c = is.is in
          let d = is.less in
          omega (arith, ints);
      passed =
          λ u j q.
          elim (cases_eq u at) [
            | inl same ↦
                let there : mark_at more at ≡ Some j = subst (λ z. mark_at more z ≡ Some j) same q in
                let k : row ≡ j = some_is row j (sym here ∙ there) in
                subst (λ z. IsPassed steps t.0 n more longer w r z j) (sym same)
                (subst (λ z. IsPassed steps t.0 n more longer w r at z) k (record {
                  first = i;
                  rest = [];
                  above = omega arith;
                  within = low;
                  lower =
                      λ p l.
                      let a = table-falls steps n lasts n t at p r node (omega arith) (omega arith) in
                      let b = is.less in
                      omega (arith, ints);
                  turns =
                      range_more walk r row (step_at steps i).turn (omega arith) (omega arith)
                      ∙ ap (λ z. (step_at steps i).turn ∷ slice_range walk z row) e'
                      ∙ ap (λ z. (step_at steps i).turn ∷ z) (empty walk row);
                  follows = (is.listed, refl, is.to);
                  marked = tt;
                  cost = let a = is.is in omega (arith, ints);
                }))
            | inr ne ↦
                let old = h.passed u j (sym (get_or-set_other marks at u (Some row) None ne) ∙ q) in
                let above = old.above in
                let within = old.within in
                let from : (step_at steps old.first).from ≡ at = old.follows.1 in
                record {
                  first = i;
                  rest = old.first ∷ old.rest;
                  above = omega arith;
                  within = old.within;
                  lower = old.lower;
                  turns =
                      range_more walk r j (step_at steps i).turn (omega arith) (omega arith)
                      ∙ ap (λ z. (step_at steps i).turn ∷ slice_range walk z j) e'
                      ∙ ap (λ z. (step_at steps i).turn ∷ z) old.turns;
                  follows = (is.listed, refl, subst (λ z. IsPath steps z (old.first ∷ old.rest) u) (sym is.to) old.follows);
                  marked = (
                    ap (mark_at more) from ∙ here ∙ ap Some (sym e),
                    subst (λ z. AreMarked steps more (suc z) old.rest) (sym e) (marked-more steps marks at row (suc row) old.rest none old.marked),
                  );
                  cost = let a = is.is in let b = old.cost in omega (arith, ints);
                }
          ];
      left = let a = count-set marks at row (omega arith) none in let b = h.left in omega arith;
    }
  where
    some_is : (a b : ℕ) → Some a ≡ Some b → a ≡ b
    some_is a b q = cc

    empty : (xs : List Turn) (k : ℕ) → slice_range xs k k ≡ []
    empty xs k = let z : k - k ≡ 0 = omega arith in rw z refl

-- nodes with other marks
avoids-above : (steps : List Step) (marks : List (Option ℕ)) (v j k : ℕ) (is : List ℕ) → mark_at marks v ≡ Some j → j < k → AreMarked steps marks k is → AvoidsNode steps v is
avoids-above steps marks v j k [] e l h = tt
avoids-above steps marks v j k (i ∷ is) e l h =
    (λ q. let a = ap (mark_at marks) q in let b = h.0 in let c : j ≡ k = cc in omega arith, avoids-above steps marks v j (suc k) is e (omega arith) h.1)

avoids-below : (steps : List Step) (marks : List (Option ℕ)) (v j k : ℕ) (is : List ℕ) → mark_at marks v ≡ Some j → k + length is ≤ j → AreMarked steps marks k is → AvoidsNode steps v is
avoids-below steps marks v j k [] e l h = tt
avoids-below steps marks v j k (i ∷ is) e l h =
    (λ q. let a = ap (mark_at marks) q in let b = h.0 in let c : j ≡ k = cc in omega arith, avoids-below steps marks v j (suc k) is e (omega arith) h.1)

once-marked : (steps : List Step) (marks : List (Option ℕ)) (k : ℕ) (is : List ℕ) → AreMarked steps marks k is → PassesOnce steps is
once-marked steps marks k [] h = tt
once-marked steps marks k (i ∷ is) h =
    (avoids-above steps marks (step_at steps i).from k (suc k) is h.0 (omega arith) h.1, once-marked steps marks (suc k) is h.1)

-- a node that is passed again closes a walk of negative cost
pub losing : (steps : List Step) (rows : ℕ → ℕ → ℤ) (n : ℕ) (marks : List (Option ℕ)) (walk : List Turn) (at row j : ℕ) → IsFollowing steps rows n marks walk at row
    → length walk ≡ n → mark_at marks at ≡ Some j → (row ≤ j) × (j ≤ n) × IsLosing steps (slice_range walk row j)
losing steps rows n marks walk at row j h size e =
    let p = h.passed at j e in
    let above = p.above in
    let within = p.within in
    let count : j - row ≡ suc (length p.rest) = sym (length-range walk row j (omega arith)) ∙ ap length p.turns ∙ length-map (p.first ∷ p.rest) (λ i. (step_at steps i).turn) in
    let from : (step_at steps p.first).from ≡ at = p.follows.1 in (
      omega arith,
      within,
      record {
        node = at;
        path = p.first ∷ p.rest;
        turns = p.turns;
        closed = p.follows;
        simple = (
          avoids-below steps marks (step_at steps p.first).from j (suc row) p.rest (ap (mark_at marks) from ∙ e) (omega arith) p.marked,
          once-marked steps marks (suc row) p.rest p.marked,
        );
        cost = let a = p.cost in let b = p.lower row above in omega (arith, ints);
      },
    )
