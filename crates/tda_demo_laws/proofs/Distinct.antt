-- No two units of a regular spine have one code: what follows a letter in a code is a decimal, and then the end or a letter.
use Rattle.std.proofs.Common.{◌≡◌, ℕ, ◌+◌, ◌<◌, ◌≤◌, ◌^◌, ◌⊎◌, inl, inr, List, [], ◌∷◌, ◌++◌, length, Some, None, refl, sym, ap, subst, ◌∙◌, arith, length-append, append_assoc}
use Rattle.std.specs.Fmt.{decimal}
use Rattle.std.specs.Int.{IsInRange}
use Rattle.std.specs.List.{AllByRecursion}
use Rattle.std.specs.Str.Parse.{AllDigits, digits_value}
use Rattle.std.proofs.lemmas.Bool.{cases_lt}
use Rattle.std.proofs.lemmas.Fmt.{decimal_is_IsNumeral}
use Rattle.std.proofs.lemmas.List.{append_cancel_left}
use Rattle.std.proofs.lemmas.Str.Parse.{digit_from_value}
use Rattle.tda_model.specs.Spine.{Spine, SpineUnit, IsUnit, code_of}
use Rattle.tda_demo.specs.Preorder.{Branch, tree_size, child_code, child_place, child, nation, regular_spine}
use Rattle.tda_demo.proofs.Nodes.{Node, child_node, each_unit, under, whole_node, whole_size}
use Rattle.tda_demo_laws.proofs.RegularTree.{IsBranch}

-- ---- decimals before what is no digit
abbrev IsTail : List ℕ → Type 0
IsTail rest = (rest ≡ []) ⊎ ((c : ℕ) × (cs : List ℕ) × (rest ≡ c ∷ cs) × (57 < c))

head : List ℕ → ℕ
head [] = 0
head (c ∷ cs) = c

rest_of : List ℕ → List ℕ
rest_of [] = []
rest_of (c ∷ cs) = cs

cons_nil : (c : ℕ) (cs : List ℕ) → (c ∷ cs) ≡ [] → ⊥
cons_nil c cs e = let l = ap length e in omega (arith, l)

cut : (ds es r s : List ℕ) → AllDigits 10 ds → AllDigits 10 es → IsTail r → IsTail s → ds ++ r ≡ es ++ s → ds ≡ es
unfolding head rest_of
cut [] [] r s hd he tr ts e = refl
cut [] (c ∷ es) r s hd he tr ts e = absurd (elim tr [
  | inl nil ↦ cons_nil c (es ++ s) (sym e ∙ nil)
  | inr more ↦
      let range : IsInRange 48 57 c = digit_from_value c he.0 in
      let same : more.0 ≡ c = ap head (sym more.2 ∙ e) in
      let high = more.3 in
      omega (arith, range)
])
cut (c ∷ ds) [] r s hd he tr ts e = absurd (elim ts [
  | inl nil ↦ cons_nil c (ds ++ r) (e ∙ nil)
  | inr more ↦
      let range : IsInRange 48 57 c = digit_from_value c hd.0 in
      let same : more.0 ≡ c = ap head (sym more.2 ∙ sym e) in
      let high = more.3 in
      omega (arith, range)
])
cut (c ∷ ds) (d ∷ es) r s hd he tr ts e =
    let first : c ≡ d = ap head e in
    let rest = cut ds es r s hd.1 he.1 tr ts (ap rest_of e) in
    ap (λ x. x ∷ ds) first ∙ ap (λ xs. d ∷ xs) rest

decimal_once : (m n : ℕ) → m < 2 ^ 64 → n < 2 ^ 64 → decimal m ≡ decimal n → m ≡ n
decimal_once m n sm sn e = sym (decimal_is_IsNumeral m sm).1 ∙ ap (digits_value 10) e ∙ (decimal_is_IsNumeral n sn).1

-- two children whose codes go on to one text are one
one_child : (stem : List ℕ) (b : Branch) (i j : ℕ) (r s : List ℕ) → i < 99 → j < 99 → IsTail r → IsTail s
    → child_code stem b i ++ r ≡ child_code stem b j ++ s → i ≡ j
unfolding rest_of
one_child stem b i j r s li lj tr ts e =
    let all = sym (append_assoc stem (b.letter ∷ decimal (i + 1)) r) ∙ e ∙ append_assoc stem (b.letter ∷ decimal (j + 1)) s in
    let after : (b.letter ∷ (decimal (i + 1) ++ r)) ≡ (b.letter ∷ (decimal (j + 1) ++ s)) = append_cancel_left stem _ _ all in
    let digits_i = decimal_is_IsNumeral (i + 1) (omega arith) in
    let digits_j = decimal_is_IsNumeral (j + 1) (omega arith) in
    let same = cut (decimal (i + 1)) (decimal (j + 1)) r s digits_i.0.1 digits_j.0.1 tr ts (ap rest_of after) in
    let next = decimal_once (i + 1) (j + 1) (omega arith) (omega arith) same in
    omega arith

-- ---- the codes below a unit
module _ (code : List ℕ) (whole : List Branch) where
  abbrev sp : Spine
  sp = regular_spine code whole

  code_is : (bs : List Branch) (x : SpineUnit) (stem : List ℕ) (at : ℕ) → Node sp.units bs x stem at → code_of sp at ≡ x.code
  code_is bs x stem at node = let here = node.here in ap (λ o. elim o as (λ _. List ℕ) [ Some y ↦ y.code | None ↦ [] ]) here

  abbrev Begins : List ℕ → List ℕ → Type 0
  Begins stem text = (rest : List ℕ) × (text ≡ stem ++ rest) × IsTail rest

  begin_more : (stem own : List ℕ) (c : ℕ) (cs : List ℕ) → 57 < c → Begins stem own → Begins stem (own ++ (c ∷ cs))
  begin_more stem own c cs high h = (
    h.0 ++ (c ∷ cs),
    ap (λ t. t ++ (c ∷ cs)) h.1 ∙ append_assoc stem h.0 (c ∷ cs),
    elim h.2 [
      | inl nil ↦ inr (c, cs, ap (λ t. t ++ (c ∷ cs)) nil, high)
      | inr more ↦ inr (more.0, more.1 ++ (c ∷ cs), ap (λ t. t ++ (c ∷ cs)) more.2, more.3)
    ],
  )

  begins : (bs : List Branch) (x : SpineUnit) (stem : List ℕ) (at : ℕ) → Node sp.units bs x stem at → AllByRecursion IsBranch bs → x.code ≡ stem
      → (v : ℕ) → at ≤ v → v < at + tree_size bs → Begins stem (code_of sp v)
  begins bs x stem at node fine own v low high =
      each_unit sp.units (λ u. Begins stem (code_of sp u))
      (λ cs y text place. AllByRecursion IsBranch cs × (y.code ≡ text) × Begins stem text)
      (λ cs y text place n q. subst (Begins stem) (sym (code_is cs y text place n ∙ q.1)) q.2)
      (λ b cs y text place k n q l. let branch = q.0.0 in (q.0.1, refl, begin_more stem text b.letter (decimal (k + 1)) branch.no_digit q.2))
      bs x stem at node (fine, own, ([], sym (nil stem), inl refl)) v low high
    where
      nil : (xs : List ℕ) → xs ++ [] ≡ xs
      nil [] = refl
      nil (y ∷ ys) = ap (λ t. y ∷ t) (nil ys)

  -- the unit's own code isn't how one below it begins
  abbrev pub IsApart : List Branch → SpineUnit → List ℕ → Type 0
  IsApart [] x stem = Unit {0}
  IsApart (b ∷ bs) x stem = (k : ℕ) (rest : List ℕ) → x.code ≡ child_code stem b k ++ rest → ⊥

  apart : (bs : List Branch) (x : SpineUnit) (stem : List ℕ) → x.code ≡ stem → IsApart bs x stem
  apart [] x stem own = tt
  apart (b ∷ bs) x stem own = λ k rest e.
      let all = ap length (sym own ∙ e) in
      omega (arith, length-append stem (b.letter ∷ decimal (k + 1)), length-append (child_code stem b k) rest, all)

  distinct_in : (bs : List Branch) (x : SpineUnit) (stem : List ℕ) (at : ℕ) → Node sp.units bs x stem at → AllByRecursion IsBranch bs → IsApart bs x stem
      → (u v : ℕ) → at ≤ u → u < v → v < at + tree_size bs → code_of sp u ≡ code_of sp v → ⊥
  distinct_in [] x stem at node fine own u v low less high e = omega arith
  distinct_in (b ∷ bs) x stem at node fine own u v low less high e =
      let branch = fine.0 in
      let few = branch.few in
      let in_v = under (tree_size bs) b.count (at + 1) v (omega arith) (omega arith) in
      let j = in_v.0 in
      let low_j = in_v.1 in
      let node_j = child_node sp.units b bs x stem at j node low_j in
      let text_v = begins bs (child x.level at stem b j) (child_code stem b j) (child_place at bs j) node_j fine.1 refl v in_v.2 in_v.3 in
      elim (cases_lt at u) [
        | inr le ↦
            let here : at ≡ u = omega arith in
            own j text_v.0 (sym (code_is (b ∷ bs) x stem at node) ∙ ap (code_of sp) here ∙ e ∙ text_v.1)
        | inl l ↦
            let in_u = under (tree_size bs) b.count (at + 1) u (omega arith) (omega arith) in
            let i = in_u.0 in
            let low_i = in_u.1 in
            let node_i = child_node sp.units b bs x stem at i node low_i in
            let text_u = begins bs (child x.level at stem b i) (child_code stem b i) (child_place at bs i) node_i fine.1 refl u in_u.2 in_u.3 in
            let one : i ≡ j = one_child stem b i j text_u.0 text_v.0 (omega arith) (omega arith) text_u.2 text_v.2 (sym text_u.1 ∙ e ∙ text_v.1) in
            let place : child_place at bs j ≡ child_place at bs i = ap (child_place at bs) (sym one) in
            let end = in_v.3 in
            distinct_in bs (child x.level at stem b i) (child_code stem b i) (child_place at bs i) node_i fine.1 (apart bs (child x.level at stem b i) (child_code stem b i) refl)
            u v in_u.2 less (omega arith) e
      ]

  pub distinct : AllByRecursion IsBranch whole → IsApart whole (nation code) [] → (u v : ℕ) → u < v → IsUnit sp v → code_of sp u ≡ code_of sp v → ⊥
  distinct fine own u v less here e =
      distinct_in whole (nation code) [] 0 (whole_node code whole) fine own u v (omega arith) less (omega (arith, here, whole_size code whole)) e
