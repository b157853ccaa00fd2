-- A block goes to the list of each unit over it.
use Rattle.std.proofs.Common.{◌≡◌, ◌≢◌, ℕ, ◌+◌, ◌-◌, ◌<◌, ◌≤◌, Bool, true, false, cond, ltb, List, [], ◌∷◌, ◌++◌, length, get_or, set, Option, Some, None, refl, sym, ap, ◌∙◌, subst, inl, inr, arith, get_or-set_same, get_or-set_other, length-set, ne_eqb}
use Rattle.std.specs.List.{range_with_len, filter}
use Rattle.std.proofs.lemmas.Bool.{cases_eq, cases_lt, cases_Bool, eqb-true, lt-ltb, ltb-true, false≢true}
use Rattle.std.proofs.lemmas.List.{append-nil}
use Rattle.tda_model.specs.Spine.{Spine, IsUnit, IsTree, level_of, parent_of, is_at, is_over, blocks_of}
use Rattle.tda_model.proofs.Tree.{up, over_low, over_is, over_up, over_itself}
use Rattle.tda_spine.proofs.Lookups.{parent_tells, at_yes}
use Rattle.tda_spine.proofs.Grouped.{Grouped}
use Rattle.tda_spine.specs.Sound.{block_lists}
use Rattle.std.proofs.lemmas.List.FromFn.{fill_by_all}

ltb_no : (m n : ℕ) → n ≤ m → ltb m n ≡ false
ltb_no m n le = elim (cases_Bool (ltb m n)) [ inl is ↦ let lt = ltb-true m n is in absurd (omega arith) | inr is ↦ is ]

-- the level below which no unit has been met
abbrev pub met : Spine → Option ℕ → ℕ
met sp over = elim over [ Some u ↦ level_of sp u + 1 | None ↦ 0 ]

-- whether a unit is over the block, at a level that was met
abbrev pub is_met : Spine → ℕ → ℕ → ℕ → Bool
is_met sp block m p = cond (ltb (level_of sp p) m) false (is_over sp p block sp.depth)

-- the block is on the list of each unit over it that was met, and the next one, if there is one, is over it
pub record Climbs (sp : Spine) (block : ℕ) (old lists : List (List ℕ)) (over : Option ℕ) : Type 0 where
  pub whole : length lists ≡ length old
  pub next : (u : ℕ) → over ≡ Some u → IsUnit sp u × (is_over sp u block sp.depth ≡ true)
  pub each : (p : ℕ) → IsUnit sp p → get_or lists p [] ≡ get_or old p [] ++ cond (is_met sp block (met sp over) p) (block ∷ []) []

module _ (sp : Spine) (nation : ℕ) (t : IsTree sp nation) (block : ℕ) (here : IsUnit sp block) where
  low_not : (p m : ℕ) → level_of sp p < m → is_met sp block m p ≡ false
  low_not p m lt = ap (λ b. cond b false (is_over sp p block sp.depth)) (lt-ltb (level_of sp p) m lt)

  high_is : (p m : ℕ) → m ≤ level_of sp p → is_met sp block m p ≡ is_over sp p block sp.depth
  high_is p m le = ap (λ b. cond b false (is_over sp p block sp.depth)) (ltb_no (level_of sp p) m le)

  pub climb_start : (lists : List (List ℕ)) → Climbs sp block lists lists (Some block)
  climb_start lists = record {
    whole = refl;
    next = λ u e. let same : block ≡ u = cc in subst (λ v. IsUnit sp v × (is_over sp v block sp.depth ≡ true)) same (here, over_itself sp nation t block here);
    each = λ p low. sym (append-nil (get_or lists p [])) ∙ ap (λ b. get_or lists p [] ++ cond b (block ∷ []) []) (sym (not_met p));
  }
    where
      not_met : (p : ℕ) → is_met sp block (level_of sp block + 1) p ≡ false
      not_met p = elim (cases_lt (level_of sp p) (level_of sp block + 1)) [
        | inl lt ↦ low_not p _ lt
        | inr le ↦ high_is p _ le ∙ over_low sp nation t p block sp.depth here (omega arith)
      ]

  -- of one level, one unit is over the block
  one_over : (p u : ℕ) → level_of sp p ≡ level_of sp u → is_over sp p block sp.depth ≡ true → is_over sp u block sp.depth ≡ true → p ≡ u
  one_over p u level is_p is_u =
      let deep : level_of sp block < sp.depth = t.within block here in
      elim (cases_lt (level_of sp block) (level_of sp u)) [
        | inl low ↦ absurd (false≢true (sym (over_low sp nation t u block sp.depth here low) ∙ is_u))
        | inr le ↦
            let k = level_of sp block - level_of sp u in
            let at_p : p ≡ up sp block k = eqb-true _ _ (sym (over_is sp nation t p block k sp.depth here (omega arith) (omega arith)) ∙ is_p) in
            let at_u : u ≡ up sp block k = eqb-true _ _ (sym (over_is sp nation t u block k sp.depth here (omega arith) (omega arith)) ∙ is_u) in
            at_p ∙ sym at_u
      ]

  -- what was met ends at the level above
  pub met_next : (u : ℕ) → IsUnit sp u → (o : Option ℕ) → parent_of sp u ≡ o → met sp o ≡ level_of sp u
  met_next u here_u (Some q) e = sym (parent_tells sp u nation q t here_u e).above
  met_next u here_u None e = elim (cases_eq (level_of sp u) 0) [
    | inl zero_level ↦ sym zero_level
    | inr ne ↦ let p = t.parent u here_u (omega arith) in let named : parent_of sp u ≡ Some p.0 = p.1.named in cc
  ]

  pub climb_step : (old lists new : List (List ℕ)) (u : ℕ) (o : Option ℕ) → length old ≡ length sp.units → Climbs sp block old lists (Some u) → parent_of sp u ≡ o
      → new ≡ set lists u (get_or lists u [] ++ block ∷ []) → Climbs sp block old new o
  climb_step old lists new u o size c e put = record {
    whole = ap length put ∙ length-set lists u _ ∙ c.whole;
    next = λ q named.
        let h = parent_tells sp u nation q t (c.next u refl).0 (e ∙ named) in
        (h.here, over_up sp nation t q u block h.here (c.next u refl).0 h here (c.next u refl).1);
    each = λ p low.
        let level = met_next u (c.next u refl).0 o e in
        elim (cases_eq p u) [
          | inl same ↦ subst (λ v. get_or new v [] ≡ get_or old v [] ++ cond (is_met sp block (met sp o) v) (block ∷ []) []) (sym same) (at_u level)
          | inr ne ↦
              ap (λ xs. get_or xs p []) put ∙ get_or-set_other lists u p _ [] ne ∙ c.each p low
              ∙ ap (λ b. get_or old p [] ++ cond b (block ∷ []) []) (elsewhere p ne)
              ∙ ap (λ m. get_or old p [] ++ cond (is_met sp block m p) (block ∷ []) []) (sym level)
        ];
  }
    where
      at_u : met sp o ≡ level_of sp u → get_or new u [] ≡ get_or old u [] ++ cond (is_met sp block (met sp o) u) (block ∷ []) []
      at_u level =
          let here_u : u < length sp.units = (c.next u refl).0 in
          let lt : u < length lists = omega (arith, c.whole) in
          ap (λ xs. get_or xs u []) put ∙ get_or-set_same lists u _ [] lt ∙ ap (λ xs. xs ++ block ∷ []) (c.each u here_u)
          ∙ ap (λ b. (get_or old u [] ++ cond b (block ∷ []) []) ++ block ∷ []) (low_not u (level_of sp u + 1) (omega arith))
          ∙ ap (λ xs. xs ++ block ∷ []) (append-nil (get_or old u []))
          ∙ ap (λ b. get_or old u [] ++ cond b (block ∷ []) []) (sym (high_is u (level_of sp u) (omega arith) ∙ (c.next u refl).1))
          ∙ ap (λ m. get_or old u [] ++ cond (is_met sp block m u) (block ∷ []) []) (sym level)

      elsewhere : (p : ℕ) → p ≢ u → is_met sp block (level_of sp u + 1) p ≡ is_met sp block (level_of sp u) p
      elsewhere p ne = elim (cases_lt (level_of sp p) (level_of sp u)) [
        | inl lt ↦ low_not p _ (omega arith) ∙ sym (low_not p _ lt)
        | inr le ↦ elim (cases_eq (level_of sp p) (level_of sp u)) [
          | inl level ↦
              low_not p _ (omega arith)
              ∙ sym (high_is p _ le ∙ elim (cases_Bool (is_over sp p block sp.depth)) [ inl is ↦ absurd (ne (one_over p u level is (c.next u refl).1)) | inr is ↦ is ])
          | inr more ↦ high_is p _ (omega arith) ∙ sym (high_is p _ le)
        ]
      ]

  pub climb_end : (old lists : List (List ℕ)) → Climbs sp block old lists None
      → (length lists ≡ length old) × ((u : ℕ) → u < length sp.units → get_or lists u [] ≡ get_or old u [] ++ cond (is_over sp u block sp.depth) (block ∷ []) [])
  climb_end old lists c = (c.whole, λ u low. c.each u low ∙ ap (λ b. get_or old u [] ++ cond b (block ∷ []) []) (high_is u 0 (omega arith)))

both_kept : (b c : Bool) (p : ℕ → Bool) (x : ℕ) (ys zs : List ℕ) → c ≡ p x → ys ≡ filter p zs → cond (cond b c false) (x ∷ ys) ys ≡ filter p (cond b (x ∷ zs) zs)
both_kept true c p x ys zs e h = ap (λ d. cond d (x ∷ ys) ys) e ∙ ap (λ xs. cond (p x) (x ∷ xs) xs) h
both_kept false c p x ys zs e h = h

-- two tests at once
pub filter_both : (p q : ℕ → Bool) (xs : List ℕ) → filter (λ x. cond (q x) (p x) false) xs ≡ filter p (filter q xs)
filter_both p q [] = refl
filter_both p q (x ∷ xs) = both_kept (q x) (p x) p x (filter (λ y. cond (q y) (p y) false) xs) (filter q xs) refl (filter_both p q xs)

-- whether a unit is one of the blocks of another
abbrev pub is_block_of : Spine → ℕ → ℕ → Bool
is_block_of sp u v = cond (is_at sp (sp.depth - 1) v) (is_over sp u v sp.depth) false

module _ (sp : Spine) (k : ℕ) where
  pub block_is : (p : ℕ) → level_of sp k ≡ sp.depth - 1 → is_block_of sp p k ≡ is_over sp p k sp.depth
  block_is p e = ap (λ b. cond b (is_over sp p k sp.depth) false) (at_yes sp k (sp.depth - 1) e)

  pub block_not : (p : ℕ) → (level_of sp k ≡ sp.depth - 1 → ⊥) → is_block_of sp p k ≡ false
  block_not p ne = ap (λ b. cond b (is_over sp p k sp.depth) false) (ne_eqb (level_of sp k) (sp.depth - 1) ne)

-- the lists that the tests give are the units' blocks
pub blocks_are : (sp : Spine) (n : ℕ) (lists : List (List ℕ)) → n ≡ length sp.units → Grouped (is_block_of sp) (length sp.units) n lists → lists ≡ block_lists sp
blocks_are sp n lists e g =
    fill_by_all (blocks_of sp) lists (length sp.units) [] g.whole
    (λ u low. g.each u low ∙ ap (λ m. filter (is_block_of sp u) (range_with_len 0 m)) e
    ∙ filter_both (λ v. is_over sp u v sp.depth) (is_at sp (sp.depth - 1)) (range_with_len 0 (length sp.units)))
