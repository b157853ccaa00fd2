-- Units of a level by their codes.
use Rattle.std.proofs.Common.{◌≡◌, ◌≢◌, ℕ, ◌+◌, ◌<◌, Bool, true, false, ◌&&◌, ◌||◌, cond, List, [], ◌∷◌, length, get_or, All, refl, sym, ap, ◌∙◌, inl, inr, arith}
use Rattle.std.proofs.lemmas.Bool.{cases_Bool, cases_lt, eqb-true, eq-eqb}
use Rattle.std.proofs.lemmas.List.Elements.{All-from_get_or, All-filter}
use Rattle.std.proofs.lemmas.List.Folds.{list_any_none, list_any_at}
use Rattle.std.proofs.lemmas.List.FromFn.{length-range_with_len, get_or-range_with_len}
use Rattle.std.specs.Cmp.Lexicographic.{bytes_decides}
use Rattle.std.specs.List.{filter, list_any}
use Rattle.std.specs.Str.{bytes_eq}
use Rattle.tda_model.specs.Spine.{Spine, IsUnit, code_of, level_of, is_at, units_at, unit_numbers}
use Rattle.tda_spine.specs.Sound.{IsSound}
use Rattle.tda_invar.specs.Fields.{is_unit_at, IsNamed}

list_any-filter : {X : Type 0} (p q : X → Bool) (xs : List X) → list_any p (filter q xs) ≡ list_any (λ x. q x && p x) xs
list_any-filter p q [] = refl
list_any-filter {X} p q (x ∷ xs) = by (q x) (list_any-filter p q xs)
  where
    by : (b : Bool) → list_any p (filter q xs) ≡ list_any (λ y. q y && p y) xs
        → list_any p (cond b (x ∷ filter q xs) (filter q xs)) ≡ ((b && p x) || list_any (λ y. q y && p y) xs)
    by true e = ap (λ r. p x || r) e
    by false e = e

-- a code is that of one unit
pub same_unit : (sp : Spine) → IsSound sp → (u v : ℕ) → IsUnit sp u → IsUnit sp v → code_of sp u ≡ code_of sp v → u ≡ v
same_unit sp sound u v in_u in_v same = elim (cases_lt u v) [
  | inl lt ↦ absurd (sound.distinct u v lt in_v same)
  | inr ge ↦ elim (cases_lt v u) [
    | inl gt ↦ absurd (sound.distinct v u gt in_u (sym same))
    | inr le ↦ omega arith
  ]
]

-- another unit has another code
pub other_code : (sp : Spine) → IsSound sp → (u v : ℕ) (text : List ℕ) → IsUnit sp u → IsUnit sp v → code_of sp v ≡ text → u ≢ v → bytes_eq (code_of sp u) text ≡ false
other_code sp sound u v text in_u in_v named other = elim (cases_Bool (bytes_eq (code_of sp u) text)) [
  | inl same ↦
      let code_is : code_of sp u ≡ text = (bytes_decides (code_of sp u) text).0 same in
      absurd (other (same_unit sp sound u v in_u in_v (code_is ∙ sym named)))
  | inr e ↦ e
]

pub own_code : (sp : Spine) (u : ℕ) (text : List ℕ) → code_of sp u ≡ text → bytes_eq (code_of sp u) text ≡ true
own_code sp u text named = (bytes_decides (code_of sp u) text).1 named

module _ (sp : Spine) (level : ℕ) where
  by_range : (text : List ℕ) → is_unit_at sp level text ≡ list_any (λ u. is_at sp level u && bytes_eq text (code_of sp u)) (unit_numbers sp)
  by_range text = list_any-filter (λ u. bytes_eq text (code_of sp u)) (is_at sp level) (unit_numbers sp)

  pub is_unit_yes : (text : List ℕ) (u : ℕ) → IsNamed sp level text u → is_unit_at sp level text ≡ true
  is_unit_yes text u h =
      let len = length-range_with_len 0 (length sp.units) in
      let here = h.here in
      let at : get_or (unit_numbers sp) u 0 ≡ u = get_or-range_with_len 0 (length sp.units) u 0 h.here ∙ omega arith in
      let level_is : is_at sp level u ≡ true = eq-eqb (level_of sp u) level h.at in
      let code_is : bytes_eq text (code_of sp u) ≡ true = (bytes_decides text (code_of sp u)).1 (sym h.named) in
      let both : (is_at sp level u && bytes_eq text (code_of sp u)) ≡ true = rw (level_is, code_is) refl in
      by_range text
      ∙ list_any_at (λ v. is_at sp level v && bytes_eq text (code_of sp v)) (unit_numbers sp) u 0 (omega arith) (rw at both)

  is_unit_no : (text : List ℕ) → ((v : ℕ) → IsNamed sp level text v → ⊥) → is_unit_at sp level text ≡ false
  is_unit_no text none =
      by_range text
      ∙ list_any_none (λ v. is_at sp level v && bytes_eq text (code_of sp v)) (unit_numbers sp)
      (All-from_get_or (λ v. (is_at sp level v && bytes_eq text (code_of sp v)) ≡ false) (unit_numbers sp) 0 (λ i l.
      let len = length-range_with_len 0 (length sp.units) in
      let at : get_or (unit_numbers sp) i 0 ≡ i = get_or-range_with_len 0 (length sp.units) i 0 (omega arith) ∙ omega arith in
      rw at (fails i (omega arith))))
    where
      fails : (v : ℕ) → IsUnit sp v → (is_at sp level v && bytes_eq text (code_of sp v)) ≡ false
      fails v here = elim (cases_Bool (is_at sp level v)) [
        | inl at ↦ elim (cases_Bool (bytes_eq text (code_of sp v))) [
          | inl same ↦ absurd (none v (record { here = here; at = eqb-true (level_of sp v) level at; named = sym ((bytes_decides text (code_of sp v)).0 same) }))
          | inr other ↦ rw (at, other) refl
        ]
        | inr other ↦ rw other refl
      ]

  -- no unit has the code
  pub no_unit : (text : List ℕ) → ((u : ℕ) → IsUnit sp u → code_of sp u ≡ text → ⊥) → is_unit_at sp level text ≡ false
  no_unit text none = is_unit_no text (λ v h. none v h.here h.named)

  -- the unit of the code is of another level
  pub other_level : (text : List ℕ) (u : ℕ) → IsSound sp → IsUnit sp u → code_of sp u ≡ text → level_of sp u ≢ level → is_unit_at sp level text ≡ false
  other_level text u sound here named other = is_unit_no text (λ v h.
      let same : u ≡ v = same_unit sp sound u v here h.here (named ∙ sym h.named) in
      other (ap (level_of sp) same ∙ h.at))

  -- each unit of the level is one
  pub units_within : All (λ u. u < length sp.units) (units_at sp level)
  units_within =
      All-filter (is_at sp level) (λ u. u < length sp.units) (unit_numbers sp)
      (All-from_get_or (λ u. u < length sp.units) (unit_numbers sp) 0 (λ i l.
      let len = length-range_with_len 0 (length sp.units) in
      let at : get_or (unit_numbers sp) i 0 ≡ 0 + i = get_or-range_with_len 0 (length sp.units) i 0 (omega arith) in
      omega arith))
