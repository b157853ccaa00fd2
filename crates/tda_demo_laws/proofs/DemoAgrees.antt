-- The demo's records agree with its facilities: a dormitory and a prison have a resident, and only they have further ones.
use Rattle.std.proofs.Common.{◌≡◌, ℕ, zero, suc, ◌+◌, ◌/◌, ◌%◌, ◌<◌, ◌≤◌, Bool, true, false, ◌&&◌, ◌||◌, ◌==◌, cond, List, [], ◌∷◌, ◌++◌, map, Some, option_map, unwrap_or, find, Ok, refl, sym, ap, ◌∙◌, arith, inl, inr}
use Rattle.std.specs.List.{flat_map, range_with_len, list_any, AllByRecursion}
use Rattle.std.proofs.lemmas.Bool.{cases_Bool, eqb-true}
use Rattle.std.proofs.lemmas.List.Folds.{list_any-append}
use Rattle.tda_model.specs.Cells.{kind_of}
use Rattle.tda_model.specs.Groups.{kind_count}
use Rattle.tda_model.specs.Spine.{Spine}
use Rattle.tda_schema.proofs.WholeLemmas.{cell_of_possible}
use Rattle.tda_spine.specs.Sound.{IsSound}
use Rattle.tda_records.specs.Records.{IsRecordOf, IsBlock}
use Rattle.tda_records.specs.declared.records.Record.{Record}
use Rattle.tda_out.specs.Counts.{count_at, counts_of}
use Rattle.tda_hist.specs.Agreement.{agree_due}
use Rattle.tda_hist.specs.TrueTable.{true_count}
use Rattle.tda_demo.specs.Schema.{schema}
use Rattle.tda_demo_laws.specs.FacilitiesText.{Entry, is_of, count_of}
use Rattle.tda_demo.specs.Facilities.{has_dormitory, has_prison, kinds_where, facility_kinds, block_count, block_unit}
use Rattle.tda_demo_laws.specs.DemoEntries.{block_facilities, facilities}
use Rattle.tda_demo.specs.Persons.{cell, drawn, residents, further, first_word, drawn_persons, block_persons}
use Rattle.tda_demo_laws.specs.DemoRecords.{block_records, records}
use Rattle.tda_demo_laws.proofs.CountedAgree.{counted_agrees}
use Rattle.tda_demo_laws.proofs.FacilitiesBack.{table, number_is}
use Rattle.tda_demo_laws.proofs.DemoRecords.{are_records}
use Rattle.tda_demo_laws.proofs.DemoFacilities.{are_entries, kind_names}
use Rattle.tda_demo_laws.proofs.AgreeBack.{agree_ok, found_is, none_counted, some_counted, is_person, Agrees, ArePlaced}

-- ---- what some element of lists put together passes
any_same : {X Y : Type 0} (p : X → Bool) (q : Y → Bool) (f : ℕ → List X) (g : ℕ → List Y) (a n : ℕ) → ((i : ℕ) → list_any p (f i) ≡ list_any q (g i))
    → list_any p (flat_map f (range_with_len a n)) ≡ list_any q (flat_map g (range_with_len a n))
any_same p q f g a zero same = refl
any_same p q f g a (suc n) same =
    list_any-append p (f a) (flat_map f (range_with_len (a + 1) n))
    ∙ ap (λ b. b || list_any p (flat_map f (range_with_len (a + 1) n))) (same a)
    ∙ ap (λ b. list_any q (g a) || b) (any_same p q f g (a + 1) n same)
    ∙ sym (list_any-append q (g a) (flat_map g (range_with_len (a + 1) n)))

-- what follows from each element that passes
any_gives : {X : Type 0} (p : X → Bool) (Q : Type 0) (xs : List X) → ((x : X) → p x ≡ true → Q) → list_any p xs ≡ true → Q
any_gives p Q [] f h = absurd cc
any_gives p Q (x ∷ xs) f h = elim (cases_Bool (p x)) [
  | inl e ↦ f x e
  | inr e ↦ any_gives p Q xs f (sym (ap (λ b. b || list_any p xs) e) ∙ h)
]

any_map : {X Y : Type 0} (p : Y → Bool) (f : X → Y) (xs : List X) → list_any p (map f xs) ≡ list_any (λ x. p (f x)) xs
any_map p f [] = refl
any_map p f (x ∷ xs) = ap (λ b. p (f x) || b) (any_map p f xs)

any_and : {X : Type 0} (t : Bool) (p : X → Bool) (xs : List X) → list_any (λ x. t && p x) xs ≡ (t && list_any p xs)
any_and true p [] = refl
any_and false p [] = refl
any_and true p (x ∷ xs) = ap (λ b. p x || b) (any_and true p xs)
any_and false p (x ∷ xs) = any_and false p xs

none_any : {X : Type 0} (p : X → Bool) (xs : List X) → list_any p xs ≡ false → AllByRecursion (λ x. p x ≡ false) xs
none_any p [] h = tt
none_any {X} p (x ∷ xs) h = let parts = or_parts (p x) (list_any p xs) h in (parts.0, none_any p xs parts.1)
  where
    or_parts : (a b : Bool) → (a || b) ≡ false → (a ≡ false) × (b ≡ false)
    or_parts true b e = cc
    or_parts false true e = cc
    or_parts false false e = (refl, refl)

-- ---- of one block: its kinds, and those of its persons
abbrev stands : ℕ → Bool → Bool → Bool
stands k d p = list_any (λ kind. k == kind) (kinds_where d p)

kinds_of_residents : (d p : Bool) → map (kind_of schema) (residents d p) ≡ kinds_where d p
kinds_of_residents true true = refl
kinds_of_residents true false = refl
kinds_of_residents false true = refl
kinds_of_residents false false = refl

residents_stand : (k : ℕ) (d p : Bool) → list_any (λ c. k == kind_of schema c) (residents d p) ≡ stands k d p
residents_stand k d p = sym (any_map (λ kind. k == kind) (kind_of schema) (residents d p)) ∙ ap (list_any (λ kind. k == kind)) (kinds_of_residents d p)

-- a person that a word makes lives in a household, or where its kind stands
kind_drawn : (m n d p s t : Bool) → (let k : ℕ = cond (m && d) 1 (cond (n && p) 2 0) in kind_of schema (cell k (cond s 0 1) (cond ((k == 2) || t) 1 0)) ≡ k)
kind_drawn m n d p s t = by (m && d) (n && p) s t
  where
    by : (a b s t : Bool) → kind_of schema (cell (cond a 1 (cond b 2 0)) (cond s 0 1) (cond ((cond a 1 (cond b 2 0) == 2) || t) 1 0)) ≡ cond a 1 (cond b 2 0)
    by true b true true = refl
    by true b true false = refl
    by true b false true = refl
    by true b false false = refl
    by false true true true = refl
    by false true true false = refl
    by false true false true = refl
    by false true false false = refl
    by false false true true = refl
    by false false true false = refl
    by false false false true = refl
    by false false false false = refl

drawn_stands : (k : ℕ) (d p : Bool) (v : ℕ) → 1 ≤ k → (k == kind_of schema (drawn d p v)) ≡ true → stands k d p ≡ true
drawn_stands k d p v some is =
    by (v % 8 == 0) (v % 8 == 1) d p (sym (ap (λ kind. k == kind) (kind_drawn (v % 8 == 0) (v % 8 == 1) d p (v / 8 % 2 == 0) (v / 16 % 2 == 1))) ∙ is)
  where
    zero_not : (k == 0) ≡ true → ⊥
    zero_not e = let z = eqb-true k 0 e in omega arith

    first : (e : (k == 1) ≡ true) (rest : Bool) → ((k == 1) || rest) ≡ true
    first e rest = ap (λ b. b || rest) e

    by : (m n d p : Bool) → (k == cond (m && d) 1 (cond (n && p) 2 0)) ≡ true → stands k d p ≡ true
    by true n true p e = one p e
      where
        one : (p : Bool) → (k == 1) ≡ true → stands k true p ≡ true
        one true e = ap (λ b. b || ((k == 2) || false)) e
        one false e = ap (λ b. b || false) e
    by true true false true e = ap (λ b. b || false) e
    by true true false false e = absurd (zero_not e)
    by true false false p e = absurd (zero_not e)
    by false true d true e = two d e
      where
        two : (d : Bool) → (k == 2) ≡ true → stands k d true ≡ true
        two true e = ap (λ b. (k == 1) || (b || false)) e ∙ or_true (k == 1)
          where
            or_true : (b : Bool) → (b || true) ≡ true
            or_true true = refl
            or_true false = refl
        two false e = ap (λ b. b || false) e
    by false true d false e = absurd (zero_not e)
    by false false d p e = absurd (zero_not e)

persons_stand : (words : ℕ → ℕ) (i k : ℕ) → 1 ≤ k → list_any (λ c. k == kind_of schema c) (block_persons words i) ≡ stands k (has_dormitory i) (has_prison i)
persons_stand words i k some =
    let test : ℕ → Bool = λ c. k == kind_of schema c in
    list_any-append test (residents (has_dormitory i) (has_prison i)) (drawn_persons words i)
    ∙ ap (λ b. b || list_any test (drawn_persons words i)) (residents_stand k (has_dormitory i) (has_prison i))
    ∙ by (stands k (has_dormitory i) (has_prison i)) (list_any test (drawn_persons words i)) (λ h.
    any_gives (λ place. test (drawn (has_dormitory i) (has_prison i) (words place))) (stands k (has_dormitory i) (has_prison i) ≡ true)
    (range_with_len (first_word words i + 1) (further words (first_word words i)))
    (λ place e. drawn_stands k (has_dormitory i) (has_prison i) (words place) some e)
    (sym (any_map test (λ place. drawn (has_dormitory i) (has_prison i) (words place)) (range_with_len (first_word words i + 1) (further words (first_word words i)))) ∙ h))
  where
    by : (a b : Bool) → (b ≡ true → a ≡ true) → (a || b) ≡ a
    by true b h = refl
    by false true h = sym (h refl)
    by false false h = refl

-- ---- all blocks
abbrev one_where : Bool → ℕ
one_where b = cond b 1 0

one_each : (b k : ℕ) (es : List Entry) → AllByRecursion (λ e. e.count ≡ 1) es → count_of es b k ≡ one_where (list_any (is_of b k) es)
one_each b k [] h = refl
one_each b k (e ∷ es) h = by (is_of b k e) (one_each b k es h.1)
  where
    by : (t : Bool) → count_of es b k ≡ one_where (list_any (is_of b k) es)
        → unwrap_or (option_map (λ f. f.count) (cond t (Some e) (find (is_of b k) es))) 0 ≡ one_where (t || list_any (is_of b k) es)
    by true rest = h.0
    by false rest = rest

each_append : {X : Type 0} (P : X → Type 0) (xs ys : List X) → AllByRecursion P xs → AllByRecursion P ys → AllByRecursion P (xs ++ ys)
each_append P [] ys h k = k
each_append P (x ∷ xs) ys h k = (h.0, each_append P xs ys h.1 k)

module _ (sp : Spine) (sound : IsSound sp) (words : ℕ → ℕ) where
  ones : (a n : ℕ) → AllByRecursion (λ e. e.count ≡ 1) (flat_map (block_facilities sp) (range_with_len a n))
  ones a zero = tt
  ones a (suc n) = each_append (λ e. e.count ≡ 1) (block_facilities sp a) (flat_map (block_facilities sp) (range_with_len (a + 1) n)) (own (facility_kinds a)) (ones (a + 1) n)
    where
      own : (kinds : List ℕ) → AllByRecursion (λ e. e.count ≡ 1) (map (λ kind. let e : Entry = record { unit = block_unit sp a; kind = kind; count = 1 } in e) kinds)
      own [] = tt
      own (kind ∷ kinds) = (refl, own kinds)

  -- a facility of a kind stands in a unit where persons of that kind live there
  same_block : (b k i : ℕ) → 1 ≤ k → list_any (is_of b k) (block_facilities sp i) ≡ list_any (is_person schema b k) (block_records sp words i)
  same_block b k i some =
      any_map (is_of b k) (λ kind. record { unit = block_unit sp i; kind = kind; count = 1 }) (facility_kinds i)
      ∙ any_and (b == block_unit sp i) (λ kind. k == kind) (facility_kinds i)
      ∙ ap (λ t. (b == block_unit sp i) && t) (sym (persons_stand words i k some))
      ∙ sym (any_and (b == block_unit sp i) (λ c. k == kind_of schema c) (block_persons words i))
      ∙ sym (any_map (is_person schema b k) (λ c. record { block = block_unit sp i; cell = c }) (block_persons words i))

  placed : (rs : List Record) → AllByRecursion (IsRecordOf schema sp) rs → ArePlaced schema sp rs
  placed [] h = tt
  placed (r ∷ rs) h = ((h.0.block, cell_of_possible schema r.cell h.0.possible), placed rs h.1)

  agrees : (b k : ℕ) → IsBlock sp b → 1 ≤ k → k < kind_count schema → Agrees schema (table schema sp sound kind_names (facilities sp)) (true_count sp (records sp words)) b k
  agrees b k block some low =
      let same : list_any (is_of b k) (facilities sp) ≡ list_any (is_person schema b k) (records sp words) =
      any_same (is_of b k) (is_person schema b k) (block_facilities sp) (block_records sp words) 0 (block_count sp) (λ i. same_block b k i some) in
      let number = number_is schema sp sound kind_names (facilities sp) (are_entries sp) b k block.here low
      ∙ one_each b k (facilities sp) (ones 0 (block_count sp)) ∙ ap one_where same in
      let people = found_is schema sp sound.tree (records sp words) b k block (placed (records sp words) (are_records sp words)) in
      elim (cases_Bool (list_any (is_person schema b k) (records sp words))) [
        | inl e ↦
            let one = number ∙ ap one_where e in
            let some_one = some_counted (is_person schema b k) (records sp words) e in
            record { enough = omega arith; nobody = λ z. omega (arith, z) }
        | inr e ↦
            let zero_of = number ∙ ap one_where e in
            let nobody = none_counted (is_person schema b k) (records sp words) (none_any (is_person schema b k) (records sp words) e) in
            record { enough = omega arith; nobody = λ z. omega arith }
      ]

  pub demo_agrees : agree_due schema sp (table schema sp sound kind_names (facilities sp)) (true_count sp (records sp words)) ≡ Ok tt
  demo_agrees = agree_ok schema sp (table schema sp sound kind_names (facilities sp)) (true_count sp (records sp words)) agrees

  pub counts_agree : agree_due schema sp (table schema sp sound kind_names (facilities sp)) (count_at (counts_of schema sp (true_count sp (records sp words)))) ≡ Ok tt
  counts_agree =
      agree_ok schema sp (table schema sp sound kind_names (facilities sp)) (count_at (counts_of schema sp (true_count sp (records sp words))))
      (λ b k block some low. counted_agrees schema sp (true_count sp (records sp words)) (table schema sp sound kind_names (facilities sp)) b k block.here (agrees b k block some low))
