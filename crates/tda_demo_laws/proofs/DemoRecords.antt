-- The demo's records are accepted, for each list of words, on each sound spine.
use Rattle.std.proofs.Common.{◌≡◌, ℕ, zero, suc, ◌+◌, ◌-◌, ◌/◌, ◌%◌, ◌<◌, ◌≤◌, Bool, true, false, ◌&&◌, ◌||◌, cond, List, [], ◌∷◌, ◌++◌, map, Option, Some, None, Ok, refl, sym, ap, arith, position}
use Rattle.std.specs.Prelude.{◌==◌}
use Rattle.std.specs.List.{flat_map, range_with_len, AllByRecursion, list_all}
use Rattle.std.specs.Str.{bytes_eq}
use Rattle.std.proofs.lemmas.Bool.{eqb-true}
use Rattle.std.proofs.lemmas.List.Elements.{filter_passes}
use Rattle.tda_io.specs.Texts.{name_test}
use Rattle.tda_model.specs.Cells.{is_possible, value_at}
use Rattle.tda_model.specs.Spine.{Spine, level_of, is_at, unit_numbers}
use Rattle.tda_schema.specs.Readers.{values_of}
use Rattle.tda_spine.specs.Counts.{is_named}
use Rattle.tda_spine.specs.Sound.{IsSound}
use Rattle.tda_invar.proofs.UnitLemmas.{units_within}
use Rattle.tda_records.specs.Records.{read, IsRecordOf, IsBlock}
use Rattle.tda_records.proofs.Ranges.{each_passes}
use Rattle.tda_demo.specs.Schema.{schema}
use Rattle.tda_demo.specs.Names.{value_name}
use Rattle.tda_demo_laws.specs.RecordsText.{records_text}
use Rattle.tda_demo.specs.Facilities.{has_dormitory, has_prison, block_count, block_unit}
use Rattle.tda_demo.specs.Persons.{cell, drawn, residents, further, first_word, drawn_persons, block_persons}
use Rattle.tda_demo_laws.specs.DemoRecords.{block_records, records}
use Rattle.tda_demo_laws.proofs.RecordsBack.{records_back, HasValues}

-- ---- the schema's values
some_named : (n : ℕ) (o : Option ℕ) → is_named n o ≡ true → o ≡ Some n
some_named n (Some m) e = ap Some (sym (eqb-true n m e))
some_named n None e = cc

abbrev value_found : ℕ → ℕ → Bool
value_found c a = is_named (value_at schema c a) (position (λ v. bytes_eq v (value_name schema a (value_at schema c a))) (values_of schema a))

abbrev value_fits : ℕ → ℕ → Bool
value_fits c a = name_test 32 (value_name schema a (value_at schema c a))

pub has_values : HasValues schema
has_values = record {
  some = omega arith;
  names = (refl, (refl, (refl, tt)));
  values = λ c a lc la. some_named (value_at schema c a) _ (each_passes (value_found c) 3 (each_passes (λ d. list_all (value_found d) (range_with_len 0 3)) 12 refl c lc) a la);
  texts = λ c a lc la. each_passes (value_fits c) 3 (each_passes (λ d. list_all (value_fits d) (range_with_len 0 3)) 12 refl c lc) a la;
}

-- ---- persons
-- dormitory, prison: whether the word makes a resident of one; then the tests of sex and age
fits : (a b s t : Bool) → is_possible schema (cell (cond a 1 (cond b 2 0)) (cond s 0 1) (cond ((cond a 1 (cond b 2 0) == 2) || t) 1 0)) ≡ true
fits true b true true = refl
fits true b true false = refl
fits true b false true = refl
fits true b false false = refl
fits false true true true = refl
fits false true true false = refl
fits false true false true = refl
fits false true false false = refl
fits false false true true = refl
fits false false true false = refl
fits false false false true = refl
fits false false false false = refl

pub drawn_possible : (d p : Bool) (v : ℕ) → is_possible schema (drawn d p v) ≡ true
drawn_possible d p v = fits ((v % 8 == 0) && d) ((v % 8 == 1) && p) (v / 8 % 2 == 0) (v / 16 % 2 == 1)

residents_possible : (d p : Bool) → AllByRecursion (λ c. is_possible schema c ≡ true) (residents d p)
residents_possible true true = (refl, (refl, tt))
residents_possible true false = (refl, tt)
residents_possible false true = (refl, tt)
residents_possible false false = tt

each_append : {X : Type 0} (P : X → Type 0) (xs ys : List X) → AllByRecursion P xs → AllByRecursion P ys → AllByRecursion P (xs ++ ys)
each_append P [] ys h k = k
each_append P (x ∷ xs) ys h k = (h.0, each_append P xs ys h.1 k)

each_map : {X Y : Type 0} (P : Y → Type 0) (f : X → Y) (xs : List X) → AllByRecursion (λ x. P (f x)) xs → AllByRecursion P (map f xs)
each_map P f [] h = tt
each_map P f (x ∷ xs) h = (h.0, each_map P f xs h.1)

each_of : {X : Type 0} (P : X → Type 0) (xs : List X) → ((x : X) → P x) → AllByRecursion P xs
each_of P [] h = tt
each_of P (x ∷ xs) h = (h x, each_of P xs h)

pub each_flat : {X : Type 0} (P : X → Type 0) (f : ℕ → List X) (a n : ℕ) → ((i : ℕ) → a ≤ i → i < a + n → AllByRecursion P (f i)) → AllByRecursion P (flat_map f (range_with_len a n))
each_flat P f a zero h = tt
each_flat P f a (suc n) h = each_append P (f a) _ (h a (omega arith) (omega arith)) (each_flat P f (a + 1) n (λ i lo hi. h i (omega arith) (omega arith)))

module _ (sp : Spine) where
  -- each block is one
  pub block_is : (i : ℕ) → i < block_count sp → IsBlock sp (block_unit sp i)
  block_is i below = record {
    here = units_within sp (sp.depth - 1) i 0 below;
    last = eqb-true (level_of sp (block_unit sp i)) (sp.depth - 1) (filter_passes (is_at sp (sp.depth - 1)) (unit_numbers sp) i 0 below);
  }

  module _ (words : ℕ → ℕ) where
    persons_possible : (i : ℕ) → AllByRecursion (λ c. is_possible schema c ≡ true) (block_persons words i)
    persons_possible i =
        each_append (λ c. is_possible schema c ≡ true) (residents (has_dormitory i) (has_prison i)) (drawn_persons words i) (residents_possible (has_dormitory i) (has_prison i))
        (each_map (λ c. is_possible schema c ≡ true) _ (range_with_len (first_word words i + 1) (further words (first_word words i))) (each_of _ _ (λ place. drawn_possible (has_dormitory i) (has_prison i) (words place))))

    weaker : {X : Type 0} (P Q : X → Type 0) (xs : List X) → ((x : X) → P x → Q x) → AllByRecursion P xs → AllByRecursion Q xs
    weaker P Q [] f h = tt
    weaker P Q (x ∷ xs) f h = (f x h.0, weaker P Q xs f h.1)

    pub are_records : AllByRecursion (IsRecordOf schema sp) (records sp words)
    are_records =
        each_flat (IsRecordOf schema sp) (block_records sp words) 0 (block_count sp) (λ i lo hi.
        each_map (IsRecordOf schema sp) (λ c. record { block = block_unit sp i; cell = c }) (block_persons words i)
        (weaker (λ c. is_possible schema c ≡ true) _ (block_persons words i) (λ c is. record { block = block_is i (omega (arith, hi)); possible = is }) (persons_possible i)))

    pub records_accepted : IsSound sp → read schema sp (records_text schema sp (records sp words)) ≡ Ok (records sp words)
    records_accepted sound = records_back schema sp sound has_values (records sp words) are_records
