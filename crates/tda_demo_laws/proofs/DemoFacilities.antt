-- The demo's facilities are accepted, on each sound spine, and each block has those that stand in it.
use Rattle.std.proofs.Common.{◌≡◌, ℕ, zero, suc, ◌+◌, ◌-◌, ◌<◌, ◌≤◌, Bool, true, false, List, [], ◌∷◌, ◌++◌, length, get_or, map, Some, Ok, refl, arith}
use Rattle.std.specs.List.{flat_map, range_with_len, AllByRecursion}
use Rattle.tda_io.specs.Texts.{name_test}
use Rattle.tda_model.specs.Spine.{Spine, units_at, is_at, unit_numbers}
use Rattle.tda_model.proofs.Sums.{Each, Ascends, range_ascends, filter_ascends}
use Rattle.tda_spine.specs.Sound.{IsSound}
use Rattle.tda_invar.specs.Facilities.{kind_named, read}
use Rattle.tda_records.specs.Records.{IsBlock}
use Rattle.tda_demo.specs.Schema.{schema}
use Rattle.tda_demo.specs.Names.{value_name}
use Rattle.tda_demo_laws.specs.FacilitiesText.{Entry, entries_text}
use Rattle.tda_demo.specs.Facilities.{has_dormitory, has_prison, kinds_where, facility_kinds, block_count, block_unit}
use Rattle.tda_demo_laws.specs.DemoEntries.{block_facilities, facilities}
use Rattle.tda_demo_laws.proofs.FacilitiesBack.{facilities_back, table, HasKindNames, IsEntry, IsOther, AreOnce}
use Rattle.tda_demo_laws.proofs.DemoRecords.{block_is, each_flat}

pub kind_names : HasKindNames schema
kind_names = record { named = named; texts = texts }
  where
    named : (k : ℕ) → k < 3 → kind_named schema (value_name schema 0 k) ≡ Some k
    named zero l = refl
    named (suc zero) l = refl
    named (suc (suc zero)) l = refl
    named (suc (suc (suc k))) l = absurd (omega arith)

    texts : (k : ℕ) → k < 3 → name_test 32 (value_name schema 0 k) ≡ true
    texts zero l = refl
    texts (suc zero) l = refl
    texts (suc (suc zero)) l = refl
    texts (suc (suc (suc k))) l = absurd (omega arith)

-- ---- each once
once_append : (xs ys : List Entry) → AreOnce xs → AreOnce ys → AllByRecursion (λ e. AllByRecursion (λ f. IsOther e f) ys) xs → AreOnce (xs ++ ys)
once_append [] ys hx hy cross = hy
once_append (x ∷ xs) ys hx hy cross = (both xs hx.0, once_append xs ys hx.1 hy cross.1)
  where
    both : (zs : List Entry) → AllByRecursion (λ f. IsOther x f) zs → AllByRecursion (λ f. IsOther x f) (zs ++ ys)
    both [] h = cross.0
    both (z ∷ zs) h = (h.0, both zs h.1)

each_of : {X : Type 0} (P : X → Type 0) (xs : List X) → ((x : X) → P x) → AllByRecursion P xs
each_of P [] h = tt
each_of P (x ∷ xs) h = (h x, each_of P xs h)

each_map : {X Y : Type 0} (P : Y → Type 0) (f : X → Y) (xs : List X) → AllByRecursion (λ x. P (f x)) xs → AllByRecursion P (map f xs)
each_map P f [] h = tt
each_map P f (x ∷ xs) h = (h.0, each_map P f xs h.1)

-- later elements of a list that ascends are greater
each_at : (P : ℕ → Type 0) (xs : List ℕ) (i : ℕ) → Each P xs → i < length xs → P (get_or xs i 0)
each_at P [] i h l = absurd (omega arith)
each_at P (x ∷ xs) zero h l = h.0
each_at P (x ∷ xs) (suc i) h l = each_at P xs i h.1 (omega arith)

rises : (xs : List ℕ) (i j : ℕ) → Ascends xs → i < j → j < length xs → get_or xs i 0 < get_or xs j 0
rises [] i j up l below = absurd (omega arith)
rises (x ∷ xs) i zero up l below = absurd (omega arith)
rises (x ∷ xs) zero (suc j) up l below = each_at (λ y. x < y) xs j up.0 (omega arith)
rises (x ∷ xs) (suc i) (suc j) up l below = rises xs i j up.1 (omega arith) (omega arith)

module _ (sp : Spine) where
  other_blocks : (i j : ℕ) → i < j → j < block_count sp → block_unit sp i ≡ block_unit sp j → ⊥
  other_blocks i j l below e =
      let up = rises (units_at sp (sp.depth - 1)) i j (filter_ascends (is_at sp (sp.depth - 1)) (unit_numbers sp) (range_ascends 0 (length sp.units))) l below in
      omega (arith, up, e)

  block_once : (i : ℕ) → AreOnce (block_facilities sp i)
  block_once i = by (has_dormitory i) (has_prison i)
    where
      by : (d p : Bool) → AreOnce (map (λ kind. record { unit = block_unit sp i; kind = kind; count = 1 }) (kinds_where d p))
      by true true = (((λ u k. omega (arith, k)), tt), (tt, tt))
      by true false = (tt, tt)
      by false true = (tt, tt)
      by false false = tt

  all_once : (a n : ℕ) → a + n ≤ block_count sp → AreOnce (flat_map (block_facilities sp) (range_with_len a n))
  all_once a zero few = tt
  all_once a (suc n) few =
      once_append (block_facilities sp a) (flat_map (block_facilities sp) (range_with_len (a + 1) n)) (block_once a) (all_once (a + 1) n (omega arith))
      (each_map (λ e. AllByRecursion (λ f. IsOther e f) (flat_map (block_facilities sp) (range_with_len (a + 1) n))) _ (facility_kinds a)
      (each_of _ (facility_kinds a) (λ kind.
      each_flat (λ f. IsOther (let e : Entry = record { unit = block_unit sp a; kind = kind; count = 1 } in e) f) (block_facilities sp) (a + 1) n (λ j lo hi.
      each_map _ _ (facility_kinds j) (each_of _ (facility_kinds j) (λ other u k. other_blocks a j (omega arith) (omega (arith, hi, few)) u))))))

  pub are_entries : AllByRecursion (IsEntry schema sp) (facilities sp)
  are_entries =
      each_flat (IsEntry schema sp) (block_facilities sp) 0 (block_count sp) (λ i lo hi. by i (block_is sp i (omega (arith, hi))) (has_dormitory i) (has_prison i))
    where
      entry : (i kind : ℕ) → IsBlock sp (block_unit sp i) → 1 ≤ kind → kind < 3 → IsEntry schema sp (record { unit = block_unit sp i; kind = kind; count = 1 })
      entry i kind h some few = record { block = h; some = some; kind = few; few = omega arith }

      by : (i : ℕ) → IsBlock sp (block_unit sp i) → (d p : Bool) → AllByRecursion (IsEntry schema sp) (map (λ kind. record { unit = block_unit sp i; kind = kind; count = 1 }) (kinds_where d p))
      by i h true true = (entry i 1 h (omega arith) (omega arith), (entry i 2 h (omega arith) (omega arith), tt))
      by i h true false = (entry i 1 h (omega arith) (omega arith), tt)
      by i h false true = (entry i 2 h (omega arith) (omega arith), tt)
      by i h false false = tt

  pub facilities_accepted : (sound : IsSound sp) → read schema sp (entries_text schema sp (facilities sp)) ≡ Ok (table schema sp sound kind_names (facilities sp))
  facilities_accepted sound = facilities_back schema sp sound kind_names (facilities sp) are_entries (all_once 0 (block_count sp) (omega arith))
