-- Numbers below a count that are marked, in sets by their keys: a loop puts each number into the set of its key.
use Rattle.std.proofs.Common.{◌≡◌, ◌==◌, ℕ, ◌+◌, ◌<◌, Bool, true, false, ◌&&◌, List, [], ◌∷◌, ◌++◌, length, get_or, set, map, filter, refl, sym, ap, ◌∙◌, arith, inl, inr}
use Rattle.std.specs.List.{range_with_len}
use Rattle.std.proofs.lemmas.Bool.{and_from, and_left, and_right, cases_eq, eq-eqb, ne_eqb}
use Rattle.std.proofs.lemmas.List.{length-set, get_or-set_same, get_or-set_other, get_or_read}
use Rattle.std.proofs.lemmas.List.FromFn.{length-map-range_with_len, get_or-map-range_with_len, fill_by_all}
use Rattle.tda_sets.proofs.Ranges.{filter-filter, filter_range_push, filter_range_skip, map_range_agree}

module _ (marked : ℕ → Bool) (key : ℕ → ℕ) where
  abbrev pub goes_to : ℕ → ℕ → Bool
  goes_to k j = marked j && (key j == k)

  -- the marked numbers below a count that have the key
  abbrev pub bucket : ℕ → ℕ → List ℕ
  bucket n k = filter (goes_to k) (range_with_len 0 n)

  pub bucket_is : (n k : ℕ) → bucket n k ≡ filter (λ j. key j == k) (filter marked (range_with_len 0 n))
  bucket_is n k = sym (filter-filter (λ j. key j == k) marked (range_with_len 0 n))

  module _ (bound : ℕ) where
    abbrev pub buckets : ℕ → List (List ℕ)
    buckets n = map (bucket n) (range_with_len 0 bound)

    pub buckets_skip : (n : ℕ) → marked n ≡ false → buckets n ≡ buckets (n + 1)
    buckets_skip n fails = map_range_agree (bucket n) (bucket (n + 1)) 0 bound (λ k low high. sym (filter_range_skip (goes_to k) n (and_left (marked n) (key n == k) fails)))

    pub buckets_more : (n : ℕ) → marked n ≡ true → key n < bound → set (buckets n) (key n) (get_or (buckets n) (key n) [] ++ n ∷ []) ≡ buckets (n + 1)
    buckets_more n yes' below =
        let xs = get_or (buckets n) (key n) [] ++ n ∷ [] in
        let at : (k : ℕ) → k < bound → get_or (buckets n) k [] ≡ bucket n k = λ k low. get_or-map-range_with_len (bucket n) 0 bound k k [] low (omega arith) in
        fill_by_all (bucket (n + 1)) (set (buckets n) (key n) xs) bound [] (length-set (buckets n) (key n) xs ∙ length-map-range_with_len (bucket n) 0 bound)
        (λ k low. elim (cases_eq k (key n)) [
          | inl here ↦
              ap (λ z. get_or (set (buckets n) (key n) xs) z []) here
              ∙ get_or-set_same (buckets n) (key n) xs [] (omega (arith, length-map-range_with_len (bucket n) 0 bound))
              ∙ ap (λ ys. ys ++ n ∷ []) (at (key n) below)
              ∙ sym (filter_range_push (goes_to (key n)) n (and_from (marked n) (key n == key n) yes' (eq-eqb (key n) (key n) refl)))
              ∙ ap (λ z. bucket (n + 1) z) (sym here)
          | inr other ↦
              get_or-set_other (buckets n) (key n) k xs [] other ∙ at k low
              ∙ sym (filter_range_skip (goes_to k) n (and_right (marked n) (key n == k) (ne_eqb (key n) k (λ e. other (sym e)))))
        ])

    -- a loop's step: the number goes to the end of the set of its key
    pub buckets_put : (n k : ℕ) (before after : List (List ℕ)) (old new : List ℕ) → marked n ≡ true → k ≡ key n → key n < bound → before ≡ buckets n
        → old ≡ get_or before k old → new ≡ old ++ n ∷ [] → after ≡ set before k new → after ≡ buckets (n + 1)
    buckets_put n k before after old new yes' at below is was put wrote =
        let size : length before ≡ bound = ap length is ∙ length-map-range_with_len (bucket n) 0 bound in
        let first : old ≡ get_or before (key n) [] = get_or_read before k old (omega arith) was [] ∙ ap (λ i. get_or before i []) at in
        wrote ∙ ap (λ i. set before i new) at ∙ ap (λ zs. set before (key n) zs) (put ∙ ap (λ zs. zs ++ n ∷ []) first)
        ∙ ap (λ bs. set bs (key n) (get_or bs (key n) [] ++ n ∷ [])) is ∙ buckets_more n yes' below

    pub buckets_all : (n : ℕ) → buckets n ≡ map (λ k. filter (λ j. key j == k) (filter marked (range_with_len 0 n))) (range_with_len 0 bound)
    buckets_all n = map_range_agree (bucket n) (λ k. filter (λ j. key j == k) (filter marked (range_with_len 0 n))) 0 bound (λ k low high. bucket_is n k)
