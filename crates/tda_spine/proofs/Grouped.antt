-- Lists for the numbers below a count, each of the units that pass its test.
use Rattle.std.proofs.Common.{◌≡◌, ◌≢◌, ℕ, zero, suc, ◌+◌, ◌<◌, Bool, true, false, cond, List, [], ◌∷◌, ◌++◌, length, get_or, set, map, refl, sym, ap, ◌∙◌, inl, inr, arith, add-one, get_or-set_same, get_or-set_other, length-set}
use Rattle.std.specs.List.{range_with_len, filter}
use Rattle.std.specs.Global.{Vec}
use Rattle.std.proofs.lemmas.Bool.{cases_eq}
use Rattle.std.proofs.lemmas.List.{map-set, map-append, get_or-map, length-map, append-nil}
use Rattle.std.proofs.lemmas.List.FromFn.{length-map-range_with_len, map-range_with_len_more, get_or-map-range_with_len, fill_by_all}

-- a unit is appended to one of the lists
pub lists_push : (vs : List (Vec ℕ)) (i unit : ℕ) (old new : Vec ℕ) → old ≡ get_or vs i old → i < length (map (λ v. v.items) vs) → new.items ≡ old.items ++ unit ∷ []
    → map (λ v. v.items) (set vs i new) ≡ set (map (λ v. v.items) vs) i (get_or (map (λ v. v.items) vs) i [] ++ unit ∷ [])
lists_push vs i unit old new at lt e =
    let f : Vec ℕ → List ℕ = λ v. v.items in
    let lt2 : i < length vs = omega (arith, length-map vs f) in
    map-set f vs i new
    ∙ ap (λ z. set (map f vs) i z) (e ∙ ap (λ z. z ++ unit ∷ []) (ap f at ∙ sym (get_or-map f vs i old [] lt2)))

-- an empty list is added
pub lists_more : (n : ℕ) (vs : List (Vec ℕ)) (v : Vec ℕ) → map (λ w. w.items) vs ≡ map (λ _. []) (range_with_len 0 n) → v.items ≡ []
    → map (λ w. w.items) (vs ++ v ∷ []) ≡ map (λ _. []) (range_with_len 0 (n + 1))
lists_more n vs v h e =
    map-append (λ w. w.items) vs (v ∷ []) ∙ ap (λ xs. xs ++ v.items ∷ []) h ∙ ap (λ x. map (λ _. []) (range_with_len 0 n) ++ x ∷ []) e
    ∙ sym (map-range_with_len_more (λ _. []) 0 n n (omega arith))

one_more : (b : Bool) (x : ℕ) (xs ys : List ℕ) → cond b (x ∷ (xs ++ ys)) (xs ++ ys) ≡ cond b (x ∷ xs) xs ++ ys
one_more true x xs ys = refl
one_more false x xs ys = refl

filter_suc : (p : ℕ → Bool) (a n j : ℕ) → a + n ≡ j → filter p (range_with_len a (suc n)) ≡ filter p (range_with_len a n) ++ cond (p j) (j ∷ []) []
filter_suc p a zero j e = let h : a ≡ j = omega arith in ap (λ i. cond (p i) (i ∷ []) []) h
filter_suc p a (suc n) j e =
    ap (λ xs. cond (p a) (a ∷ xs) xs) (filter_suc p (a + 1) n j (omega arith)) ∙ one_more (p a) a (filter p (range_with_len (a + 1) n)) (cond (p j) (j ∷ []) [])

-- one number more
pub filter_more : (p : ℕ → Bool) (n : ℕ) → filter p (range_with_len 0 (n + 1)) ≡ filter p (range_with_len 0 n) ++ cond (p n) (n ∷ []) []
filter_more p n = rw (add-one n) (filter_suc p 0 n n (omega arith))

-- the list of each number below the count has those of the first k units that pass its test
pub record Grouped (test : ℕ → ℕ → Bool) (count k : ℕ) (lists : List (List ℕ)) : Type 0 where
  pub whole : length lists ≡ count
  pub each : (p : ℕ) → p < count → get_or lists p [] ≡ filter (test p) (range_with_len 0 k)

module _ (test : ℕ → ℕ → Bool) (count : ℕ) where
  pub grouped_none : (lists : List (List ℕ)) → lists ≡ map (λ _. []) (range_with_len 0 count) → Grouped test count 0 lists
  grouped_none lists e = record {
    whole = ap length e ∙ length-map-range_with_len (λ _. []) 0 count;
    each = λ p lt. ap (λ xs. get_or xs p []) e ∙ get_or-map-range_with_len (λ _. []) 0 count p p [] lt (omega arith);
  }

  pub grouped_more : (k : ℕ) (old new : List (List ℕ)) → Grouped test count k old → length new ≡ length old
      → ((p : ℕ) → p < count → get_or new p [] ≡ get_or old p [] ++ cond (test p k) (k ∷ []) []) → Grouped test count (k + 1) new
  grouped_more k old new g len h = record {
    whole = len ∙ g.whole;
    each = λ p lt. h p lt ∙ ap (λ xs. xs ++ cond (test p k) (k ∷ []) []) (g.each p lt) ∙ sym (filter_more (test p) k);
  }

  -- the unit belongs to one list
  pub grouped_put : (k q : ℕ) (old new : List (List ℕ)) → Grouped test count k old → q < count → test q k ≡ true → ((p : ℕ) → p ≢ q → test p k ≡ false)
      → new ≡ set old q (get_or old q [] ++ k ∷ []) → Grouped test count (k + 1) new
  grouped_put k q old new g lt hit miss e =
      let len : length old ≡ count = g.whole in
      grouped_more k old new g (ap length e ∙ length-set old q _) (λ p low. elim (cases_eq p q) [
        | inl same ↦
            let lt2 : q < length old = omega arith in
            ap (λ xs. get_or xs p []) e ∙ ap (λ i. get_or (set old q (get_or old q [] ++ k ∷ [])) i []) same ∙ get_or-set_same old q _ [] lt2
            ∙ ap (λ b. get_or old q [] ++ cond b (k ∷ []) []) (sym hit)
            ∙ ap (λ i. get_or old i [] ++ cond (test i k) (k ∷ []) []) (sym same)
        | inr ne ↦
            ap (λ xs. get_or xs p []) e ∙ get_or-set_other old q p _ [] ne ∙ sym (append-nil (get_or old p []))
            ∙ ap (λ b. get_or old p [] ++ cond b (k ∷ []) []) (sym (miss p ne))
      ])

  -- the unit belongs to no list
  pub grouped_skip : (k : ℕ) (lists : List (List ℕ)) → Grouped test count k lists → ((p : ℕ) → test p k ≡ false) → Grouped test count (k + 1) lists
  grouped_skip k lists g miss =
      grouped_more k lists lists g refl (λ p low. sym (append-nil (get_or lists p [])) ∙ ap (λ b. get_or lists p [] ++ cond b (k ∷ []) []) (sym (miss p)))

  -- all units are grouped
  pub grouped_all : (k : ℕ) (lists : List (List ℕ)) → Grouped test count k lists → lists ≡ map (λ p. filter (test p) (range_with_len 0 k)) (range_with_len 0 count)
  grouped_all k lists g = fill_by_all (λ p. filter (test p) (range_with_len 0 k)) lists count [] g.whole g.each
