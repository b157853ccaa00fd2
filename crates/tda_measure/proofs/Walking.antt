-- Steps that are taken one list after another.
use Rattle.std.proofs.Common.{◌≡◌, ℕ, suc, ◌+◌, ◌<◌, ◌≤◌, ℤ, List, [], ◌∷◌, ◌++◌, length, take, drop, get_or, refl, sym, ap, ◌∙◌, subst, arith, append_assoc, length-append, add-one, drop-cons}
use Rattle.std.specs.List.{flat_map, range_with_len}
use Rattle.std.proofs.lemmas.List.FromFn.{length-range_with_len}
use Rattle.tda_places.proofs.Nested.{range_at}
use Rattle.std.proofs.lemmas.List.{append-nil, map-append, take_all, take_more, take-append-drop}
use Rattle.std.proofs.lemmas.List.Concat.{flat_map-cons}
use Rattle.std.proofs.lemmas.Grind.{flat_map-append}
use Rattle.tda_frac.specs.Fraction.{Fraction}
use Rattle.tda_measure.specs.Noise.{AreDrawn, StopsAt}
use Rattle.tda_measure.specs.Steps.{Step, variances, AreTaken, Adds, Stops}
use Rattle.tda_measure.specs.declared.stop.MeasureStop.{MeasureStop}

pub drawn_append : (vs us : List Fraction) (ys zs : List ℤ) (w m r : List ℕ) → AreDrawn vs w ys m → AreDrawn us m zs r → AreDrawn (vs ++ us) w (ys ++ zs) r
drawn_append [] us [] zs w m r e d = subst (λ x. AreDrawn us x zs r) (sym e) d
drawn_append [] us (y ∷ ys) zs w m r e d = absurd e
drawn_append (v ∷ vs) us [] zs w m r e d = absurd e
drawn_append (v ∷ vs) us (y ∷ ys) zs w m r (rest, here, later) d = (rest, here, drawn_append vs us ys zs rest m r later d)

pub taken_append : (xs more : List Step) (ms ns : List ℤ) (w m r : List ℕ) → AreTaken xs w ms m → AreTaken more m ns r → AreTaken (xs ++ more) w (ms ++ ns) r
taken_append [] more [] ns w m r e d = subst (λ v. AreTaken more v ns r) (sym e) d
taken_append [] more (n ∷ ms) ns w m r e d = absurd e
taken_append (x ∷ xs) more [] ns w m r e d = absurd e
taken_append (x ∷ xs) more (n ∷ ms) ns w m r (y, rest, here, is, within, later) d = (y, rest, here, is, within, taken_append xs more ms ns rest m r later d)

-- the numbers that were drawn
pub taken_drawn : (xs : List Step) (ms : List ℤ) (w r : List ℕ) → AreTaken xs w ms r → (ys : List ℤ) × AreDrawn (variances xs) w ys r
taken_drawn [] [] w r e = ([], e)
taken_drawn [] (m ∷ ms) w r e = absurd e
taken_drawn (x ∷ xs) [] w r e = absurd e
taken_drawn (x ∷ xs) (m ∷ ms) w r (y, rest, here, is, within, later) = let ys = taken_drawn xs ms rest r later in (y ∷ ys.0, (rest, here, ys.1))

-- one measurement for each step
pub taken_length : (xs : List Step) (ms : List ℤ) (w r : List ℕ) → AreTaken xs w ms r → length ms ≡ length (variances xs)
taken_length [] [] w r e = refl
taken_length [] (m ∷ ms) w r e = absurd e
taken_length (x ∷ xs) [] w r e = absurd e
taken_length (x ∷ xs) (m ∷ ms) w r (y, rest, here, is, within, later) = ap suc (taken_length xs ms rest r later)

pub adds_append : (xs more : List Step) (w : List ℕ) (a b c : List ℤ) (m r : List ℕ) → Adds xs w a b m → Adds more m b c r → Adds (xs ++ more) w a c r
adds_append xs more w a b c m r h k = record {
  added = h.added ++ k.added;
  taken = taken_append xs more h.added k.added w m r h.taken k.taken;
  appended = k.appended ∙ ap (λ x. x ++ k.added) h.appended ∙ append_assoc a h.added k.added;
}

-- the stop of a later step
pub stops_after : (xs more others : List Step) (w : List ℕ) (a b : List ℤ) (m : List ℕ) (why : MeasureStop) (r : List ℕ) → Adds xs w a b m → Stops more m b why r → Stops (xs ++ (more ++ others)) w a why r
stops_after xs more others w a b m why r h k =
    let drawn = taken_drawn xs h.added w m h.taken in
    let many : length b ≡ length a + length (variances xs) = ap length h.appended ∙ length-append a h.added ∙ ap (λ n. length a + n) (taken_length xs h.added w m h.taken) in
    let index : length b + length k.before ≡ length a + length (variances xs ++ k.before) = omega (arith, many, length-append (variances xs) k.before) in
    record {
      before = variances xs ++ k.before;
      variance = k.variance;
      after = k.after ++ variances others;
      cut = map-append (λ x. x.variance) xs (more ++ others) ∙ ap (λ vs. variances xs ++ vs) (map-append (λ x. x.variance) more others ∙ ap (λ vs. vs ++ variances others) k.cut ∙ append_assoc k.before (k.variance ∷ k.after) (variances others))
          ∙ sym (append_assoc (variances xs) k.before (k.variance ∷ k.after ++ variances others));
      numbers = drawn.0 ++ k.numbers;
      rest = k.rest;
      drawn = drawn_append (variances xs) k.before drawn.0 k.numbers w m k.rest drawn.1 k.drawn;
      stops = subst (λ i. StopsAt i k.variance k.rest why r) index k.stops;
    }

pub stops_same : (xs ys : List Step) (w : List ℕ) (a : List ℤ) (why : MeasureStop) (r : List ℕ) → xs ≡ ys → Stops xs w a why r → Stops ys w a why r
stops_same xs ys w a why r e h = subst (λ zs. Stops zs w a why r) e h

pub adds_same : (xs ys : List Step) (w : List ℕ) (a b : List ℤ) (r : List ℕ) → xs ≡ ys → Adds xs w a b r → Adds ys w a b r
adds_same xs ys w a b r e h = subst (λ zs. Adds zs w a b r) e h

-- a loop over elements, for each of which some steps are taken
module _ {X : Type 0} (f : X → List Step) (xs : List X) (w : List ℕ) (a : List ℤ) where
  pub adds_none : Adds (flat_map f (take 0 xs)) w a a w
  adds_none = record { added = []; taken = refl; appended = sym (append-nil a) }

  more_is : (i : ℕ) (d : X) → i < length xs → flat_map f (take (i + 1) xs) ≡ flat_map f (take i xs) ++ f (get_or xs i d)
  more_is i d below =
      ap (flat_map f) (take_more xs i d below) ∙ flat_map-append f (take i xs) (get_or xs i d ∷ [])
      ∙ ap (λ ys. flat_map f (take i xs) ++ ys) (flat_map-cons f (get_or xs i d) [] ∙ append-nil (f (get_or xs i d)))

  cut_is : (i : ℕ) (d : X) → i < length xs → flat_map f xs ≡ flat_map f (take i xs) ++ (f (get_or xs i d) ++ flat_map f (drop (i + 1) xs))
  cut_is i d below =
      let next : drop i xs ≡ get_or xs i d ∷ drop (i + 1) xs = rw (add-one, drop-cons xs i d) refl in
      ap (flat_map f) (sym (take-append-drop i xs)) ∙ flat_map-append f (take i xs) (drop i xs)
      ∙ ap (λ ys. flat_map f (take i xs) ++ ys) (ap (flat_map f) next ∙ flat_map-cons f (get_or xs i d) (drop (i + 1) xs))

  pub adds_next : (i : ℕ) (d : X) (b c : List ℤ) (m r : List ℕ) → i < length xs → Adds (flat_map f (take i xs)) w a b m → Adds (f (get_or xs i d)) m b c r → Adds (flat_map f (take (i + 1) xs)) w a c r
  adds_next i d b c m r below h k = adds_same _ _ w a c r (sym (more_is i d below)) (adds_append (flat_map f (take i xs)) (f (get_or xs i d)) w a b c m r h k)

  pub stops_next : (i : ℕ) (d : X) (b : List ℤ) (m : List ℕ) (why : MeasureStop) (r : List ℕ) → i < length xs → Adds (flat_map f (take i xs)) w a b m → Stops (f (get_or xs i d)) m b why r → Stops (flat_map f xs) w a why r
  stops_next i d b m why r below h k =
      stops_same _ _ w a why r (sym (cut_is i d below)) (stops_after (flat_map f (take i xs)) (f (get_or xs i d)) (flat_map f (drop (i + 1) xs)) w a b m why r h k)

  pub adds_all : (i : ℕ) (b : List ℤ) (r : List ℕ) → length xs ≤ i → Adds (flat_map f (take i xs)) w a b r → Adds (flat_map f xs) w a b r
  adds_all i b r past h = adds_same _ _ w a b r (ap (flat_map f) (take_all i xs past)) h

-- the same over the numbers below n
module _ (f : ℕ → List Step) (n : ℕ) (w : List ℕ) (a : List ℤ) where
  pub adds_up : (i : ℕ) (b c : List ℤ) (m r : List ℕ) → i < n → Adds (flat_map f (take i (range_with_len 0 n))) w a b m → Adds (f i) m b c r → Adds (flat_map f (take (i + 1) (range_with_len 0 n))) w a c r
  adds_up i b c m r below h k =
      adds_next f (range_with_len 0 n) w a i 0 b c m r (omega (arith, length-range_with_len 0 n)) h (adds_same _ _ m b c r (ap f (sym (range_at n i 0 below))) k)

  pub stops_up : (i : ℕ) (b : List ℤ) (m : List ℕ) (why : MeasureStop) (r : List ℕ) → i < n → Adds (flat_map f (take i (range_with_len 0 n))) w a b m → Stops (f i) m b why r → Stops (flat_map f (range_with_len 0 n)) w a why r
  stops_up i b m why r below h k =
      stops_next f (range_with_len 0 n) w a i 0 b m why r (omega (arith, length-range_with_len 0 n)) h (stops_same _ _ m b why r (ap f (sym (range_at n i 0 below))) k)

  pub adds_up_all : (i : ℕ) (b : List ℤ) (r : List ℕ) → n ≤ i → Adds (flat_map f (take i (range_with_len 0 n))) w a b r → Adds (flat_map f (range_with_len 0 n)) w a b r
  adds_up_all i b r past h = adds_all f (range_with_len 0 n) w a i b r (omega (arith, length-range_with_len 0 n)) h
