-- Each list of words comes to exactly one noise or one stop, with one rest.
use Rattle.std.proofs.Common.{◌≡◌, ℕ, suc, ◌+◌, ◌≤◌, ◌⊎◌, inl, inr, ℤ, List, [], ◌∷◌, ◌++◌, length, Result, Ok, Err, refl, sym, ap, ◌∙◌, subst, arith}
use Rattle.tda_frac.specs.Fraction.{Fraction}
use Rattle.tda_model.proofs.Sums.{Each}
use Rattle.tda_noise.specs.Draws.{Drawn, Passed}
use Rattle.tda_noise.specs.Outcomes.{Comes, ComesToOne}
use Rattle.tda_noise.proofs.Outcomes.{gaussian_comes_to_one}
use Rattle.tda_measure.specs.Noise.{IsNumberOf, AreDrawn, StopsAt, StopsFrom, IsNoise, IsDetermined}
use Rattle.tda_measure.specs.declared.stop.MeasureStop.{MeasureStop}
use Rattle.tda_measure.specs.declared.stop.MeasureStop.TheVariants.{OutOfWords, TooLarge, NoMemory}

-- a variance over a positive number
abbrev pub IsVariance : Fraction → Type 0
IsVariance v = 1 ≤ v.den

one_at : (v : Fraction) → IsVariance v → ComesToOne (IsNumberOf v)
one_at v positive = gaussian_comes_to_one v.num v.den positive

-- the noise of places that are counted from `start` on
abbrev pub NoiseFrom : ℕ → List Fraction → List ℕ → Result (List ℤ) MeasureStop → List ℕ → Type 0
NoiseFrom start vs w (Ok ys) r = AreDrawn vs w ys r
NoiseFrom start vs w (Err why) r = StopsFrom start vs w why r

stops_first : (start : ℕ) (v : Fraction) (vs : List Fraction) (w : List ℕ) (why : MeasureStop) (r : List ℕ) → StopsAt start v w why r → StopsFrom start (v ∷ vs) w why r
stops_first start v vs w why r h =
    let index : start ≡ start + 0 = omega arith in
    record { before = []; variance = v; after = vs; cut = refl; numbers = []; rest = w; drawn = refl; stops = subst (λ i. StopsAt i v w why r) index h }

stops_later : (start : ℕ) (v : Fraction) (vs : List Fraction) (w : List ℕ) (y : ℤ) (m : List ℕ) (why : MeasureStop) (r : List ℕ) → IsNumberOf v w (Drawn y) m → StopsFrom (start + 1) vs m why r → StopsFrom start (v ∷ vs) w why r
stops_later start v vs w y m why r d h =
    let index : start + 1 + length h.before ≡ start + suc (length h.before) = omega arith in
    record { before = v ∷ h.before; variance = h.variance; after = h.after; cut = ap (λ us. v ∷ us) h.cut; numbers = y ∷ h.numbers; rest = h.rest; drawn = (m, d, h.drawn); stops = subst (λ i. StopsAt i h.variance h.rest why r) index h.stops }

abbrev pub Some : ℕ → List Fraction → List ℕ → Type 0
Some start vs w = (x : Result (List ℤ) MeasureStop) × (r : List ℕ) × NoiseFrom start vs w x r

after_number : (start : ℕ) (v : Fraction) (vs : List Fraction) (w : List ℕ) (y : ℤ) (m : List ℕ) → IsNumberOf v w (Drawn y) m → Some (start + 1) vs m → Some start (v ∷ vs) w
after_number start v vs w y m d (Ok ys, r, h) = (Ok (y ∷ ys), r, (m, d, h))
after_number start v vs w y m d (Err why, r, h) = (Err why, r, stops_later start v vs w y m why r d h)

by_first : (start : ℕ) (v : Fraction) (vs : List Fraction) (w : List ℕ) → ((m : List ℕ) → Some (start + 1) vs m) → Comes (IsNumberOf v) w → Some start (v ∷ vs) w
by_first start v vs w next (inl (Drawn y, m, d)) = after_number start v vs w y m d (next m)
by_first start v vs w next (inl (Passed z, m, d)) = (Err (TooLarge start z), m, stops_first start v vs w (TooLarge start z) m (refl, d))
by_first start v vs w next (inr ends) = (Err (OutOfWords start), [], stops_first start v vs w (OutOfWords start) [] (refl, ends, refl))

some_from : (start : ℕ) (vs : List Fraction) → Each IsVariance vs → (w : List ℕ) → Some start vs w
some_from start [] positive w = (Ok [], w, refl)
some_from start (v ∷ vs) (here, later) w = by_first start v vs w (some_from (start + 1) vs later) ((one_at v here).some w)

-- the same, first place by first place
abbrev with_first : ℤ → Result (List ℤ) MeasureStop → Result (List ℤ) MeasureStop
with_first y (Ok ys) = Ok (y ∷ ys)
with_first y (Err why) = Err why

record Goes (start : ℕ) (v : Fraction) (vs : List Fraction) (Later : List ℕ → Result (List ℤ) MeasureStop → List ℕ → Type 0) (w : List ℕ) (x : Result (List ℤ) MeasureStop) (r : List ℕ) : Type 0 where
  y : ℤ
  m : List ℕ
  x' : Result (List ℤ) MeasureStop
  here : IsNumberOf v w (Drawn y) m
  is : x ≡ with_first y x'
  later : Later m x' r

abbrev Halts : ℕ → Fraction → List ℕ → Result (List ℤ) MeasureStop → List ℕ → Type 0
Halts start v w x r = (why : MeasureStop) × (x ≡ Err why) × StopsAt start v w why r

abbrev Peeled : ℕ → List Fraction → List ℕ → Result (List ℤ) MeasureStop → List ℕ → Type 0
Peeled start [] w x r = (x ≡ Ok []) × (w ≡ r)
Peeled start (v ∷ vs) w x r = Halts start v w x r ⊎ Goes start v vs (Peeled (start + 1) vs) w x r

no_stop : (start : ℕ) (w : List ℕ) (why : MeasureStop) (r : List ℕ) → StopsFrom start [] w why r → ⊥
no_stop start w why r h = by h.before h.variance h.after h.cut
  where
    by : (before : List Fraction) (v : Fraction) (after : List Fraction) → [] ≡ before ++ v ∷ after → ⊥
    by [] v after cut = cc
    by (b ∷ before) v after cut = cc

stop_cases : (start : ℕ) (v : Fraction) (vs : List Fraction) (w : List ℕ) (why : MeasureStop) (r : List ℕ) (before : List Fraction) (u : Fraction) (after : List Fraction) (numbers : List ℤ) (rest : List ℕ)
    → v ∷ vs ≡ before ++ u ∷ after → AreDrawn before w numbers rest → StopsAt (start + length before) u rest why r
    → StopsAt start v w why r ⊎ ((y : ℤ) × (m : List ℕ) × IsNumberOf v w (Drawn y) m × StopsFrom (start + 1) vs m why r)
stop_cases start v vs w why r [] u after [] rest cut drawn stops =
    let same : u ≡ v = cc in
    let index : start + 0 ≡ start = omega arith in
    let at : StopsAt start u rest why r = subst (λ i. StopsAt i u rest why r) index stops in
    let at_v : StopsAt start v rest why r = subst (λ x. StopsAt start x rest why r) same at in
    inl (subst (λ x. StopsAt start v x why r) (sym drawn) at_v)
stop_cases start v vs w why r [] u after (y ∷ numbers) rest cut drawn stops = absurd drawn
stop_cases start v vs w why r (b ∷ before) u after [] rest cut drawn stops = absurd drawn
stop_cases start v vs w why r (b ∷ before) u after (y ∷ numbers) rest cut (m, d, ds) stops =
    let same : b ≡ v = cc in
    let later : vs ≡ before ++ u ∷ after = cc in
    let index : start + suc (length before) ≡ start + 1 + length before = omega arith in
    inr (
      y,
      m,
      subst (λ x. IsNumberOf x w (Drawn y) m) same d,
      record { before = before; variance = u; after = after; cut = later; numbers = numbers; rest = rest; drawn = ds; stops = subst (λ i. StopsAt i u rest why r) index stops },
    )

peel : (start : ℕ) (vs : List Fraction) (w : List ℕ) (x : Result (List ℤ) MeasureStop) (r : List ℕ) → NoiseFrom start vs w x r → Peeled start vs w x r
peel start [] w (Ok []) r e = (refl, e)
peel start [] w (Ok (y ∷ ys)) r e = absurd e
peel start [] w (Err why) r h = absurd (no_stop start w why r h)
peel start (v ∷ vs) w (Ok []) r e = absurd e
peel start (v ∷ vs) w (Ok (y ∷ ys)) r (m, d, ds) =
    inr (record { y = y; m = m; x' = Ok ys; here = d; is = refl; later = peel (start + 1) vs m (Ok ys) r ds })
peel start (v ∷ vs) w (Err why) r h = elim (stop_cases start v vs w why r h.before h.variance h.after h.numbers h.rest h.cut h.drawn h.stops) [
  | inl at ↦ inl (why, refl, at)
  | inr k ↦ inr (record { y = k.0; m = k.1; x' = Err why; here = k.2; is = refl; later = peel (start + 1) vs k.1 (Err why) r k.3 })
]

module _ (start : ℕ) (v : Fraction) (positive : IsVariance v) (w : List ℕ) where
  one_stop : (a b : MeasureStop) (r s : List ℕ) → StopsAt start v w a r → StopsAt start v w b s → (a ≡ b) × (r ≡ s)
  one_stop (OutOfWords i) (OutOfWords j) r s (p, ends, d) (q, later, e) = (ap OutOfWords (p ∙ sym q), d ∙ sym e)
  one_stop (OutOfWords i) (TooLarge j m) r s (p, ends, d) (q, e) = absurd (ends (Passed m) s e)
  one_stop (OutOfWords i) NoMemory r s d e = absurd e
  one_stop (TooLarge i n) (OutOfWords j) r s (p, d) (q, ends, e) = absurd (ends (Passed n) r d)
  one_stop (TooLarge i n) (TooLarge j m) r s (p, d) (q, e) =
      let same = (one_at v positive).value w (Passed n) (Passed m) r s d e in
      let sizes : n ≡ m = cc in
      let places : i ≡ j = p ∙ sym q in
      (cc, (one_at v positive).rest w (Passed n) (Passed m) r s d e)
  one_stop (TooLarge i n) NoMemory r s d e = absurd e
  one_stop NoMemory b r s d e = absurd d

  no_number : (a : MeasureStop) (r : List ℕ) (y : ℤ) (m : List ℕ) → StopsAt start v w a r → IsNumberOf v w (Drawn y) m → ⊥
  no_number (OutOfWords i) r y m (p, ends, d) e = ends (Drawn y) m e
  no_number (TooLarge i n) r y m (p, d) e = let same = (one_at v positive).value w (Passed n) (Drawn y) r m d e in cc
  no_number NoMemory r y m d e = d

both : (start : ℕ) (vs : List Fraction) → Each IsVariance vs → (w : List ℕ) (x z : Result (List ℤ) MeasureStop) (r s : List ℕ) → Peeled start vs w x r → Peeled start vs w z s → (x ≡ z) × (r ≡ s)
both start [] positive w x z r s (p, d) (q, e) = (p ∙ sym q, sym d ∙ e)
both start (v ∷ vs) (here, later) w x z r s (inl (a, p, d)) (inl (b, q, e)) =
    let same = one_stop start v here w a b r s d e in
    (p ∙ ap Err same.0 ∙ sym q, same.1)
both start (v ∷ vs) (here, later) w x z r s (inl (a, p, d)) (inr k) = absurd (no_number start v here w a r k.y k.m d k.here)
both start (v ∷ vs) (here, later) w x z r s (inr h) (inl (b, q, e)) = absurd (no_number start v here w b s h.y h.m e h.here)
both start (v ∷ vs) (here, later) w x z r s (inr h) (inr k) =
    let value = (one_at v here).value w (Drawn h.y) (Drawn k.y) h.m k.m h.here k.here in
    let rest = (one_at v here).rest w (Drawn h.y) (Drawn k.y) h.m k.m h.here k.here in
    let same : h.y ≡ k.y = cc in
    let after : Peeled (start + 1) vs h.m k.x' s = subst (λ q. Peeled (start + 1) vs q k.x' s) (sym rest) k.later in
    let tail = both (start + 1) vs later h.m h.x' k.x' r s h.later after in
    (h.is ∙ ap (with_first h.y) tail.0 ∙ ap (λ y. with_first y k.x') same ∙ sym k.is, tail.1)

from_zero : (vs : List Fraction) (w : List ℕ) (x : Result (List ℤ) MeasureStop) (r : List ℕ) → IsNoise vs w x r → NoiseFrom 0 vs w x r
from_zero vs w (Ok ys) r h = h
from_zero vs w (Err why) r h = h

to_zero : (vs : List Fraction) (w : List ℕ) (x : Result (List ℤ) MeasureStop) (r : List ℕ) → NoiseFrom 0 vs w x r → IsNoise vs w x r
to_zero vs w (Ok ys) r h = h
to_zero vs w (Err why) r h = h

pub noise_determined : (vs : List Fraction) → Each IsVariance vs → IsDetermined (IsNoise vs)
noise_determined vs positive = record {
  some = λ w. let h = some_from 0 vs positive w in (h.0, h.1, to_zero vs w h.0 h.1 h.2);
  value = λ w x y r s d e. (both 0 vs positive w x y r s (peel 0 vs w x r (from_zero vs w x r d)) (peel 0 vs w y s (from_zero vs w y s e))).0;
  rest = λ w x y r s d e. (both 0 vs positive w x y r s (peel 0 vs w x r (from_zero vs w x r d)) (peel 0 vs w y s (from_zero vs w y s e))).1;
}
