-- The noise of a release: a Gaussian number for each place, drawn from one list of words, place after place.
use Rattle.std.specs.Prelude.{◌≡◌, ◌+◌, ℕ, ℤ, List, [], ◌∷◌, ◌++◌, length, map, Result, Ok, Err}
use Rattle.tda_frac.specs.Fraction.{Fraction, reciprocal_of}
use Rattle.tda_model.specs.Schema.{Schema}
use Rattle.tda_model.specs.Spine.{Spine, level_of}
use Rattle.tda_schema.specs.Shares.{frac_of}
use Rattle.tda_schema.specs.Stated.{query_at}
use Rattle.tda_places.specs.Places.{places_of}
use Rattle.tda_places.specs.declared.place.Place.{Place}
use Rattle.tda_noise.specs.Draws.{Drawing, Ends, Outcome, Drawn, Passed, IsGaussian}
use Rattle.tda_measure.specs.declared.stop.MeasureStop.{MeasureStop}
use Rattle.tda_measure.specs.declared.stop.MeasureStop.TheVariants.{OutOfWords, TooLarge, NoMemory}

-- the variance of the noise at a place: one over the share of its query
abbrev pub variance_at : Schema → Spine → Place → Fraction
variance_at s sp p = reciprocal_of (frac_of (query_at s (level_of sp p.unit) p.query).share)

-- the variances at all places, in the order of the places
abbrev pub variances_of : Schema → Spine → List Fraction
variances_of s sp = map (variance_at s sp) (places_of s sp)

-- a Gaussian number of a variance, or a magnitude past the limit
abbrev pub IsNumberOf : Fraction → Drawing (Outcome ℤ)
IsNumberOf v = IsGaussian v.num v.den

-- a number for each variance: the first is drawn on the words, each later one on what the one before it leaves
abbrev pub AreDrawn : List Fraction → Drawing (List ℤ)
AreDrawn [] w [] r = w ≡ r
AreDrawn [] w (y ∷ ys) r = ⊥
AreDrawn (v ∷ vs) w [] r = ⊥
AreDrawn (v ∷ vs) w (y ∷ ys) r = (rest : List ℕ) × IsNumberOf v w (Drawn y) rest × AreDrawn vs rest ys r

-- the draw at the place of this index is no number: none stands at the front of the words, and none is left of them, or a
-- magnitude passes the limit
abbrev pub StopsAt : ℕ → Fraction → Drawing MeasureStop
StopsAt i v w (OutOfWords j) r = (j ≡ i) × Ends (IsNumberOf v) w × (r ≡ [])
StopsAt i v w (TooLarge j m) r = (j ≡ i) × IsNumberOf v w (Passed m) r
StopsAt i v w NoMemory r = ⊥

-- where places are counted from `start` on: the draws before a place are numbers, and the one there is none
pub record StopsFrom (start : ℕ) (vs : List Fraction) (w : List ℕ) (why : MeasureStop) (r : List ℕ) : Type 0 where
  pub before : List Fraction
  pub variance : Fraction
  pub after : List Fraction
  pub cut : vs ≡ before ++ variance ∷ after
  pub numbers : List ℤ
  pub rest : List ℕ
  pub drawn : AreDrawn before w numbers rest
  pub stops : StopsAt (start + length before) variance rest why r

-- the noise stops at the first place whose draw is no number
abbrev pub NoiseStops : List Fraction → Drawing MeasureStop
NoiseStops vs = StopsFrom 0 vs

-- what the noise on a list of words comes to: a number for each place, or a stop
abbrev pub IsNoise : List Fraction → Drawing (Result (List ℤ) MeasureStop)
IsNoise vs w (Ok noise) r = AreDrawn vs w noise r
IsNoise vs w (Err why) r = NoiseStops vs w why r

-- each list of words comes to exactly one thing, and leaves exactly one rest
pub record IsDetermined {A : Type 0} (Draws : Drawing A) : Type 0 where
  pub some : (w : List ℕ) → (x : A) × (r : List ℕ) × Draws w x r
  pub value : (w : List ℕ) (x y : A) (r s : List ℕ) → Draws w x r → Draws w y s → x ≡ y
  pub rest : (w : List ℕ) (x y : A) (r s : List ℕ) → Draws w x r → Draws w y s → r ≡ s
