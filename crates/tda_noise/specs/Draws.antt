-- Draws from a list of 32-bit words: uniform numbers by rejection, and then coins, Laplace and Gaussian
-- numbers after Canonne, Kamath and Steinke, "The Discrete Gaussian for Differential Privacy" (2020),
-- section 5, algorithms 1 to 3. Each definition says how a list of words is cut into the draws that it
-- begins with and the words that are left.
use Rattle.std.specs.Prelude.{ℕ, zero, suc, ◌≡◌, ◌+◌, ◌-◌, ◌*◌, ◌/◌, ◌%◌, ◌^◌, ◌<◌, ◌≤◌, ◌⊎◌, ◌↔◌, Bool, true, false, IsTrue, List, [], ◌∷◌, ◌++◌, length, ℤ, pos, neg_ℤ, nat_abs, ◌-ℤ◌}

-- A kind of draw: the words, what is drawn from their front, and the words that are left.
abbrev pub Drawing : Type 0 → Type 1
Drawing A = List ℕ → A → List ℕ → Type 0

-- no such draw stands at the front of the words: they end before one does
abbrev pub Ends : {A : Type 0} → Drawing A → List ℕ → Type 0
Ends {A} Draw w = (x : A) (r : List ℕ) → Draw w x r → ⊥

-- Rejection sampling: an attempt is refused, or it gives something.
pub data Attempt (A : Type 0) : Type 0 where
  Refused : Attempt A
  Gives : A → Attempt A

-- so many refused attempts, and then one that gives x
abbrev pub AfterRefusals : {A : Type 0} → Drawing (Attempt A) → ℕ → Drawing A
AfterRefusals Try zero w x r = Try w (Gives x) r
AfterRefusals Try (suc refusals) w x r = (rest : List ℕ) × Try w Refused rest × AfterRefusals Try refusals rest x r

-- refused attempts, perhaps none, and then one that gives x
abbrev pub FirstGiven : {A : Type 0} → Drawing (Attempt A) → Drawing A
FirstGiven Try w x r = (refusals : ℕ) × AfterRefusals Try refusals w x r

-- so many tosses, numbered from i on, all of which are true
abbrev pub Trues : (ℕ → Drawing Bool) → ℕ → ℕ → List ℕ → List ℕ → Type 0
Trues Toss i zero w r = w ≡ r
Trues Toss i (suc trues) w r = (rest : List ℕ) × Toss i w true rest × Trues Toss (suc i) trues rest r

-- so many tosses that are true, and then one that is false
abbrev pub TruesThenFalse : (ℕ → Drawing Bool) → ℕ → ℕ → List ℕ → List ℕ → Type 0
TruesThenFalse Toss i trues w r = (rest : List ℕ) × Trues Toss i trues w rest × Toss (i + trues) rest false r

-- the number of a piece of words, the first word least significant
abbrev pub number_of : List ℕ → ℕ
number_of [] = 0
number_of (word ∷ rest) = word + 2 ^ 32 * number_of rest

-- n - 1 has k binary digits, none for n = 1
pub record IsWidth (n k : ℕ) : Type 0 where
  pub fits : n ≤ 2 ^ k
  pub least : (j : ℕ) → n ≤ 2 ^ j → k ≤ j

-- how many words a piece for k digits has: as many as hold the digits, and at least one
abbrev pub words_for : ℕ → ℕ
words_for zero = 1
words_for (suc k) = k / 32 + 1

-- a piece for k digits, of which the k low ones are the number m
pub record IsPiece (k : ℕ) (w : List ℕ) (m : ℕ) (r : List ℕ) : Type 0 where
  pub piece : List ℕ
  pub cut : w ≡ piece ++ r
  pub words : length piece ≡ words_for k
  pub number : m ≡ number_of piece % 2 ^ k

-- a piece is refused where its number isn't below n
abbrev pub UniformAttempt : ℕ → ℕ → Drawing (Attempt ℕ)
UniformAttempt n k w Refused r = (m : ℕ) × IsPiece k w m r × (n ≤ m)
UniformAttempt n k w (Gives m) r = IsPiece k w m r × (m < n)

-- a uniform number below n
abbrev pub IsUniform : ℕ → Drawing ℕ
IsUniform n w u r = (k : ℕ) × IsWidth n k × FirstGiven (UniformAttempt n k) w u r

-- a coin that is true with chance n / d
abbrev pub IsCoin : ℕ → ℕ → Drawing Bool
IsCoin n d w b r = (u : ℕ) × IsUniform d w u r × (IsTrue b ↔ (u < n))

-- a coin that is true with chance e ^ -(n / d), for n ≤ d: the i-th toss is true with chance n / (d * i),
-- and what counts is whether the first false one has an odd number (algorithm 1, the first case)
abbrev pub IsSmallExponential : ℕ → ℕ → Drawing Bool
IsSmallExponential n d w b r =
    (trues : ℕ) × TruesThenFalse (λ i. IsCoin n (d * i)) 1 trues w r × (IsTrue b ↔ ((1 + trues) % 2 ≡ 1))

-- a coin that is true with chance 1 / e
abbrev pub IsOneOverE : ℕ → Drawing Bool
IsOneOverE _ = IsSmallExponential 1 1

-- a coin that is true with chance e ^ -(n / d): where n is greater than d, floor(n / d) coins of chance
-- 1 / e and one for the rest have to be true, and the first false one ends the draw (algorithm 1)
abbrev pub IsExponential : ℕ → ℕ → Drawing Bool
IsExponential n d w b r =
    ((n ≤ d) × IsSmallExponential n d w b r)
    ⊎ (((d < n) × (trues : ℕ) × (trues < n / d) × TruesThenFalse IsOneOverE 0 trues w r × (b ≡ false))
    ⊎ ((d < n) × (rest : List ℕ) × Trues IsOneOverE 0 (n / d) w rest × IsSmallExponential (n % d) d rest b r))

-- a draw within a limit: what is drawn, or a magnitude past the limit
pub data Outcome (A : Type 0) : Type 0 where
  Drawn : A → Outcome A
  Passed : ℤ → Outcome A

-- the greatest magnitude of a Laplace number before it is divided by s
abbrev pub magnitude_limit : ℕ
magnitude_limit = 2 ^ 30

-- U + t * V, where V counts the true coins of chance 1 / e before the first false one, as long as it
-- doesn't pass the limit
abbrev pub IsMagnitude : ℕ → ℕ → Drawing (Outcome ℕ)
IsMagnitude u t w (Drawn m) r =
    (v : ℕ) × TruesThenFalse IsOneOverE 0 v w r × (u + t * v ≤ magnitude_limit) × (m ≡ u + t * v)
IsMagnitude u t w (Passed m) r =
    (v : ℕ) × Trues IsOneOverE 0 (suc v) w r × (u + t * v ≤ magnitude_limit) × (magnitude_limit < u + t * suc v) × (m ≡ pos (u + t * suc v))

-- a U that is uniform below t and goes on with chance e ^ -(U / t)
pub record Begins (t : ℕ) (w : List ℕ) (u : ℕ) (goes_on : Bool) (r : List ℕ) : Type 0 where
  pub rest : List ℕ
  pub uniform : IsUniform t w u rest
  pub coin : IsExponential u t rest goes_on r

-- a U that doesn't go on is refused; one that goes on gives the magnitude U + t * V
abbrev pub MagnitudeAttempt : ℕ → Drawing (Attempt (Outcome ℕ))
MagnitudeAttempt t w Refused r = (u : ℕ) × Begins t w u false r
MagnitudeAttempt t w (Gives m) r = (u : ℕ) × (rest : List ℕ) × Begins t w u true rest × IsMagnitude u t rest m r

-- a magnitude, of which y is the whole part of one s-th, and a fair coin for the sign
pub record IsSigned (s t : ℕ) (w : List ℕ) (y : ℕ) (negative : Bool) (r : List ℕ) : Type 0 where
  pub m : ℕ
  pub rest : List ℕ
  pub magnitude : MagnitudeAttempt t w (Gives (Drawn m)) rest
  pub part : y ≡ m / s
  pub sign : IsCoin 1 2 rest negative r

-- one attempt at a Laplace number (algorithm 2): a minus zero is refused too
abbrev pub LaplaceAttempt : ℕ → ℕ → Drawing (Attempt (Outcome ℤ))
LaplaceAttempt s t w Refused r = MagnitudeAttempt t w Refused r ⊎ IsSigned s t w 0 true r
LaplaceAttempt s t w (Gives (Drawn y)) r =
    (n : ℕ) × ((IsSigned s t w n false r × (y ≡ pos n)) ⊎ (IsSigned s t w n true r × (0 < n) × (y ≡ neg_ℤ (pos n))))
LaplaceAttempt s t w (Gives (Passed m)) r = MagnitudeAttempt t w (Gives (Passed m)) r

-- a Laplace number of scale t / s, or a magnitude past the limit
abbrev pub IsLaplace : ℕ → ℕ → Drawing (Outcome ℤ)
IsLaplace s t = FirstGiven (LaplaceAttempt s t)

-- t - 1 is the whole part of the root of a / b
pub record IsScale (a b t : ℕ) : Type 0 where
  pub some : 1 ≤ t
  pub low : (t - 1) ^ 2 * b ≤ a
  pub high : a < t ^ 2 * b

-- y is kept with chance e ^ -((|y| - σ² / t)² / (2 σ²)), where σ² is a / b
abbrev pub IsKept : ℕ → ℕ → ℕ → ℤ → Drawing Bool
IsKept a b t y = IsExponential (nat_abs (pos (nat_abs y * t * b) -ℤ pos a) ^ 2) (2 * a * b * t ^ 2)

-- one attempt at a Gaussian number (algorithm 3): a Laplace number of scale t that is kept
abbrev pub GaussianAttempt : ℕ → ℕ → ℕ → Drawing (Attempt (Outcome ℤ))
GaussianAttempt a b t w Refused r = (y : ℤ) × (rest : List ℕ) × IsLaplace 1 t w (Drawn y) rest × IsKept a b t y rest false r
GaussianAttempt a b t w (Gives (Drawn y)) r = (rest : List ℕ) × IsLaplace 1 t w (Drawn y) rest × IsKept a b t y rest true r
GaussianAttempt a b t w (Gives (Passed m)) r = IsLaplace 1 t w (Passed m) r

-- a Gaussian number of variance a / b, or a magnitude past the limit
abbrev pub IsGaussian : ℕ → ℕ → Drawing (Outcome ℤ)
IsGaussian a b w o r = (t : ℕ) × IsScale a b t × FirstGiven (GaussianAttempt a b t) w o r
