-- Worked draws: a uniform number after two refused pieces, a Gaussian number of variance 1 on six words, and six words that
-- end after a minus zero.
use Rattle.std.proofs.Common.{ℕ, ◌≡◌, ◌+◌, ◌*◌, ◌%◌, ◌^◌, ◌<◌, ◌≤◌, ◌↔◌, List, [], ◌∷◌, Bool, true, false, IsTrue, pos, refl, sym, ap, arith, lit≤, lit<, inl, inr}
use Rattle.std.proofs.lemmas.Bool.{false≢true}
use Rattle.std.specs.Int.Count.{count_leading_zeros}
use Rattle.tda_noise.specs.Draws.{words_for, IsWidth, IsPiece, IsUniform, IsCoin, IsSmallExponential, IsOneOverE, IsExponential, Ends, Drawn, Gives, Refused, Begins, MagnitudeAttempt, IsSigned, LaplaceAttempt, IsLaplace, IsScale, GaussianAttempt, IsGaussian}
use Rattle.tda_noise.proofs.Peel.{refused_leads, no_attempt}
use Rattle.tda_noise.proofs.UniformDraws.{width_is}
use Rattle.tda_noise.proofs.CoinDraws.{exponential_proper, nothing_left}
use Rattle.tda_noise.proofs.LaplaceDraws.{laplace_attempt_proper, no_magnitude_attempt, no_u_coin}
use Rattle.tda_noise.proofs.GaussianDraws.{gaussian_leads, no_laplace}

-- a word is a piece of up to 32 digits
word_is : (k word : ℕ) (r : List ℕ) → words_for k ≡ 1 → IsPiece k (word ∷ r) (word % 2 ^ k) r
word_is k word r one =
    let number : word ≡ word + 2 ^ 32 * 0 = omega arith in
    record { piece = word ∷ []; cut = refl; words = sym one; number = ap (λ n. n % 2 ^ k) number }

uniform_is : (n k word : ℕ) (r : List ℕ) → IsWidth n k → words_for k ≡ 1 → word % 2 ^ k < n → IsUniform n (word ∷ r) (word % 2 ^ k) r
uniform_is n k word r width one below = (k, width, (0, (word_is k word r one, below)))

coin_is : (n d k word : ℕ) (r : List ℕ) (b : Bool) → IsWidth d k → words_for k ≡ 1 → word % 2 ^ k < d → (IsTrue b ↔ (word % 2 ^ k < n)) →
    IsCoin n d (word ∷ r) b r
coin_is n d k word r b width one below says = (word % 2 ^ k, uniform_is d k word r width one below, says)

true_is : (P : Type 0) → P → IsTrue true ↔ P
true_is P h = (λ e. h, λ p. refl)

false_is : (P : Type 0) → (P → ⊥) → IsTrue false ↔ P
false_is P h = (λ e. absurd (false≢true e), λ p. absurd (h p))

one_has : IsWidth 1 0
unfolding count_leading_zeros
one_has = width_is 1 (lit≤ tt) (lit≤ tt)

two_has : IsWidth 2 1
unfolding count_leading_zeros
two_has = width_is 2 (lit≤ tt) (lit≤ tt)

six_has : IsWidth 6 3
unfolding count_leading_zeros
six_has = width_is 6 (lit≤ tt) (lit≤ tt)

eight_has : IsWidth 8 3
unfolding count_leading_zeros
eight_has = width_is 8 (lit≤ tt) (lit≤ tt)

-- 7 and 6 aren't below 6
pub third_word_below_six : IsUniform 6 (7 ∷ 6 ∷ 5 ∷ []) 5 []
third_word_below_six =
    let seven_is_not : 6 ≤ 7 = lit≤ tt in
    let six_is_not : 6 ≤ 6 = lit≤ tt in
    let five_is : 5 < 6 = lit< tt in
    let six : (m : ℕ) × IsPiece 3 (6 ∷ 5 ∷ []) m (5 ∷ []) × (6 ≤ m) = (6, word_is 3 6 (5 ∷ []) refl, six_is_not) in
    (3, six_has, (2, (6 ∷ 5 ∷ [], (7, word_is 3 7 (6 ∷ 5 ∷ []) refl, seven_is_not), (5 ∷ [], six, (word_is 3 5 [] refl, five_is)))))

-- the words 0 and 1 are a false coin of chance 1 / e
false_one_over_e : (r : List ℕ) → IsOneOverE 0 (0 ∷ 1 ∷ r) false r
false_one_over_e r =
    let first : IsCoin 1 1 (0 ∷ 1 ∷ r) true (1 ∷ r) = coin_is 1 1 0 0 (1 ∷ r) true one_has refl (lit< tt) (true_is _ (lit< tt)) in
    let second : IsCoin 1 2 (1 ∷ r) false r = coin_is 1 2 1 1 r false two_has refl (lit< tt) (false_is _ (λ h. omega arith)) in
    (1, (1 ∷ r, (1 ∷ r, first, refl), second), false_is _ (λ h. omega arith))

-- 0, 0 and then 0, 1: U is 0, which goes on, and V is 0
zero_magnitude : (r : List ℕ) → MagnitudeAttempt 2 (0 ∷ 0 ∷ 0 ∷ 1 ∷ r) (Gives (Drawn 0)) r
zero_magnitude r =
    let coin : IsCoin 0 2 (0 ∷ 0 ∷ 1 ∷ r) false (0 ∷ 1 ∷ r) = coin_is 0 2 1 0 (0 ∷ 1 ∷ r) false two_has refl (lit< tt) (false_is _ (λ h. omega arith)) in
    let small : IsSmallExponential 0 2 (0 ∷ 0 ∷ 1 ∷ r) true (0 ∷ 1 ∷ r) = (0, (0 ∷ 0 ∷ 1 ∷ r, refl, coin), true_is _ refl) in
    let goes_on : IsExponential 0 2 (0 ∷ 0 ∷ 1 ∷ r) true (0 ∷ 1 ∷ r) = inl (lit≤ tt, small) in
    let begins : Begins 2 (0 ∷ 0 ∷ 0 ∷ 1 ∷ r) 0 true (0 ∷ 1 ∷ r) =
    record { rest = 0 ∷ 0 ∷ 1 ∷ r; uniform = uniform_is 2 1 0 (0 ∷ 0 ∷ 1 ∷ r) two_has refl (lit< tt); coin = goes_on } in
    (0, 0 ∷ 1 ∷ r, begins, (0, (0 ∷ 1 ∷ r, refl, false_one_over_e r), lit≤ tt, refl))

-- and then a fair coin, which is true at 0 and false at 1
zero_signed : (word : ℕ) (b : Bool) (r : List ℕ) → IsCoin 1 2 (word ∷ r) b r → IsSigned 1 2 (0 ∷ 0 ∷ 0 ∷ 1 ∷ word ∷ r) 0 b r
zero_signed word b r sign = record { m = 0; rest = word ∷ r; magnitude = zero_magnitude (word ∷ r); part = refl; sign = sign }

-- the root of 1 is 1
scale_is_two : IsScale 1 1 2
scale_is_two = record { some = lit≤ tt; low = lit≤ tt; high = lit< tt }

-- a zero, which the word 7 keeps with chance e ^ -(1 / 8)
pub zero_drawn : IsGaussian 1 1 (0 ∷ 0 ∷ 0 ∷ 1 ∷ 1 ∷ 7 ∷ []) (Drawn (pos 0)) []
zero_drawn =
    let plus : IsCoin 1 2 (1 ∷ 7 ∷ []) false (7 ∷ []) = coin_is 1 2 1 1 (7 ∷ []) false two_has refl (lit< tt) (false_is _ (λ h. omega arith)) in
    let laplace : IsLaplace 1 2 (0 ∷ 0 ∷ 0 ∷ 1 ∷ 1 ∷ 7 ∷ []) (Drawn (pos 0)) (7 ∷ []) = (0, (0, inl (zero_signed 1 false (7 ∷ []) plus, refl))) in
    let coin : IsCoin 1 8 (7 ∷ []) false [] = coin_is 1 8 3 7 [] false eight_has refl (lit< tt) (false_is _ (λ h. omega arith)) in
    let kept : IsExponential 1 8 (7 ∷ []) true [] = inl (lit≤ tt, (0, (7 ∷ [], refl, coin), true_is _ refl)) in
    (2, scale_is_two, (0, (7 ∷ [], laplace, kept)))

-- A minus zero is refused. The word 7 is the U of a new attempt, and then the words end.
pub minus_zero_ends : Ends (IsGaussian 1 1) (0 ∷ 0 ∷ 0 ∷ 1 ∷ 0 ∷ 7 ∷ [])
minus_zero_ends o r d =
    let w : List ℕ = 0 ∷ 0 ∷ 0 ∷ 1 ∷ 0 ∷ 7 ∷ [] in
    let minus : IsCoin 1 2 (0 ∷ 7 ∷ []) true (7 ∷ []) = coin_is 1 2 1 0 (7 ∷ []) true two_has refl (lit< tt) (true_is _ (lit< tt)) in
    let refused : LaplaceAttempt 1 2 w Refused (7 ∷ []) = inr (zero_signed 0 true (7 ∷ []) minus) in
    let u : IsUniform 2 (7 ∷ []) 1 [] = uniform_is 2 1 7 [] two_has refl (lit< tt) in
    let no_coin = nothing_left (IsExponential 1 2) (exponential_proper 1 2) [] refl in
    let later = no_attempt (LaplaceAttempt 1 2) (7 ∷ []) (no_magnitude_attempt 1 2 (7 ∷ []) (no_u_coin 2 1 (7 ∷ []) [] u no_coin)) in
    let leads = refused_leads (laplace_attempt_proper 1 2) refused in
    let no_number = no_laplace 1 1 2 w (λ x q h. later x q (leads.to x q h)) in
    no_attempt (GaussianAttempt 1 1 2) w no_number o r ((gaussian_leads 1 1 2 w scale_is_two).to o r d)
