-- What a list of words comes to: to one draw and one rest, or to none.
use Rattle.std.specs.Prelude.{ℕ, ◌≡◌, ◌<◌, ◌⊎◌, List, length}
use Rattle.tda_noise.specs.Draws.{Drawing, Ends}

-- such a draw stands at the front of the words, or they end before one
abbrev pub Comes : {A : Type 0} → Drawing A → List ℕ → Type 0
Comes {A} Draws w = ((x : A) × (r : List ℕ) × Draws w x r) ⊎ Ends Draws w

-- each list of words comes to exactly one of these: something drawn, with one rest, or the end; what is drawn takes
-- at least one word
pub record ComesToOne {A : Type 0} (Draws : Drawing A) : Type 0 where
  pub some : (w : List ℕ) → Comes Draws w
  pub value : (w : List ℕ) (x y : A) (r s : List ℕ) → Draws w x r → Draws w y s → x ≡ y
  pub rest : (w : List ℕ) (x y : A) (r s : List ℕ) → Draws w x r → Draws w y s → r ≡ s
  pub takes : (w : List ℕ) (x : A) (r : List ℕ) → Draws w x r → length r < length w
