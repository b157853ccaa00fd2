-- How many pieces of words give each number: equally many, so that no number is favoured.
use Rattle.std.specs.Prelude.{ℕ, ◌≡◌, ◌≢◌, ◌-◌, ◌*◌, ◌%◌, ◌^◌, ◌<◌, ◌↔◌, List, length, All, Contains}
use Rattle.std.specs.List.{AllPairs}
use Rattle.tda_noise.specs.Draws.{IsWidth, words_for, number_of}

-- exactly so many things have a property: there is a list of them, which is so long and names none twice
pub record AreSoMany {A : Type 0} (P : A → Type 0) (count : ℕ) : Type 0 where
  pub list : List A
  pub distinct : AllPairs (λ x y. x ≢ y) list
  pub many : length list ≡ count
  pub exact : (x : A) → Contains list x ↔ P x

-- a piece for k digits, of words of 32 bits, whose k low digits are the number v
pub record GivesNumber (k v : ℕ) (piece : List ℕ) : Type 0 where
  pub words : length piece ≡ words_for k
  pub small : All (λ word. word < 2 ^ 32) piece
  pub number : number_of piece % 2 ^ k ≡ v

-- each number below n is given by as many pieces as any other: by 2 ^ (32 * words - k)
pub record IsEven (n : ℕ) : Type 0 where
  pub pieces : (k v : ℕ) → IsWidth n k → v < n → AreSoMany (GivesNumber k v) (2 ^ (32 * words_for k - k))
