-- What a source of words means: the list of words left, and how many were given.
use Rattle.std.specs.Prelude.{ℕ, ◌≡◌, ◌+◌, ◌*◌, ◌^◌, ◌<◌, ◌≤◌, Option, Some, None, List, [], ◌∷◌, length, map, All}
use Rattle.std.specs.List.{range_with_len}
use Rattle.rand_chacha.specs.ChaCha.{word_at}

-- the first word is given and taken; none is given exactly where none is left
abbrev pub Gives : Option ℕ → List ℕ → List ℕ → Type 0
Gives (Some word) before now = before ≡ word ∷ now
Gives None before now = (before ≡ []) × (now ≡ [])

-- the count rises by one with each word given, and stays otherwise
abbrev pub Counts : Option ℕ → ℕ → ℕ → Type 0
Counts (Some word) before now = now ≡ before + 1
Counts None before now = now ≡ before

-- words of 32 bits, at most 2 ^ 32 of them with those that were given
pub record AreWords (words : List ℕ) (taken : ℕ) : Type 0 where
  pub small : All (λ word. word < 2 ^ 32) words
  pub few : length words + taken ≤ 2 ^ 32

-- what a contract sees of a list's or a seed's words
pub record Supply : Type 0 where
  pub words : List ℕ
  pub taken : ℕ

-- each four bytes are a word, the least byte first; fewer than four at the end are none
abbrev pub words_of : List ℕ → List ℕ
words_of (a ∷ b ∷ c ∷ d ∷ rest) = (a + 2 ^ 8 * b + 2 ^ 16 * c + 2 ^ 24 * d) ∷ words_of rest
words_of bytes = []

-- the words of a key's stream 0 at `count` places from `place` on (ChaCha20, RFC 8439, sections 2.3 and 2.4, with a block
-- counter of 64 bits)
abbrev pub stream_words : List ℕ → ℕ → ℕ → List ℕ
stream_words key place count = map (word_at 10 key 0) (range_with_len place count)
