-- What is so of the words of bytes and of a key stream: how many there are, and that each has 32 bits.
use Rattle.std.proofs.Common.{ℕ, suc, ◌≡◌, ◌+◌, ◌-◌, ◌/◌, ◌%◌, ◌^◌, ◌<◌, ◌≤◌, List, [], ◌∷◌, length, get_or, take, drop, refl, sym, arith}
use Rattle.std.specs.Prelude.{All}
use Rattle.std.specs.List.{range_with_len}
use Rattle.std.proofs.lemmas.List.FromFn.{length-map-range_with_len}
use Rattle.std.proofs.lemmas.List.{take_all}
use Rattle.std.proofs.lemmas.List.Elements.{All-map, All-from_get_or, All-nil, All-cons}
use Rattle.rand_chacha.specs.Block.{block_word}
use Rattle.rand_chacha.specs.ChaCha.{word_at}
use Rattle.tda_words.specs.Words.{AreWords, words_of, stream_words}

-- a word of the cipher has 32 bits
word_is_small : (key : List ℕ) (place : ℕ) → word_at 10 key 0 place < 2 ^ 32
unfolding block_word
word_is_small key place = omega arith

pub stream_is_words : (key : List ℕ) (place count taken : ℕ) → count + taken ≤ 2 ^ 32 → AreWords (stream_words key place count) taken
stream_is_words key place count taken h = record {
  small = All-map (λ w. w < 2 ^ 32) (word_at 10 key 0) (range_with_len place count)
      (All-from_get_or (λ p. word_at 10 key 0 p < 2 ^ 32) (range_with_len place count) 0 (λ i _. word_is_small key _));
  few = rw length-map-range_with_len h;
}

pub stream_length : (key : List ℕ) (place count : ℕ) → count ≡ length (stream_words key place count)
stream_length key place count = sym (length-map-range_with_len (word_at 10 key 0) place count)

pub words_length : (bytes : List ℕ) → length bytes / 4 ≡ length (words_of bytes)
words_length [] = refl
words_length (a ∷ []) = refl
words_length (a ∷ b ∷ []) = refl
words_length (a ∷ b ∷ c ∷ []) = refl
words_length (a ∷ b ∷ c ∷ d ∷ rest) = omega (arith, words_length rest)

words_small : (bytes : List ℕ) → ((i : ℕ) → get_or bytes i 0 < 2 ^ 8) → All (λ w. w < 2 ^ 32) (words_of bytes)
words_small [] h = All-nil _
words_small (a ∷ []) h = All-nil _
words_small (a ∷ b ∷ []) h = All-nil _
words_small (a ∷ b ∷ c ∷ []) h = All-nil _
words_small (a ∷ b ∷ c ∷ d ∷ rest) h =
    All-cons (λ w. w < 2 ^ 32) _ _ (omega (arith, h 0, h 1, h 2, h 3)) (words_small rest (λ i. h (suc (suc (suc (suc i))))))

pub bytes_are_words : (bytes : List ℕ) → ((i : ℕ) → get_or bytes i 0 < 2 ^ 8) → length bytes ≤ 2 ^ 28 → AreWords (words_of bytes) 0
bytes_are_words bytes h l = record {
  small = words_small bytes h;
  few = omega (arith, words_length bytes);
}

-- without the word that was given
pub rest_is_words : (word : ℕ) (rest : List ℕ) (taken : ℕ) → AreWords (word ∷ rest) taken → AreWords rest (taken + 1)
rest_is_words word rest taken h = record {
  small = λ k d l. h.small (suc k) d (omega arith);
  few = omega arith;
}

pub bytes_after_word : (bytes : List ℕ) (taken : ℕ) → 4 ≤ length bytes → length bytes % 4 ≡ 0 → AreWords (words_of bytes) taken
    → (length (take (length bytes - 4) (drop 4 bytes)) % 4 ≡ 0)
    × AreWords (words_of (take (length bytes - 4) (drop 4 bytes))) (taken + 1)
bytes_after_word [] taken l m h = absurd (omega arith)
bytes_after_word (a ∷ []) taken l m h = absurd (omega arith)
bytes_after_word (a ∷ b ∷ []) taken l m h = absurd (omega arith)
bytes_after_word (a ∷ b ∷ c ∷ []) taken l m h = absurd (omega arith)
bytes_after_word (a ∷ b ∷ c ∷ d ∷ rest) taken l m h =
    rw (take_all (length (a ∷ b ∷ c ∷ d ∷ rest) - 4) rest (omega arith)) (omega arith, rest_is_words _ _ _ h)
