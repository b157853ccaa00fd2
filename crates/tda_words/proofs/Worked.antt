-- Words computed from the definitions: the zero key's first ones (RFC 8439, appendix A.1), and those of some bytes.
use Rattle.std.proofs.Common.{◌≡◌, [], ◌∷◌, replicate, refl}
use Rattle.rand_core.specs.Steps.{u32_at}
use Rattle.rand_chacha.specs.Block.{quarter_round, column_round, diagonal_round, double_rounds, block_word}
use Rattle.rand_chacha.specs.ChaCha.{key_of}
use Rattle.tda_words.specs.Words.{stream_words, words_of}

zero_key : stream_words (key_of (replicate 32 0)) 0 2 ≡ 0xade0b876 ∷ 0x903df1a0 ∷ []
unfolding u32_at quarter_round column_round diagonal_round double_rounds block_word
zero_key = refl

one_place : stream_words (key_of (replicate 32 0)) 1 1 ≡ 0x903df1a0 ∷ []
unfolding u32_at quarter_round column_round diagonal_round double_rounds block_word
one_place = refl

across_the_block : stream_words (key_of (replicate 32 0)) 15 2 ≡ 0x8665eeb2 ∷ 0xbee7079f ∷ []
unfolding u32_at quarter_round column_round diagonal_round double_rounds block_word
across_the_block = refl

least_byte_first : words_of (1 ∷ 2 ∷ 3 ∷ 4 ∷ 255 ∷ 255 ∷ 255 ∷ 255 ∷ []) ≡ 0x04030201 ∷ 0xffffffff ∷ []
least_byte_first = refl
