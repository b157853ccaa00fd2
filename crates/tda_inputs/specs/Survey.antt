-- What is measured: persons, facilities, and the words of the noise.
use Rattle.std.specs.Prelude.{ℕ, if◌then◌else◌, codes, List, length, Option, Result, Ok, Err, ◌%◌, ◌==◌}
use Rattle.tda_model.specs.Spine.{Spine}
use Rattle.tda_refusal.specs.Refusal.{plain_text}
use Rattle.rand_chacha.specs.ChaCha.{key_of}
use Rattle.tda_model.specs.Schema.{Schema}
use Rattle.tda_invar.specs.KindTable.{NumberTable}
use Rattle.tda_records.specs.declared.records.Record.{Record}
use Rattle.tda_words.specs.Words.{words_of, stream_words}
use Rattle.tda_command.specs.Words.{number_of}
use Rattle.tda_refusal.specs.declared.text.Plain.{Plain}
use Rattle.tda_refusal.specs.declared.text.Plain.TheVariants.{BadLength}
use Rattle.tda_command.specs.declared.words.Number.TheVariants.{Place, Budget}
use Rattle.tda_command.specs.declared.words.Source.{Source}
use Rattle.tda_inputs.specs.Ending.{Ending, file_limit, seed_length, judged_within}
use Rattle.tda_command.specs.declared.words.Source.TheVariants as source

-- persons who live in the blocks of a spine, the facilities there, and the words of the noise
pub record Survey : Type 0 where
  pub schema : Schema
  pub spine : Spine
  pub facilities : NumberTable
  pub records : List Record
  pub words : List ℕ

-- the words of a file: each four bytes are one
abbrev pub read_words : List ℕ → Result (List ℕ) Plain
read_words bytes = if length bytes % 4 == 0 then Ok (words_of bytes) else Err BadLength

-- the words of a seed, as many as the budget from a place of its stream on
abbrev pub read_seed : ℕ → ℕ → List ℕ → Result (List ℕ) Plain
read_seed from count bytes = if length bytes == seed_length then Ok (stream_words (key_of bytes) from count) else Err BadLength

-- the words of the noise, by the bytes that the read of the words' or of the seed's file gave, or how the program ends
abbrev pub noise_from : List (List ℕ) → Source → Option (List ℕ) → Result (List ℕ) Ending
noise_from words source.Words given = judged_within file_limit (codes "words") plain_text read_words given
noise_from words source.Seed given = judged_within seed_length (codes "seed") plain_text (read_seed (number_of words Place) (number_of words Budget)) given
