-- What a file of words and a seed give.
use Rattle.std.proofs.Common.{◌≡◌, ◌≢◌, ◌≤◌, ◌%◌, ◌^◌, ◌&&◌, ℕ, ℤ, pos, negsuc, Bool, true, false, cond, List, length, codes, refl, ap, subst, sym, inr, arith, eq-eqb, ne_eqb, nat_le, Option, Some, None, unwrap_or, option_and_then, IfSome, Result, Ok, Err}
use Rattle.std.proofs.lemmas.Bool.{leb-true}
use Rattle.rand_chacha.specs.ChaCha.{key_of}
use Rattle.tda_io.specs.Texts.{int_of}
use Rattle.tda_io.specs.Outside.{Shelf}
use Rattle.tda_words.specs.Words.{words_of, stream_words}
use Rattle.tda_command.specs.Words as command
use Rattle.tda_command.specs.Words.{within, number_name, pairs_after, value_or_empty}
use Rattle.tda_inputs.specs.Survey.{read_words, read_seed, noise_from}
use Rattle.tda_inputs.specs.Ending.{file_limit, seed_length}
use Rattle.tda_refusal.specs.Refusal.{plain_text}
use Rattle.tda_inputs.specs.Reading.{path_of, source_path, IsRefused, GivesBy, GivesNoise, AsksFile}
use Rattle.tda_refusal.specs.declared.text.Plain.{Plain}
use Rattle.tda_refusal.specs.declared.text.Plain.TheVariants.{TooLong, BadLength}
use Rattle.tda_command.specs.declared.words.Number.TheVariants.{Place, Budget}
use Rattle.tda_command.specs.declared.words.Source.{Source}
use Rattle.tda_command.specs.declared.words.Source.TheVariants as source
use Rattle.tda_inputs.specs.declared.noise.Noise.{Noise}
use Rattle.tda_inputs.specs.declared.noise.Noise.TheVariants as noise
use Rattle.tda_inputs.specs.declared.reading.File.TheVariants as file
use Rattle.tda_inputs.specs.declared.reading.Stop.{Stop}
use Rattle.tda_inputs.proofs.Judged.{accepted, stop_by}
use Rattle.tda_inputs.proofs.Stops.{stop_given}

-- a budget isn't too large
pub budget_limit : (words : List (List ℕ)) → command.number_of words Budget ≤ 2 ^ 32
budget_limit words = by (int_of (value_or_empty (pairs_after words) (number_name Budget)))
  where
    and_right : (a b : Bool) → (a && b) ≡ true → b ≡ true
    and_right true b is = is
    and_right false b is = cc is

    small : (k : ℕ) (b : Bool) → (b ≡ true → k ≤ 2 ^ 32) → unwrap_or (cond b (Some k) None) 0 ≤ 2 ^ 32
    small k true le = le refl
    small k false le = omega arith

    by : (o : Option ℤ) → unwrap_or (option_and_then (within (0, 2 ^ 32)) o) 0 ≤ 2 ^ 32
    by None = omega arith
    by (Some (negsuc k)) = omega arith
    by (Some (pos k)) = small k (nat_le 0 k && nat_le k (2 ^ 32)) (λ e. leb-true k (2 ^ 32) (and_right (nat_le 0 k) (nat_le k (2 ^ 32)) e))

module _ (words : List (List ℕ)) (shelf : Option Shelf) (bytes : List ℕ) where
  pub words_refused : (s : Stop) → IsRefused file.Words (plain_text BadLength) s → IfSome shelf (λ h. h.holds (path_of words file.Words) ≡ Some bytes) → length bytes ≤ file_limit → length bytes % 4 ≢ 0
      → GivesBy {A = List ℕ} words file.Words (noise_from words source.Words) shelf (Err s)
  words_refused s is held less part =
      stop_given words file.Words plain_text read_words TooLong bytes bytes BadLength s shelf (stop_by TooLong file.Words plain_text BadLength s (λ e. cc e) is (inr refl)) held less refl
      (λ ne. ap (λ b. let r : Result (List ℕ) Plain = cond b (Ok (words_of bytes)) (Err BadLength) in r) (ne_eqb (length bytes % 4) 0 part))

  abbrev seed_words : Result (List ℕ) Plain
  seed_words = Ok (stream_words (key_of bytes) (command.number_of words Place) (command.number_of words Budget))

  pub seed_given : IfSome shelf (λ s. s.holds (path_of words file.Seed) ≡ Some bytes) → length bytes ≡ seed_length
      → GivesBy words file.Seed (noise_from words source.Seed) shelf (Ok (stream_words (key_of bytes) (command.number_of words Place) (command.number_of words Budget)))
  seed_given held size =
      accepted seed_length (codes "seed") plain_text (read_seed (command.number_of words Place) (command.number_of words Budget)) (path_of words file.Seed) bytes bytes _ shelf held (omega arith) refl
      (ap (λ b. cond b seed_words (Err BadLength)) (eq-eqb (length bytes) seed_length size))

  pub seed_refused : (s : Stop) → IsRefused file.Seed (plain_text BadLength) s → IfSome shelf (λ h. h.holds (path_of words file.Seed) ≡ Some bytes) → length bytes ≤ seed_length → length bytes ≢ seed_length
      → GivesBy {A = List ℕ} words file.Seed (noise_from words source.Seed) shelf (Err s)
  seed_refused s is held less other =
      stop_given words file.Seed plain_text (read_seed (command.number_of words Place) (command.number_of words Budget)) TooLong bytes bytes BadLength s shelf
      (stop_by TooLong file.Seed plain_text BadLength s (λ e. cc e) is (inr refl)) held less refl
      (λ ne. ap (λ b. cond b seed_words (Err BadLength)) (ne_eqb (length bytes) seed_length other))

  pub seed_noise : (seed : List ℕ) (place budget : ℕ) → place ≡ command.number_of words Place → budget ≡ command.number_of words Budget → seed ≡ bytes
      → IfSome shelf (λ s. s.holds (path_of words file.Seed) ≡ Some bytes) → length bytes ≡ seed_length → GivesNoise words file.Seed (noise_from words source.Seed) shelf (Ok (noise.Seed seed place budget))
  seed_noise seed place budget place_is budget_is seed_is held size =
      let P : List ℕ → ℕ → ℕ → Type 0 = λ sd p b. GivesBy words file.Seed (noise_from words source.Seed) shelf (Ok (stream_words (key_of sd) p b)) in (
        subst (λ b. b ≤ 2 ^ 32) (sym budget_is) (budget_limit words),
        subst (λ sd. P sd place budget) (sym seed_is) (subst (λ p. P bytes p budget) (sym place_is) (subst (λ b. P bytes (command.number_of words Place) b) (sym budget_is) (seed_given held size))),
      )

-- the file that the words come from
module _ (words : List (List ℕ)) (from : Source) (at : from ≡ command.source_of words) where
  pub given_from : (shelf : Option Shelf) (r : Result Noise Stop) → GivesNoise words (source_path from) (noise_from words from) shelf r
      → GivesNoise words (source_path (command.source_of words)) (noise_from words (command.source_of words)) shelf r
  given_from shelf r given = subst (λ s. GivesNoise words (source_path s) (noise_from words s) shelf r) at given

  pub asked_from : (old new : Option Shelf) (r : Result Noise Stop) → AsksFile words (source_path from) old new r → AsksFile words (source_path (command.source_of words)) old new r
  asked_from old new r asked = subst (λ s. AsksFile words (source_path s) old new r) at asked
