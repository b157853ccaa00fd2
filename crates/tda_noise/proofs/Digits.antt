-- Pieces of words: their numbers, and that words begin with one piece at most.
use Rattle.std.proofs.Common.{ℕ, zero, suc, ◌≡◌, ◌+◌, ◌*◌, ◌%◌, ◌^◌, ◌-◌, ◌<◌, ◌≤◌, max, List, [], ◌∷◌, ◌++◌, length, drop, take, refl, sym, ap, arith, ◌∙◌, append_assoc, length-append}
use Rattle.std.proofs.Math.Nat.{mul-le-mul_right, mod-eq_of_lt}
use Rattle.std.proofs.Math.Pow.{pow_mono, pow-lt}
use Rattle.std.proofs.lemmas.Nat.{pow-add, and_mask}
use Rattle.std.proofs.Math.Seq.{take-append_seam, drop-append_seam}
use Rattle.std.specs.Int.{div_ceil}
use Rattle.std.specs.Int.Bits.{bit_and}
use Rattle.tda_noise.specs.Draws.{number_of, words_for, IsPiece, Ends}
use Rattle.tda_noise.specs.Answers.{CountsTaken}
use Rattle.tda_noise.proofs.Peel.{IsProper}

-- the length of a piece, as it is computed
pub words_are : (k : ℕ) → max (div_ceil k 32) 1 ≡ words_for k
words_are zero = refl
words_are (suc k) = omega arith

pub words_few : (k : ℕ) → k ≤ 100 → max (div_ceil k 32) 1 ≤ 4
words_few k few = omega arith

words_some : (k : ℕ) → 1 ≤ words_for k
words_some zero = omega arith
words_some (suc k) = omega arith

-- a word more above a number
pub more_is : (number word i : ℕ) → number < 2 ^ (32 * i) → word < 2 ^ 32 → number + word * 2 ^ (32 * i) < 2 ^ (32 * (i + 1))
more_is number word i small word_small =
    let P = 2 ^ (32 * i) in
    let h : (word + 1) * P ≤ 2 ^ 32 * P = mul-le-mul_right P (omega arith) in
    let e : 2 ^ (32 + 32 * i) ≡ 2 ^ 32 * P = pow-add 2 32 (32 * i) in
    let d : 32 * (i + 1) ≡ 32 + 32 * i = omega arith in
    rw (d, e) (omega arith)

pub more_fits : (number word i : ℕ) → number < 2 ^ (32 * i) → word < 2 ^ 32 → i < 4 → number + word * 2 ^ (32 * i) < 2 ^ 128
more_fits number word i small word_small few =
    let h = more_is number word i small word_small in
    let m : 2 ^ (32 * (i + 1)) ≤ 2 ^ 128 = pow_mono {i = 32 * (i + 1)} {j = 128} (omega arith) in omega arith

pub more_whole : (number word i : ℕ) → number < 2 ^ (32 * i) → word < 2 ^ 32 → i < 4 →
    number + word * 2 ^ (32 * i) % 2 ^ 128 ≡ number + word * 2 ^ (32 * i)
more_whole number word i small word_small few =
    let h = more_fits number word i small word_small few in
    let below : word * 2 ^ (32 * i) < 2 ^ 128 = omega arith in
    ap (λ x. number + x) (mod-eq_of_lt below)

pub number_more : (piece : List ℕ) (word : ℕ) → number_of (piece ++ (word ∷ [])) ≡ number_of piece + word * 2 ^ (32 * length piece)
number_more [] word = omega arith
number_more (x ∷ piece) word =
    let ih = number_more piece word in
    let e : 2 ^ (32 + 32 * length piece) ≡ 2 ^ 32 * 2 ^ (32 * length piece) = pow-add 2 32 (32 * length piece) in
    let d : 32 * suc (length piece) ≡ 32 + 32 * length piece = omega arith in
    rw (d, e, ih) (omega arith)

-- what the loop over words has: so many words from the front, of this number
pub record Has (before : List ℕ) (taken_before : ℕ) (now : List ℕ) (taken : ℕ) (i number : ℕ) : Type 0 where
  pub piece : List ℕ
  pub cut : before ≡ piece ++ now
  pub words : length piece ≡ i
  pub value : number ≡ number_of piece
  pub small : number < 2 ^ (32 * i)
  pub counts : CountsTaken before taken_before now taken

pub has_none : (w : List ℕ) (taken : ℕ) → Has w taken w taken 0 0
has_none w taken = record { piece = []; cut = refl; words = refl; value = refl; small = omega arith; counts = refl }

pub has_more : {before : List ℕ} {taken_before : ℕ} {w : List ℕ} {taken i number : ℕ} → Has before taken_before w taken i number →
    (word : ℕ) (now : List ℕ) (taken_now : ℕ) → w ≡ word ∷ now → taken_now ≡ taken + 1 → word < 2 ^ 32 → i < 4 →
    Has before taken_before now taken_now (i + 1) (number + word * 2 ^ (32 * i) % 2 ^ 128)
has_more {before} {taken_before} {w} {taken} {i} {number} h word now taken_now e f word_small few =
    let whole = more_whole number word i h.small word_small few in
    let len : length w ≡ suc (length now) = ap length e in
    let counted : taken + length w ≡ taken_before + length before = h.counts in
    let lengths : length (h.piece ++ (word ∷ [])) ≡ length h.piece + 1 = length-append h.piece (word ∷ []) in
    record {
      piece = h.piece ++ (word ∷ []);
      cut = h.cut ∙ ap (λ u. h.piece ++ u) e ∙ sym (append_assoc h.piece (word ∷ []) now);
      words = lengths ∙ ap (λ n. n + 1) h.words;
      value = whole ∙ rw (number_more h.piece word, h.words) (ap (λ x. x + word * 2 ^ (32 * i)) h.value);
      small = rw whole (more_is number word i h.small word_small);
      counts = omega arith;
    }

-- the words have ended
pub counts_none : (before : List ℕ) (taken_before : ℕ) (w : List ℕ) (taken : ℕ) → CountsTaken before taken_before w taken →
    (now : List ℕ) (taken_now : ℕ) → w ≡ [] → now ≡ [] → taken_now ≡ taken → CountsTaken before taken_before now taken_now
counts_none before taken_before w taken h now taken_now e f k = rw (f, k) (rw e at h)

-- a whole piece
pub has_piece : (k : ℕ) {before : List ℕ} {taken_before : ℕ} {w : List ℕ} {taken i number : ℕ} → Has before taken_before w taken i number →
    k ≤ 100 → i ≡ words_for k → IsPiece k before (bit_and number (1 * 2 ^ k % 2 ^ 128 - 1)) w
has_piece k {before} {taken_before} {w} {taken} {i} {number} h few whole =
    let below : 2 ^ k < 2 ^ 128 = pow-lt {i = k} {j = 128} (omega arith) in
    let one : 1 * 2 ^ k ≡ 2 ^ k = omega arith in
    let e : 2 ^ k % 2 ^ 128 ≡ 2 ^ k = mod-eq_of_lt below in
    record {
      piece = h.piece;
      cut = h.cut;
      words = h.words ∙ whole;
      number = rw (one, e, and_mask number k) (ap (λ n. n % 2 ^ k) h.value);
    }

-- too few words for a piece
pub no_piece : (k : ℕ) {before : List ℕ} {taken_before : ℕ} {w : List ℕ} {taken i number : ℕ} → Has before taken_before w taken i number →
    w ≡ [] → i < words_for k → Ends (IsPiece k) before
no_piece k {before} {taken_before} {w} {taken} {i} {number} h e short m r p =
    let a : length before ≡ length h.piece + length w = ap length h.cut ∙ length-append h.piece w in
    let b : length before ≡ length p.piece + length r = ap length p.cut ∙ length-append p.piece r in
    let c : length w ≡ 0 = ap length e in
    let d = p.words in
    let f = h.words in
    absurd (omega arith)

-- two cuts at one length are one
pub same_piece : (p q r s : List ℕ) → length p ≡ length q → p ++ r ≡ q ++ s → p ≡ q
same_piece p q r s e c =
    sym (take-append_seam p r) ∙ ap (take (length p)) c ∙ ap (λ n. take n (q ++ s)) e ∙ take-append_seam q s

pub same_rest : (p q r s : List ℕ) → length p ≡ length q → p ++ r ≡ q ++ s → r ≡ s
same_rest p q r s e c =
    sym (drop-append_seam p r) ∙ ap (drop (length p)) c ∙ ap (λ n. drop n (q ++ s)) e ∙ drop-append_seam q s

pub piece_proper : (k : ℕ) → IsProper (IsPiece k)
piece_proper k = record {
  value = λ w m n r s a b.
      a.number ∙ ap (λ p. number_of p % 2 ^ k) (same_piece a.piece b.piece r s (a.words ∙ sym b.words) (sym a.cut ∙ b.cut)) ∙ sym b.number;
  rest = λ w m n r s a b. same_rest a.piece b.piece r s (a.words ∙ sym b.words) (sym a.cut ∙ b.cut);
  takes = λ w m r a.
      let e : length w ≡ length a.piece + length r = ap length a.cut ∙ length-append a.piece r in
      let some = words_some k in
      let whole = a.words in
      omega arith;
}
