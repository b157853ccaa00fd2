-- Codes by number: where a list of codes has one.
use Rattle.std.proofs.Common.{◌≡◌, ℕ, zero, suc, ◌+◌, ◌<◌, ◌≤◌, All, take, Bool, true, false, cond, not, nat_lt, List, [], ◌∷◌, map, length, get_or, Option, Some, None, position, refl, sym, ap, ◌∙◌, arith}
use Rattle.std.specs.List.{position_or_len}
use Rattle.std.specs.Str.{bytes_eq}
use Rattle.std.specs.Cmp.Lexicographic.{bytes_decides}
use Rattle.std.proofs.lemmas.List.{length-map, length-take-le, get_or-map, get_or-take}
use Rattle.std.proofs.lemmas.Option.{slice_get-get_or}
use Rattle.tda_model.specs.Spine.{SpineUnit, code_of}
use Rattle.tda_spine.specs.Sound.{spine_of, unit_named}
use Rattle.std.proofs.lemmas.List.Quantifiers.{position-Some}
use Rattle.std.proofs.lemmas.Bool.{lt-ltb}

module _ {X Y : Type 0} (f : X → Y) (p : Y → Bool) where
  first_map : (xs : List X) → position_or_len p (map f xs) ≡ position_or_len (λ x. p (f x)) xs
  first_map [] = refl
  first_map (x ∷ xs) = ap (λ n. cond (not (p (f x))) (1 + n) 0) (first_map xs)

  pub position-map : (xs : List X) → position p (map f xs) ≡ position (λ x. p (f x)) xs
  position-map xs =
      ap (λ n. cond (nat_lt n (length (map f xs))) (Some n) None) (first_map xs)
      ∙ ap (λ n. cond (nat_lt (position_or_len (λ x. p (f x)) xs) n) (Some (position_or_len (λ x. p (f x)) xs)) None) (length-map xs f)

module _ {X : Type 0} (p : X → Bool) where
  -- a test that no element passes finds none
  pub position_never : (xs : List X) (d : X) → ((k : ℕ) → k < length xs → p (get_or xs k d) ≡ true → ⊥) → position p xs ≡ None
  position_never xs d h = by (position p xs) refl
    where
      by : (o : Option ℕ) → position p xs ≡ o → o ≡ None
      by None e = refl
      by (Some k) e = let at = position-Some p xs k d e in absurd (h k at.0 at.1)

  first_low : (xs : List X) (k : ℕ) (d : X) → k < length xs → p (get_or xs k d) ≡ true → position_or_len p xs ≤ k
  first_low [] k d lt is = absurd (omega arith)
  first_low (x ∷ xs) zero d lt is = let e : position_or_len p (x ∷ xs) ≡ 0 = ap (λ b. cond (not b) (1 + position_or_len p xs) 0) is in omega arith
  first_low (x ∷ xs) (suc k) d lt is = step (p x) (first_low xs k d (omega arith) is)
    where
      step : (b : Bool) → position_or_len p xs ≤ k → cond (not b) (1 + position_or_len p xs) 0 ≤ suc k
      step true le = omega arith
      step false le = omega arith

  -- where one passes, some place is found
  pub position_seen : (xs : List X) (k : ℕ) (d : X) → k < length xs → p (get_or xs k d) ≡ true → position p xs ≡ None → ⊥
  position_seen xs k d lt is none =
      let le = first_low xs k d lt is in
      let some : position p xs ≡ Some (position_or_len p xs) =
      ap (λ b. cond b (Some (position_or_len p xs)) None) (lt-ltb (position_or_len p xs) (length xs) (omega arith)) in
      cc

-- the codes of the first units, each apart from the next
pub codes_apart : (units : List SpineUnit) (n : ℕ) (code : List ℕ) → n < length units
    → ((u v : ℕ) → u < v → v < length units → code_of (spine_of 0 units) u ≡ code_of (spine_of 0 units) v → ⊥)
    → code_of (spine_of 0 units) n ≡ code → All (λ known. code ≡ known → ⊥) (map (λ x. x.code) (take n units))
codes_apart units n code here apart e k d lt same =
    let len : length (map (λ x. x.code) (take n units)) ≡ n = length-map (take n units) (λ x. x.code) ∙ length-take-le n units (omega arith) in
    let low : k < n = omega arith in
    let far : k < length units = omega arith in
    let none : SpineUnit = record { code = []; level = 0; parent = None } in
    let known : get_or (map (λ x. x.code) (take n units)) k d ≡ (get_or units k none).code =
    get_or-map (λ x. x.code) (take n units) k none d (omega (arith, length-take-le n units (omega arith))) ∙ ap (λ x. x.code) (get_or-take n units k none low) in
    let other : code_of (spine_of 0 units) k ≡ (get_or units k none).code =
    ap (λ o. elim o as (λ _. List ℕ) [ Some x ↦ x.code | None ↦ [] ]) (slice_get-get_or units k none far) in
    apart k n low here (other ∙ sym known ∙ sym same ∙ sym e)

-- look-ups among the codes of a spine
module _ (depth : ℕ) (units : List SpineUnit) (code : List ℕ) where
  pub named_by : (codes : List (List ℕ)) → codes ≡ map (λ x. x.code) units → position (bytes_eq code) codes ≡ unit_named (spine_of depth units) code
  named_by codes e = ap (position (bytes_eq code)) e ∙ position-map (λ x. x.code) (bytes_eq code) units

  none : SpineUnit
  none = record { code = []; level = 0; parent = None }

  code_there : (u : ℕ) → u < length units → code_of (spine_of depth units) u ≡ (get_or units u none).code
  code_there u lt = ap (λ o. elim o as (λ _. List ℕ) [ Some x ↦ x.code | None ↦ [] ]) (slice_get-get_or units u none lt)

  pub named_is : (u : ℕ) → unit_named (spine_of depth units) code ≡ Some u → (u < length units) × (code_of (spine_of depth units) u ≡ code)
  named_is u e =
      let at = position-Some (λ x. bytes_eq code x.code) units u none e in
      (at.0, code_there u at.0 ∙ sym ((bytes_decides code (get_or units u none).code).0 at.1))

  pub unnamed : unit_named (spine_of depth units) code ≡ None → (u : ℕ) → u < length units → code_of (spine_of depth units) u ≡ code → ⊥
  unnamed e u lt same =
      position_seen (λ x. bytes_eq code x.code) units u none lt ((bytes_decides code (get_or units u none).code).1 (sym same ∙ code_there u lt)) e
