-- The file of totals that is written is short enough to be read.
use Rattle.std.proofs.Common.{◌≡◌, ℕ, zero, suc, ◌+◌, ◌*◌, ◌<◌, ◌≤◌, ◌^◌, List, [], ◌∷◌, ◌++◌, length, length-append, refl, true, arith}
use Rattle.std.proofs.lemmas.Bool.{and_parts, leb-true}
use Rattle.std.proofs.lemmas.Fmt.{length-decimal-le}
use Rattle.std.proofs.lemmas.List.Elements.{recursion_from_All}
use Rattle.std.specs.Fmt.{decimal}
use Rattle.std.specs.List.{flat_map, join_with_byte, list_all}
use Rattle.tda_io.specs.Texts.{is_name_byte, starts_name, name_test}
use Rattle.tda_model.specs.Bounds.{persons_limit}
use Rattle.tda_model.specs.Spine.{Spine, code_of, is_at, units_at}
use Rattle.tda_model.specs.TablesText.{row_text}
use Rattle.tda_model.proofs.Sums.{Each}
use Rattle.tda_spine.specs.Sound.{IsSound}
use Rattle.tda_spine.proofs.Numbers.{length-kept-le}
use Rattle.tda_invar.specs.Totals.{header, total_of, total_row, totals_text, AreTotalsOf}
use Rattle.tda_invar.proofs.Existence.{total_small}
use Rattle.tda_invar.proofs.StatePlaces.{IsState, states_are}

-- texts of at most so many bytes each, one after another
joined_length : {X : Type 0} (f : X → List ℕ) (most : ℕ) (xs : List X) → Each (λ x. length (f x) ≤ most) xs → length (flat_map f xs) ≤ length xs * most
joined_length f most [] h = omega arith
joined_length f most (x ∷ xs) (e, h) =
    let rest = joined_length f most xs h in
    let parts = length-append (f x) (flat_map f xs) in
    next (length (f x)) (length (flat_map f xs)) (length xs) (length (f x ++ flat_map f xs)) e rest parts
  where
    next : (a b n c : ℕ) → a ≤ most → b ≤ n * most → c ≡ a + b → c ≤ suc n * most
    next a b n c small le is = omega arith

name_length : (most : ℕ) (name : List ℕ) → name_test most name ≡ true → length name ≤ most
name_length most name h = leb-true (length name) most (and_parts _ _ (and_parts _ _ h).0).1

-- two fields, the comma between them and the line feed
pair_length : (x y : List ℕ) → length (row_text (x ∷ y ∷ [])) ≡ length x + length y + 2
pair_length x y =
    let inner = length-append x (44 ∷ y) in
    let whole = length-append (x ++ 44 ∷ y) (10 ∷ []) in
    omega arith

module _ (sp : Spine) (sound : IsSound sp) (totals : List ℕ) (are : AreTotalsOf sp totals) where
  row_length : (u : ℕ) → IsState sp u → length (row_text (total_row sp totals u)) ≤ 28
  row_length u state =
      let limit = total_small sp totals are.few u in
      let code = name_length 16 (code_of sp u) (sound.coded u state.here) in
      let total = length-decimal-le 10 (total_of sp totals u) (omega arith) (omega arith) (omega arith) in
      let row = pair_length (code_of sp u) (decimal (total_of sp totals u)) in
      omega arith

  row_lengths : (us : List ℕ) → Each (IsState sp) us → Each (λ u. length (row_text (total_row sp totals u)) ≤ 28) us
  row_lengths [] h = tt
  row_lengths (u ∷ us) (e, h) = (row_length u e, row_lengths us h)

  pub text_length : length (totals_text sp totals) ≤ 2 ^ 28
  text_length =
      let states = units_at sp 1 in
      let rows = joined_length (λ u. row_text (total_row sp totals u)) 28 states (row_lengths states (recursion_from_All (IsState sp) states (states_are sp))) in
      let parts = length-append (row_text header) (flat_map (λ u. row_text (total_row sp totals u)) states) in
      let few = length-kept-le (is_at sp 1) (length sp.units) in
      let units = sound.few in
      let first : length (row_text header) ≡ 12 = refl in
      omega arith
