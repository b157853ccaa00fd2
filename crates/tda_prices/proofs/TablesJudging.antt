-- What a row of the file of tables says, and where it stands.
use Rattle.std.proofs.Common.{◌≡◌, ℕ, ◌+◌, ◌*◌, ◌<◌, ◌&&◌, ◌==◌, ◌^◌, cond, Bool, true, false, not, List, [], ◌∷◌, length, get_or, Option, Some, None, nat_lt, is_none, refl, sym, ap, ◌∙◌, arith, eq-eqb}
use Rattle.std.specs.Prelude.{position, unwrap_or}
use Rattle.std.specs.Str.{bytes_eq}
use Rattle.std.specs.List.{prefix_len}
use Rattle.std.proofs.lemmas.Bool.{false_from_ne_true, le-ltb, lt-ltb}
use Rattle.std.proofs.lemmas.Option.{get_or_from_slice_get, slice_get_within}
use Rattle.std.proofs.lemmas.Slice.Eq.{bytes_eq-Decides}
use Rattle.tda_io.specs.Csv.{Row}
use Rattle.tda_model.specs.Schema.{Schema}
use Rattle.tda_model.specs.Cells.{cell_count}
use Rattle.tda_model.specs.Spine.{Spine, code_of, IsUnit}
use Rattle.tda_model.specs.TablesText.{units_in_order}
use Rattle.tda_model.proofs.Sums.{Each, each_weaker}
use Rattle.tda_out.proofs.Once.{units_here}
use Rattle.tda_spine.specs.Sound.{IsSound}
use Rattle.tda_prices.specs.Ranks.{AreRanks}
use Rattle.tda_prices.specs.TablesRead.{number_within, count_in, spot_by, spot_in, comes_late, fault_after, names}
use Rattle.tda_prices.specs.declared.fault.TabFault.{TabFault}
use Rattle.tda_prices.specs.declared.fault.TabFault.TheVariants.{WrongPlace, BadNumber}
use Rattle.tda_prices.proofs.TablesFine.{unit_at}
use Rattle.tda_prices.proofs.TablesGather.{within_too}

none_late : (last : Option ℕ) → comes_late last None ≡ true
none_late None = refl
none_late (Some k) = refl

all_fail : (p : ℕ → Bool) (xs : List ℕ) → Each (λ x. p x ≡ false) xs → prefix_len (λ x. not (p x)) xs ≡ length xs
all_fail p [] h = refl
all_fail p (x ∷ xs) h = ap (λ b. cond (not b) (1 + prefix_len (λ x. not (p x)) xs) 0) h.0 ∙ (let e = all_fail p xs h.1 in omega arith)

no_position : (p : ℕ → Bool) (xs : List ℕ) → Each (λ x. p x ≡ false) xs → position p xs ≡ None
no_position p xs h =
    ap (λ k. cond (nat_lt k (length xs)) (Some k) None) (all_fail p xs h) ∙ ap (λ b. cond b (Some (length xs)) None) (le-ltb (length xs) (length xs) (omega arith))

module _ (s : Schema) (sp : Spine) (number : ℕ) (last : Option ℕ) (row : Row) where
  abbrev then_count : Option TabFault
  then_count = cond (is_none (count_in row)) (Some (BadNumber number)) None

  pub late_fault : comes_late last (spot_in s sp row) ≡ true → fault_after s sp number last row ≡ Some (WrongPlace number)
  late_fault late = ap (λ b. cond b (Some (WrongPlace number)) then_count) late

  pub stands_nowhere : spot_in s sp row ≡ None → fault_after s sp number last row ≡ Some (WrongPlace number)
  stands_nowhere none = late_fault (ap (comes_late last) none ∙ none_late last)

  module _ (spot : ℕ) (at : spot_in s sp row ≡ Some spot) (late : comes_late last (Some spot) ≡ false) where
    in_order : fault_after s sp number last row ≡ then_count
    in_order = ap (λ b. cond b (Some (WrongPlace number)) then_count) (ap (comes_late last) at ∙ late)

    pub no_count : count_in row ≡ None → fault_after s sp number last row ≡ Some (BadNumber number)
    no_count none = in_order ∙ ap (λ o. cond (is_none o) (Some (BadNumber number)) None) none

    pub no_fault : (n : ℕ) → count_in row ≡ Some n → fault_after s sp number last row ≡ None
    no_fault n count = in_order ∙ ap (λ o. cond (is_none o) (Some (BadNumber number)) None) count

module _ (s : Schema) (sp : Spine) (sound : IsSound sp) (row : Row) where
  -- the code of no unit
  pub nowhere : ((u : ℕ) → IsUnit sp u → code_of sp u ≡ get_or row 0 [] → ⊥) → spot_in s sp row ≡ None
  nowhere absent =
      ap (λ o. spot_by s o (number_within 0 (cell_count s) (get_or row 1 [])))
      (no_position (λ v. bytes_eq (get_or row 0 []) (code_of sp v)) (units_in_order sp)
      (each_weaker (IsUnit sp) (λ v. bytes_eq (get_or row 0 []) (code_of sp v) ≡ false) (units_in_order sp)
      (λ v here. false_from_ne_true (bytes_eq (get_or row 0 []) (code_of sp v)) (λ e. absent v here (sym ((bytes_eq-Decides (get_or row 0 []) (code_of sp v)).0 e))))
      (units_here sp sound.tree)))

  module _ (few : cell_count s < 2 ^ 64) (u j : ℕ) (here : IsUnit sp u) (in_row : j < cell_count s) (code : code_of sp u ≡ get_or row 0 [])
      (is : number_within 0 (cell_count s) (get_or row 1 []) ≡ Some j) where
    pub named : names sp u j row ≡ true
    named =
        ap (λ b. b && (unwrap_or (number_within 0 (j + 1) (get_or row 1 [])) (j + 1) == j)) ((bytes_eq-Decides (get_or row 0 []) (code_of sp u)).1 (sym code))
        ∙ ap (λ o. unwrap_or o (j + 1) == j) (within_too (cell_count s) (j + 1) j (get_or row 1 []) is (omega arith)) ∙ eq-eqb j j refl

    pub spot_at : (ranks : List ℕ) → AreRanks sp ranks → spot_in s sp row ≡ Some (get_or ranks u 0 * cell_count s + j)
    spot_at ranks are =
        let rank = get_or ranks u 0 in
        let there = are.there u here in
        let below = slice_get_within (units_in_order sp) rank u there in
        let unit = get_or_from_slice_get (units_in_order sp) rank u 0 there in
        ap (λ o. spot_by s o (number_within 0 (cell_count s) (get_or row 1 [])))
        (ap (λ text. position (λ v. bytes_eq text (code_of sp v)) (units_in_order sp)) (sym code ∙ ap (code_of sp) (sym unit)) ∙ unit_at s sp sound few rank below)
        ∙ ap (spot_by s (Some rank)) is
        ∙ ap (λ b. cond b (Some (rank * cell_count s + j)) None) (lt-ltb j (cell_count s) in_row)
