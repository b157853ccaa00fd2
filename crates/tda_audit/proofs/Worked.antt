-- Two blocks of one cell with the measurements 3 and 4, and five persons: verdicts computed.
use Rattle.std.proofs.Common.{◌≡◌, ℕ, List, [], ◌∷◌, Some, None, ℤ, pos, refl, codes, slice_index, zero, suc}
use Rattle.std.specs.Prelude.{slice_index_or}
use Rattle.tda_model.specs.Schema.{Fraction, Schema}
use Rattle.tda_model.specs.Commons.{lcm}
use Rattle.tda_model.specs.Spine.{Spine}
use Rattle.tda_model.specs.Tables.{Tables}
use Rattle.tda_model.specs.Release.{Inputs}
use Rattle.tda_loss.specs.declared.Curve.TheVariants.{Square}
use Rattle.tda_loss.specs.Curve.{value_of}
use Rattle.tda_flow.specs.Flow.{arc_cost}
use Rattle.tda_flow.specs.Sum.{sum_below}
use Rattle.tda_flow.specs.declared.judge.Side.TheVariants.{Up, Down}
use Rattle.tda_fitnet.specs.declared.name.ArcName.TheVariants.{Group}
use Rattle.tda_prices.specs.Items.{Pricing}
use Rattle.tda_audit.specs.Verdicts.{verdict}
use Rattle.tda_audit.specs.declared.verdict.Verdict.TheVariants.{Yes, Sum, Total, Arc}

abbrev whole : Fraction
whole = record { num = 1; den = 1 }

abbrev schema : Schema
schema = record {
  total = whole;
  attributes = record { name = codes "kind"; values = codes "house" ∷ [] } ∷ [];
  recodes = [];
  zeros = [];
  levels = record { name = codes "nation"; queries = [] } ∷ record { name = codes "state"; queries = [] }
      ∷ record { name = codes "block"; queries = record { name = codes "total"; by = []; only = []; share = whole } ∷ [] } ∷ [];
}

abbrev spine : Spine
spine = record { depth = 3; units = record { code = codes "US"; level = 0; parent = None } ∷ record { code = codes "S1"; level = 1; parent = Some 0 } ∷ record { code = codes "B1"; level = 2; parent = Some 1 } ∷ record { code = codes "B2"; level = 2; parent = Some 1 } ∷ [] }

abbrev measured : ℕ → ℤ
measured u = slice_index_or (pos 0 ∷ pos 0 ∷ pos 3 ∷ pos 4 ∷ []) u (pos 0)

abbrev inputs : Inputs
inputs = record { schema = schema; spine = spine; known = record { facilities = λ b k. 0; most = λ b k. 0; total = λ st. 5 }; measured = λ u q c. measured u }

abbrev groups : ℕ → List (List ℕ)
groups l = (0 ∷ []) ∷ []

-- the counts of US, S1, B1 and B2
abbrev tables : ℕ → ℕ → ℕ → ℕ → Tables
tables n s a b u j = slice_index (n ∷ s ∷ a ∷ b ∷ []) u

-- 0 in all fits but the last, where all are p
abbrev prices : ℕ → Pricing
prices p None item = pos 0
prices p (Some zero) item = pos 0
prices p (Some (suc n)) item = pos p

least : verdict inputs groups Square (tables 5 5 2 3) (prices 2) ≡ Yes
unfolding lcm value_of arc_cost sum_below
least = refl

-- the prices from 1 to 3 certify it, and no others
low : verdict inputs groups Square (tables 5 5 2 3) (prices 1) ≡ Yes
unfolding lcm value_of arc_cost sum_below
low = refl

too_low : verdict inputs groups Square (tables 5 5 2 3) (prices 0) ≡ Arc (Some 1) (Group 2 0) Up
unfolding lcm value_of arc_cost sum_below
too_low = refl

too_high : verdict inputs groups Square (tables 5 5 2 3) (prices 4) ≡ Arc (Some 1) (Group 2 0) Down
unfolding lcm value_of arc_cost sum_below
too_high = refl

-- all to the first block is no least split, and no prices would show it
lopsided : verdict inputs groups Square (tables 5 5 5 0) (prices 2) ≡ Arc (Some 1) (Group 2 0) Down
unfolding lcm value_of arc_cost sum_below
lopsided = refl

not_summed : verdict inputs groups Square (tables 5 5 2 2) (prices 2) ≡ Sum 1 0
unfolding lcm value_of arc_cost sum_below
not_summed = refl

wrong_total : verdict inputs groups Square (tables 4 4 2 2) (prices 2) ≡ Total 1
unfolding lcm value_of arc_cost sum_below
wrong_total = refl
