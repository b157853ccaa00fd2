-- A loop over the arcs of a fit: it ends at the first that fails.
use Rattle.std.proofs.Common.{◌≡◌, ℕ, ◌+◌, ◌<◌, ◌≤◌, Bool, List, [], ◌∷◌, ◌++◌, length, get_or, map, Option, Some, None, refl, sym, ap, ◌∙◌}
use Rattle.std.proofs.lemmas.List.{append_assoc}
use Rattle.std.specs.Prelude.{find, Result, Ok, Err, IfOk}
use Rattle.tda_io.specs.declared.NoMemory.{NoMemory}
use Rattle.std.specs.List.{flat_map}
use Rattle.tda_model.specs.Tables.{Tables}
use Rattle.tda_model.specs.Release.{Inputs}
use Rattle.tda_loss.specs.declared.Curve.{Curve}
use Rattle.tda_flow.specs.declared.judge.Side.{Side}
use Rattle.tda_fitnet.specs.declared.name.ArcName.{ArcName}
use Rattle.tda_prices.specs.Items.{Pricing}
use Rattle.tda_audit.specs.Arcs.{arc_of}
use Rattle.tda_audit.specs.Verdicts.{both_sides, failing, all_sides, fails, first_failing}
use Rattle.tda_audit.specs.declared.verdict.Verdict.{Verdict}
use Rattle.tda_audit.specs.declared.verdict.Verdict.TheVariants.{Arc}
use Rattle.tda_audit.proofs.Walks.{or_else, find_joined, FailsInto, none_here, found_here, none_at_all}
use Rattle.tda_audit.proofs.Passes.{mapped_none, mapped_some}

-- ---- lists that are put together
joined_appended : {Y Z : Type 0} (h : Y → List Z) (xs ys : List Y) → flat_map h (xs ++ ys) ≡ flat_map h xs ++ flat_map h ys
joined_appended h [] ys = refl
joined_appended h (x ∷ xs) ys = ap (λ zs. h x ++ zs) (joined_appended h xs ys) ∙ sym (append_assoc (h x) (flat_map h xs) (flat_map h ys))

pub joined_mapped : {X Y Z : Type 0} (h : Y → List Z) (f : X → Y) (xs : List X) → flat_map h (map f xs) ≡ flat_map (λ x. h (f x)) xs
joined_mapped h f [] = refl
joined_mapped h f (x ∷ xs) = ap (λ zs. h (f x) ++ zs) (joined_mapped h f xs)

joined_joined : {X Y Z : Type 0} (h : Y → List Z) (g : X → List Y) (xs : List X) → flat_map h (flat_map g xs) ≡ flat_map (λ x. flat_map h (g x)) xs
joined_joined h g [] = refl
joined_joined h g (x ∷ xs) = joined_appended h (g x) (flat_map g xs) ∙ ap (λ zs. flat_map h (g x) ++ zs) (joined_joined h g xs)

module _ (i : Inputs) (groups : ℕ → List (List ℕ)) (c : Curve) (x : Tables) (price : Pricing) (fit : Option ℕ) where
  abbrev p : Verdict → Bool
  p = fails i groups c x price

  abbrev sides : ArcName → List Verdict
  sides a = map (Arc fit a) both_sides

  -- ---- over arcs
  module _ (f : ℕ → ArcName) (xs : List ℕ) where
    -- no arc before this place fails
    abbrev pub NoArcInto : ℕ → Type 0
    NoArcInto k = FailsInto (fails i groups c x price) (λ j. map (Arc fit (f j)) both_sides) xs k

    whole : find p (flat_map (λ j. sides (f j)) xs) ≡ first_failing i groups c x price fit (map f xs)
    whole = ap (find p) (sym (joined_mapped sides f xs))

    module _ (k : ℕ) (before : NoArcInto k) where
      pub arc_fine : (d : ℕ) → k < length xs → None ≡ failing (arc_of c i groups x price fit (f (get_or xs k d))) → NoArcInto (k + 1)
      arc_fine d below none = none_here p (λ j. sides (f j)) xs k before d below (mapped_none p (Arc fit (f (get_or xs k d))) both_sides (sym none))

      pub arc_fails : (d : ℕ) → k < length xs → (side : Side) → Some side ≡ failing (arc_of c i groups x price fit (f (get_or xs k d)))
          → Some (Arc fit (f (get_or xs k d)) side) ≡ first_failing i groups c x price fit (map f xs)
      arc_fails d below side found =
          found_here p (λ j. sides (f j)) xs k before d below (Arc fit (f (get_or xs k d)) side) (mapped_some p (Arc fit (f (get_or xs k d))) both_sides side (sym found)) ∙ whole

      pub no_arc : length xs ≤ k → None ≡ first_failing i groups c x price fit (map f xs)
      no_arc all = none_at_all p (λ j. sides (f j)) xs k before all ∙ whole

  -- ---- over units with their arcs
  module _ (g : ℕ → List ArcName) (xs : List ℕ) where
    abbrev pub NoUnitInto : ℕ → Type 0
    NoUnitInto k = FailsInto (fails i groups c x price) (λ j. all_sides fit (g j)) xs k

    whole_units : find p (flat_map (λ j. all_sides fit (g j)) xs) ≡ first_failing i groups c x price fit (flat_map g xs)
    whole_units = ap (find p) (sym (joined_joined sides g xs))

    module _ (k : ℕ) (before : NoUnitInto k) where
      pub unit_fine : (d : ℕ) → k < length xs → None ≡ first_failing i groups c x price fit (g (get_or xs k d)) → NoUnitInto (k + 1)
      unit_fine d below none = none_here p (λ j. all_sides fit (g j)) xs k before d below (sym none)

      pub unit_fails : (d : ℕ) → k < length xs → (v : Verdict) → Some v ≡ first_failing i groups c x price fit (g (get_or xs k d)) → Some v ≡ first_failing i groups c x price fit (flat_map g xs)
      unit_fails d below v found = found_here p (λ j. all_sides fit (g j)) xs k before d below v (sym found) ∙ whole_units

      pub no_unit : length xs ≤ k → None ≡ first_failing i groups c x price fit (flat_map g xs)
      no_unit all = none_at_all p (λ j. all_sides fit (g j)) xs k before all ∙ whole_units

  -- ---- one part after the other
  pub parts : (xs ys : List ArcName) → first_failing i groups c x price fit (xs ++ ys) ≡ or_else (first_failing i groups c x price fit xs) (first_failing i groups c x price fit ys)
  parts xs ys = ap (find p) (joined_appended sides xs ys) ∙ find_joined p (all_sides fit xs) (all_sides fit ys)

  pub part_fails : (xs ys : List ArcName) (v : Verdict) → Some v ≡ first_failing i groups c x price fit xs → Some v ≡ first_failing i groups c x price fit (xs ++ ys)
  part_fails xs ys v found = ap (λ o. or_else o (first_failing i groups c x price fit ys)) found ∙ sym (parts xs ys)

  pub rest_fails : (xs ys : List ArcName) (o : Option Verdict) → None ≡ first_failing i groups c x price fit xs → o ≡ first_failing i groups c x price fit ys → o ≡ first_failing i groups c x price fit (xs ++ ys)
  rest_fails xs ys o none found = found ∙ ap (λ r. or_else r (first_failing i groups c x price fit ys)) none ∙ sym (parts xs ys)

  -- the same of what memory may end
  pub rest_fails_ok : (xs ys : List ArcName) (r : Result (Option Verdict) NoMemory) → None ≡ first_failing i groups c x price fit xs
      → IfOk r (λ o. o ≡ first_failing i groups c x price fit ys) → IfOk r (λ o. o ≡ first_failing i groups c x price fit (xs ++ ys))
  rest_fails_ok xs ys (Ok o) none found = rest_fails xs ys o none found
  rest_fails_ok xs ys (Err e) none found = found
