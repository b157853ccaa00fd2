-- What a verdict names is the schema's and the spine's, and what a yes tells.
use Rattle.std.proofs.Common.{◌≡◌, ◌≢◌, ◌++◌, ◌∷◌, [], ◌<◌, List, ℕ, length, map, filter, Bool, find, unwrap_or, Option, Some, None, IfSome, sym, subst, inl, inr, arith}
use Rattle.std.specs.List.{flat_map, range_with_len}
use Rattle.std.proofs.lemmas.Bool.{cases_Bool}
use Rattle.tda_model.specs.Cells.{all_cells, possible_cells}
use Rattle.tda_model.specs.Groups.{kind_count}
use Rattle.tda_model.specs.Spine.{Spine, IsUnit, IsTree, level_of, nation_of, is_child, parents_of, unit_numbers, units_at, children_of}
use Rattle.tda_model.specs.Deviation.{square}
use Rattle.tda_model.specs.Release.{Inputs, IsRelease}
use Rattle.tda_model.proofs.Sums.{Each, each_any, each_range}
use Rattle.tda_model.proofs.FitOrder.{parents_each}
use Rattle.tda_spine.specs.Judged.{is_inner, fits_of}
use Rattle.tda_loss.specs.declared.Curve.TheVariants.{Square}
use Rattle.tda_fitnet.specs.declared.name.ArcName.{ArcName}
use Rattle.tda_fitnet.specs.declared.name.ArcName.TheVariants.{Share, Give, Group}
use Rattle.tda_audit.specs.Certified.{level_groups}
use Rattle.tda_audit.specs.Verdicts.{both_sides, all_sums, all_impossible, all_totals, all_kinds, all_rules, give_names, group_names, names_of, sides_of, all_verdicts, fails}
use Rattle.tda_audit.specs.Answers.{YesTells}
use Rattle.tda_audit.specs.declared.verdict.Verdict.{Verdict}
use Rattle.tda_audit.specs.declared.verdict.Verdict.TheVariants.{Yes, Sum, Impossible, Total, Kind, Arc}
use Rattle.tda_inputs.specs.Accepted.{Case}
use Rattle.tda_release.proofs.Squares.{curve_is_square}
use Rattle.tda_refusal.specs.Verdicts.{ArcIsKnown, VerdictIsKnown}
use Rattle.tda_tool.specs.Auditing.{tables_in, prices_in, IsCertified, verdict_on}
use Rattle.tda_tool.specs.Outcome.{IsCertifiedCase, IsUncertifiedCase}
use Rattle.tda_tool.proofs.Surveyed.{each_append, each_flat, each_map, each_unit, kept}

each_under : {X : Type 0} (P Q : X → Type 0) (xs : List X) → ((x : X) → P x → Q x) → Each P xs → Each Q xs
each_under P Q [] f h = tt
each_under P Q (x ∷ xs) f (here, later) = (f x here, each_under P Q xs f later)

module _ (i : Inputs) (groups : ℕ → List (List ℕ)) (tree : IsTree i.spine (nation_of i.spine)) where
  abbrev Known : Verdict → Type 0
  Known v = VerdictIsKnown i.schema i.spine v

  abbrev KnownArc : ArcName → Type 0
  KnownArc a = ArcIsKnown i.schema i.spine a

  units : Each (IsUnit i.spine) (unit_numbers i.spine)
  units = each_range (IsUnit i.spine) 0 (length i.spine.units) (λ u low high. omega arith)

  states : Each (IsUnit i.spine) (units_at i.spine 1)
  states = each_unit (IsUnit i.spine) i.spine 1 (λ u here. here)

  children : (p : ℕ) → Each (IsUnit i.spine) (children_of i.spine p)
  children p = kept (IsUnit i.spine) (is_child i.spine p) (unit_numbers i.spine) units

  -- ---- what is published

  of_cells_known : (of : ℕ → ℕ → Verdict) → ((u j : ℕ) → IsUnit i.spine u → Known (of u j)) → (us : List ℕ) → Each (IsUnit i.spine) us → Each Known (flat_map (λ u. map (of u) (all_cells i.schema)) us)
  of_cells_known of known us each =
      each_flat Known (λ u. map (of u) (all_cells i.schema)) us
      (each_under (IsUnit i.spine) (λ u. Each Known (map (of u) (all_cells i.schema))) us (λ u here. each_map Known (of u) (all_cells i.schema) (each_any _ (all_cells i.schema) (λ j. known u j here))) each)

  kinds : Each Known (all_kinds i.schema i.spine)
  kinds =
      each_flat Known (λ u. map (Kind u) (range_with_len 0 (kind_count i.schema))) (unit_numbers i.spine)
      (each_under (IsUnit i.spine) (λ u. Each Known (map (Kind u) (range_with_len 0 (kind_count i.schema)))) (unit_numbers i.spine)
      (λ u here. each_map Known (Kind u) (range_with_len 0 (kind_count i.schema)) (each_range _ 0 (kind_count i.schema) (λ k low high. record { unit = here; kind = omega arith }))) units)

  rules : Each Known (all_rules i.schema i.spine)
  rules =
      each_append Known (all_sums i.schema i.spine) _ (of_cells_known Sum (λ u j here. here) (filter (is_inner i.spine) (unit_numbers i.spine)) (kept (IsUnit i.spine) (is_inner i.spine) (unit_numbers i.spine) units))
      (each_append Known (all_impossible i.schema i.spine) _ (of_cells_known Impossible (λ u j here. here) (unit_numbers i.spine) units)
      (each_append Known (all_totals i.schema i.spine) _ (each_map Known Total (units_at i.spine 1) states) kinds))

  -- ---- arcs

  gives : (u : ℕ) → IsUnit i.spine u → Each KnownArc (give_names i groups u)
  gives u here = each_map KnownArc (Give u) (possible_cells i.schema) (each_any _ (possible_cells i.schema) (λ j. here))

  group_arcs : (u : ℕ) → IsUnit i.spine u → Each KnownArc (group_names i groups u)
  group_arcs u here = each_map KnownArc (Group u) (range_with_len 0 (length (groups (level_of i.spine u)))) (each_any _ (range_with_len 0 (length (groups (level_of i.spine u)))) (λ g. here))

  shares : Each KnownArc (flat_map (λ st. map (Share st) (range_with_len 0 (kind_count i.schema))) (units_at i.spine 1))
  shares =
      each_flat KnownArc (λ st. map (Share st) (range_with_len 0 (kind_count i.schema))) (units_at i.spine 1)
      (each_under (IsUnit i.spine) (λ st. Each KnownArc (map (Share st) (range_with_len 0 (kind_count i.schema)))) (units_at i.spine 1)
      (λ st here. each_map KnownArc (Share st) (range_with_len 0 (kind_count i.schema)) (each_range _ 0 (kind_count i.schema) (λ k low high. record { unit = here; kind = omega arith }))) states)

  arcs : (fit : Option ℕ) → Each KnownArc (names_of i groups fit)
  arcs None = each_append KnownArc _ _ shares (each_append KnownArc (give_names i groups (nation_of i.spine)) _ (gives (nation_of i.spine) tree.root) (group_arcs (nation_of i.spine) tree.root))
  arcs (Some p) =
      each_append KnownArc (flat_map (give_names i groups) (children_of i.spine p)) _
      (each_flat KnownArc (give_names i groups) (children_of i.spine p) (each_under (IsUnit i.spine) (λ u. Each KnownArc (give_names i groups u)) (children_of i.spine p) gives (children p)))
      (each_flat KnownArc (group_names i groups) (children_of i.spine p) (each_under (IsUnit i.spine) (λ u. Each KnownArc (group_names i groups u)) (children_of i.spine p) group_arcs (children p)))

  sides : (fit : Option ℕ) → IfSome fit (IsUnit i.spine) → Each Known (sides_of i groups fit)
  sides fit here =
      each_flat Known (λ a. map (Arc fit a) both_sides) (names_of i groups fit)
      (each_under KnownArc (λ a. Each Known (map (Arc fit a) both_sides)) (names_of i groups fit) (λ a known. each_map Known (Arc fit a) both_sides (each_any (λ side. Known (Arc fit a side)) both_sides (λ side. record { fit_is = here; arc_is = known }))) (arcs fit))

  splits : (ps : List ℕ) → Each (IsUnit i.spine) ps → Each (λ fit. Each Known (sides_of i groups fit)) (map Some ps)
  splits [] h = tt
  splits (p ∷ ps) (here, later) = (sides (Some p) here, splits ps later)

  all_known : Each Known (all_verdicts i groups)
  all_known =
      each_append Known (all_rules i.schema i.spine) _ rules
      (each_flat Known (sides_of i groups) (fits_of i.spine) (sides None tt, splits (parents_of i.spine) (parents_each i.spine tree (IsUnit i.spine) (λ p here inner. here))))

  first_known : (test : Verdict → Bool) (vs : List Verdict) → Each Known vs → Known (unwrap_or (find test vs) Yes)
  first_known test [] h = tt
  first_known test (v ∷ vs) (here, later) = elim (cases_Bool (test v)) [ inl so ↦ rw so here | inr not_so ↦ rw not_so (first_known test vs later) ]

-- the verdict on a case
pub verdict_known : (c : Case) → IsTree c.inputs.spine (nation_of c.inputs.spine) → VerdictIsKnown c.inputs.schema c.inputs.spine (verdict_on c)
verdict_known c tree =
    let groups = level_groups c.inputs.schema in
    first_known c.inputs groups tree (fails c.inputs groups Square (tables_in c) (prices_in c)) (all_verdicts c.inputs groups) (all_known c.inputs groups tree)

-- a yes certifies the case
pub certified_case : (c : Case) → YesTells Square c.inputs → verdict_on c ≡ Yes → IsCertifiedCase c
certified_case c tells is =
    record {
      yes = is;
      certified = (tells.certified (tables_in c) (prices_in c)).0 (sym is);
      release = subst (λ curve. IsRelease curve c.inputs (tables_in c)) curve_is_square (tells.release (tables_in c) (prices_in c) (sym is));
    }

-- and without it none does
pub uncertified_case : (c : Case) → YesTells Square c.inputs → verdict_on c ≢ Yes → IsUncertifiedCase c
uncertified_case c tells differs = record {
  no = differs;
  uncertified = λ certified. differs (sym ((tells.certified (tables_in c) (prices_in c)).1 certified));
}
