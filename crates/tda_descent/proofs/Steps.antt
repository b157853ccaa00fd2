-- A fit is handed on, and memory or the keeper may end it there.
use Rattle.std.proofs.Common.{◌≡◌, ℕ, ◌+◌, ◌-◌, ◌*◌, ◌<◌, inl, inr, Bool, true, false, List, [], ◌∷◌, ◌++◌, length, get_or, refl, sym, ap, ◌∙◌, subst, arith}
use Rattle.std.specs.Prelude.{Result, Ok, Err, OnOk, OnErr, IfErr, IfSome, MatchResult}
use Rattle.std.specs.List.{All}
use Rattle.std.proofs.lemmas.Bool.{cases_lt}
use Rattle.std.proofs.lemmas.List.{get_or_append_left, get_or-append_right}
use Rattle.std.proofs.lemmas.List.Elements.{All-from_recursion}
use Rattle.tda_model.specs.Schema.{Schema}
use Rattle.tda_model.specs.Cells.{cell_count}
use Rattle.tda_model.specs.First.{family_counts}
use Rattle.tda_model.specs.Release.{Inputs}
use Rattle.tda_model.specs.Sizes.{fit_size}
use Rattle.tda_model.specs.Spine.{Spine, is_child, children_of, unit_numbers, nation_of, IsUnit, IsTree}
use Rattle.tda_model.specs.Tables.{Table, Tables}
use Rattle.tda_model.proofs.Sums.{each_filter, each_range}
use Rattle.tda_schema.specs.Stated.{level_at}
use Rattle.tda_spine.specs.Sound.{IsInner}
use Rattle.tda_groups.specs.Tree.{Tree, IsTreeOf}
use Rattle.tda_loss.specs.declared.Curve.{Curve}
use Rattle.tda_descent.specs.declared.fit.Fit.{Fit}
use Rattle.tda_descent.specs.declared.fit.DescentStop.{DescentStop}
use Rattle.tda_descent.specs.declared.fit.DescentStop.TheVariants.{Stopped, NoMemory}
use Rattle.tda_descent.specs.Fits.{units_of}
use Rattle.tda_descent.specs.Kept.{IsFormed}
use Rattle.tda_descent.specs.Made.{IsSplitOf, IsRootOf, AreStored}
use Rattle.tda_descent.specs.Handed.{Ends, HandsOne}
use Rattle.tda_descent.proofs.Chunks.{family_length}

module _ {K : Type 0} (called : K → Fit → Bool → K → Type 0) (fit : Fit) (old new : K) where
  pub refused : (r : Result (Unit {0}) DescentStop) → OnErr r (called old fit false new) → IfErr r (λ why. why ≡ Stopped)
      → MatchResult r (λ u. Unit {0}) (λ why. Ends called (λ f. f ≡ fit) old new why)
  refused (Ok u) h e = tt
  refused (Err why) h e = subst (Ends called (λ f. f ≡ fit) old new) (sym e) (fit, refl, h)

  pub handed : (P Q : Fit → Type 0) (r : Result (Unit {0}) DescentStop) → OnOk r (called old fit true new)
      → MatchResult r (λ u. Unit {0}) (λ why. Ends called (λ f. f ≡ fit) old new why) → OnOk r (P fit) → Q fit → HandsOne called P Q old new r
  handed P Q (Ok u) go ends p q = (fit, p, go)
  handed P Q (Err Stopped) go ends p q = (ends.0, subst Q (sym ends.1) q, ends.2)
  handed P Q (Err NoMemory) go ends p q = ends

  on_ok : {A B : Type 0} (r : Result (Unit {0}) DescentStop) → (A → B) → OnOk r A → OnOk r B
  on_ok (Ok u) f h = f h
  on_ok (Err why) f h = tt

  -- the fit of a unit's children, whose tables were stored
  pub split_handed : (c : Curve) (i : Inputs) (p : ℕ) (x : Table) (family : Tables) → IsSplitOf c i p x family fit → (before after : List (List ℕ))
      → (r : Result (Unit {0}) DescentStop) → OnOk r (called old fit true new) → MatchResult r (λ u. Unit {0}) (λ why. Ends called (λ f. f ≡ fit) old new why)
      → OnOk r (AreStored i.spine i.schema fit.units.items family before after)
      → HandsOne called (λ f. (fam : Tables) × IsSplitOf c i p x fam f × AreStored i.spine i.schema f.units.items fam before after) (λ f. (fam : Tables) × IsSplitOf c i p x fam f) old new r
  split_handed c i p x family h before after r go ends stored =
      handed (λ f. (fam : Tables) × IsSplitOf c i p x fam f × AreStored i.spine i.schema f.units.items fam before after) (λ f. (fam : Tables) × IsSplitOf c i p x fam f) r go ends
      (on_ok r (λ kept. (family, h, kept)) stored) (family, h)

-- the trees of one level more
pub trees_more : (s : Schema) (level : ℕ) (trees : List Tree) (more : Tree) → length trees ≡ level
    → ((k : ℕ) (t : Tree) → k < level → IsTreeOf s (level_at s k) (get_or trees k t)) → IsTreeOf s (level_at s level) more
    → (k : ℕ) (t : Tree) → k < level + 1 → IsTreeOf s (level_at s k) (get_or (trees ++ more ∷ []) k t)
trees_more s level trees more count h last k t less =
    elim (cases_lt k level) [
      | inl low ↦ subst (IsTreeOf s (level_at s k)) (sym (get_or_append_left trees (more ∷ []) t k (omega (arith, count, low)))) (h k t low)
      | inr high ↦
          let same : level ≡ k = omega (arith, less, high) in
          let at : get_or (trees ++ more ∷ []) k t ≡ more =
          get_or-append_right trees (more ∷ []) (length trees) k t refl (omega (arith, count, high)) ∙ ap (λ j. get_or (more ∷ []) j t) (zero_is (k - length trees) (omega (arith, count, same))) in
          subst (IsTreeOf s (level_at s k)) (sym at) (subst (λ j. IsTreeOf s (level_at s j) more) same last)
    ]
  where
    zero_is : (n : ℕ) → n ≡ 0 → n ≡ 0
    zero_is n e = e

pub children_are_units : (sp : Spine) (p : ℕ) → All (IsUnit sp) (children_of sp p)
children_are_units sp p =
    All-from_recursion (IsUnit sp) (children_of sp p)
    (each_filter (IsUnit sp) (is_child sp p) (unit_numbers sp) (each_range (λ c. is_child sp p c ≡ true → IsUnit sp c) 0 (length sp.units) (λ c low high is. omega arith)))

module _ (c : Curve) (i : Inputs) (fit : Fit) where
  pub split_length : (p : ℕ) (x : Table) (family : Tables) → IsSplitOf c i p x family fit → length fit.counts.items ≡ length fit.units.items * cell_count i.schema
  split_length p x family h =
      ap length h.counts ∙ family_length i.schema family (children_of i.spine p) ∙ ap (λ us. length us * cell_count i.schema) (sym h.units)

  pub split_counts_here : (p : ℕ) (x : Table) (family : Tables) → IsSplitOf c i p x family fit → fit.counts.items ≡ family_counts i.schema fit.units.items family
  split_counts_here p x family h = h.counts ∙ ap (λ us. family_counts i.schema us family) (sym h.units)

  pub split_units : (p : ℕ) (x : Table) (family : Tables) → IsSplitOf c i p x family fit → All (IsUnit i.spine) fit.units.items
  split_units p x family h = subst (All (IsUnit i.spine)) (sym h.units) (children_are_units i.spine p)

  pub split_formed : (p : ℕ) (x : Table) (family : Tables) → IsInner i.spine p → IsSplitOf c i p x family fit → IsFormed i.schema i.spine fit
  split_formed p x family inner h = record {
    parent = subst (λ o. IfSome o (IsInner i.spine)) (sym h.parent) inner;
    units = h.units ∙ sym (ap (units_of i.spine) h.parent);
    counts = split_length p x family h;
    few = h.few;
    prices = h.prices ∙ ap (λ o. (fit_size i.schema i.spine o).nodes) (sym h.parent);
    near = h.near;
    small = h.small;
  }

  pub root_length : (x : Table) (shares : List ℕ) → IsRootOf c i x shares fit → length fit.counts.items ≡ length fit.units.items * cell_count i.schema
  root_length x shares h =
      ap length h.is_fit.counts ∙ family_length i.schema (λ u. x) (units_of i.spine fit.parent) ∙ ap (λ us. length us * cell_count i.schema) (sym h.is_fit.units)

  pub root_counts_here : (x : Table) (shares : List ℕ) → IsRootOf c i x shares fit → fit.counts.items ≡ family_counts i.schema fit.units.items (λ u. x)
  root_counts_here x shares h = h.is_fit.counts ∙ ap (λ us. family_counts i.schema us (λ u. x)) (sym h.is_fit.units)

  pub root_units : (x : Table) (shares : List ℕ) → IsTree i.spine (nation_of i.spine) → IsRootOf c i x shares fit → All (IsUnit i.spine) fit.units.items
  root_units x shares tree h =
      subst (All (IsUnit i.spine)) (sym (h.is_fit.units ∙ ap (units_of i.spine) h.parent)) (All-from_recursion (IsUnit i.spine) (nation_of i.spine ∷ []) (tree.root, tt))

  pub root_formed : (x : Table) (shares : List ℕ) → IsRootOf c i x shares fit → IsFormed i.schema i.spine fit
  root_formed x shares h = record {
    parent = subst (λ o. IfSome o (IsInner i.spine)) (sym h.parent) tt;
    units = h.is_fit.units;
    counts = root_length x shares h;
    few = h.is_fit.few;
    prices = h.is_fit.prices;
    near = h.is_fit.near;
    small = h.is_fit.small;
  }
