-- The laws of an audit: Yes means certified, what is certified is a release, and what fits hand on is certified.
use Rattle.std.proofs.Common.{◌≡◌, ℕ, ◌≤◌, List, length, sym, arith}
use Rattle.std.proofs.lemmas.List.Elements.{All-from_recursion}
use Rattle.tda_model.specs.Spine.{nation_of, unit_numbers, IsTree}
use Rattle.tda_model.specs.Tables.{Table, Tables, persons_in}
use Rattle.tda_model.specs.Bounds.{persons_limit, MostHolds, HasKinds}
use Rattle.tda_model.specs.Release.{Inputs, CanBe, IsRelease}
use Rattle.tda_model.proofs.Sums.{each_range}
use Rattle.tda_loss.specs.declared.Curve.{Curve}
use Rattle.tda_fitnet.specs.Fits.{curve_of}
use Rattle.tda_prices.specs.Items.{Pricing}
use Rattle.tda_audit.specs.Certified.{level_groups, Certifies}
use Rattle.tda_audit.proofs.Lookups.{AreGroupsOf}
use Rattle.tda_audit.specs.Fitted.{AreFitted}
use Rattle.tda_audit.specs.Answers.{YesTells}
use Rattle.tda_audit.specs.Verdicts.{verdict}
use Rattle.tda_audit.specs.declared.verdict.Verdict.TheVariants.{Yes}
use Rattle.tda_audit.proofs.Kept.{in_bounds, few}
use Rattle.tda_audit.proofs.Release.{certified_release}
use Rattle.tda_audit.proofs.Exact.{fitted_keeps, fitted_certified}
use Rattle.tda_audit.proofs.Decided.{yes_certified, certified_yes}
use Rattle.tda_audit.proofs.Soundness.{AreLimited, nets_sound}

module _ (c : Curve) (i : Inputs) (tree : IsTree i.spine (nation_of i.spine)) (has : HasKinds i.schema) (most : MostHolds i.known)
    (fews : (x : Table) → CanBe i (nation_of i.spine) x → persons_in i.schema x ≤ persons_limit)
    (depth : i.spine.depth ≡ length i.schema.levels) (lim : AreLimited i)
    (groups : ℕ → List (List ℕ)) (are : AreGroupsOf i.schema groups) (x : Tables) where
  -- whoever made the tables and prices
  pub certified_is_release : (price : Pricing) → Certifies c i groups x price → IsRelease (curve_of c) i x
  certified_is_release price h =
      let sound = nets_sound i tree has depth lim x (λ u here below. in_bounds i tree has most fews x h.keeps u here) (few i tree has most fews x h.keeps) in
      certified_release c i tree has most fews depth groups are x price sound h

  pub yes_is_release : (price : Pricing) → verdict i groups c x price ≡ Yes → IsRelease (curve_of c) i x
  yes_is_release price e = certified_is_release price (yes_certified c i groups x price tree e)

  pub fitted_is_certified : (price : Pricing) → AreFitted c i x price → Certifies c i groups x price
  fitted_is_certified price h =
      let keeps = fitted_keeps c i tree has most fews depth groups are x price h in
      let sound = nets_sound i tree has depth lim x (λ u here below. in_bounds i tree has most fews x keeps u here) (few i tree has most fews x keeps) in
      fitted_certified c i tree has most fews depth groups are x price h sound

-- what Yes tells, of any tables and prices
pub yes_tells : (c : Curve) (i : Inputs) → IsTree i.spine (nation_of i.spine) → HasKinds i.schema → MostHolds i.known
    → ((x : Table) → CanBe i (nation_of i.spine) x → persons_in i.schema x ≤ persons_limit) → i.spine.depth ≡ length i.schema.levels → AreLimited i
    → AreGroupsOf i.schema (level_groups i.schema) → YesTells c i
yes_tells c i tree has most fews depth lim are =
    let groups = level_groups i.schema in
    record {
      certified = λ x price. (λ e. yes_certified c i groups x price tree (sym e), λ h. sym (certified_yes c i groups x price tree h));
      few = λ x price e.
          let keeps = (yes_certified c i groups x price tree (sym e)).keeps in
          All-from_recursion (λ u. persons_in i.schema (x u) ≤ persons_limit) (unit_numbers i.spine)
          (each_range (λ u. persons_in i.schema (x u) ≤ persons_limit) 0 (length i.spine.units) (λ u a b. few i tree has most fews x keeps u (omega arith)));
      release = λ x price e. yes_is_release c i tree has most fews depth lim groups are x price (sym e);
      fitted = λ x price h. sym (certified_yes c i groups x price tree (fitted_is_certified c i tree has most fews depth lim groups are x price h));
    }
