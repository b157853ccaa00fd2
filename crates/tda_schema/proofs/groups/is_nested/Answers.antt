use Rattle.std.proofs.Common.{◌≡◌, ◌↔◌, Bool, List, Bor, Result, Ok, Err, IfOk, subst, IsTrue}
use Rattle.tda_model.specs.Schema.{Level, Schema}
use Rattle.tda_sets.specs.Family.{Names}
use Rattle.tda_sets.specs.Nested.{AreAllNested, all_sets}
use Rattle.tda_sets.proofs.AllNested.{lent}
use Rattle.tda_schema.specs.Classes.{AreFamiliesOf}
use Rattle.tda_schema.specs.Parts.{level_is_nested}
use Rattle.tda_schema.proofs.LevelGroups.{level_nested_is}
use Rattle.tda_schema.proofs.groups.is_nested.Goals as goal

-- what holds of the sets holds of each level whose families these are
of_levels : {E : Type 0} (families : List (Bor Names)) (r : Result Bool E) → IfOk r (λ b. IsTrue b ↔ AreAllNested (all_sets (lent families)) (all_sets (lent families)))
    → IfOk r (λ b. (s : Schema) (l : Level) → AreFamiliesOf s l (lent families) → b ≡ level_is_nested s l)
of_levels families (Ok b) tells = λ s l are.
    level_nested_is s are.looked_up.limits l are.level b (subst (λ (fs : List Names). IsTrue b ↔ AreAllNested (all_sets fs) (all_sets fs)) are.value tells)
of_levels families (Err e) tells = tells

pub returns : goal.returns
returns c = of_levels c.args.families.now c.all_are_nested.result c.all_are_nested.ensures
