use Rattle.std.proofs.Common.{◌≡◌, ◌≤◌, ◌∙◌, ◌++◌, ◌∷◌, List, [], ℕ, map, take, length, sum, ap, sym}
use Rattle.std.proofs.lemmas.List.{map_more, take_all, length-map}
use Rattle.tda_model.specs.Schema.{Schema}
use Rattle.tda_model.specs.Spine.{Spine, units_at}
use Rattle.tda_model.specs.Tables.{Tables, persons_in}
use Rattle.tda_model.specs.Bounds.{persons_limit}
use Rattle.tda_out.specs.Counts.{count_at}
use Rattle.tda_invar.specs.Totals.{AreTotalsOf}
use Rattle.tda_invar.proofs.UnitLemmas.{units_within}
use Rattle.tda_hist.specs.TrueTable.{state_persons}
use Rattle.tda_hist.proofs.sums.state_totals.Goals as goal

pub persons_in-requires-clause-unit : goal.persons_in-requires-clause-unit
persons_in-requires-clause-unit c =
    let below = rw c.at_level-state-items.ensures at c.loop-state-test.true in
    rw c.at_level-state-items.ensures (units_within c.args.spine.now 1 c.loop-state.state-index 0 below)

pub loop-state-preserved : goal.loop-state-preserved
loop-state-preserved c =
    let f : ℕ → ℕ = λ st. persons_in c.args.schema.now (count_at c.args.tables.now st) in
    let states = units_at c.args.spine.now 1 in
    let below = rw c.at_level-state-items.ensures at c.loop-state-test.true in
    let one = rw c.at_level-state-items.ensures at c.persons_in.ensures in
    c.in_ok-push.ensures.items ∙ ap (λ xs. xs ++ c.persons_in.result ∷ []) c.loop-state.invariant ∙ ap (λ n. map f (take c.loop-state.state-index states) ++ n ∷ []) one
    ∙ sym (map_more f states c.loop-state.state-index 0 below)

-- the numbers that are gathered are the totals, one for each state
gathered : (s : Schema) (sp : Spine) (x : Tables) (k : ℕ) → length (units_at sp 1) ≤ k → (numbers : List ℕ) → numbers ≡ map (λ st. persons_in s (x st)) (take k (units_at sp 1)) → numbers ≡ state_persons s sp x
gathered s sp x k all numbers is = is ∙ ap (map (λ st. persons_in s (x st))) (take_all k (units_at sp 1) all)

belong : (s : Schema) (sp : Spine) (x : Tables) → sum (state_persons s sp x) ≤ persons_limit → (numbers : List ℕ) → numbers ≡ state_persons s sp x → AreTotalsOf sp numbers
belong s sp x few numbers is = record { size = ap length is ∙ length-map (units_at sp 1) (λ st. persons_in s (x st)); few = rw is few }

pub from_list-requires : goal.from_list-requires
from_list-requires c =
    let all = rw c.at_level-state-items.ensures at c.loop-state-test.false in
    let x = count_at c.args.tables.now in
    belong c.args.schema.now c.args.spine.now x c.requires.few c.loop-state.totals.items
    (gathered c.args.schema.now c.args.spine.now x c.loop-state.state-index all c.loop-state.totals.items c.loop-state.invariant)

pub returns : goal.returns
returns c =
    let all = rw c.at_level-state-items.ensures at c.loop-state-test.false in
    let x = count_at c.args.tables.now in
    let is = c.from_list.ensures ∙ gathered c.args.schema.now c.args.spine.now x c.loop-state.state-index all c.loop-state.totals.items c.loop-state.invariant in
    record { totals = is; belong = belong c.args.schema.now c.args.spine.now x c.requires.few c.from_list.result is }
