use Rattle.std.proofs.Common.{rules, of_calls, subst, ℕ, ◌<◌, ◌≤◌, length, arith}
use Rattle.tda_model.specs.Commons.{common_of}
use Rattle.tda_model.specs.Groups.{kind_count}
use Rattle.tda_schema.specs.Shares.{denominator_limit}
use Rattle.tda_invar.proofs.Existence.{always}
use Rattle.tda_loss.specs.declared.Curve.TheVariants.{Square}
use Rattle.tda_audit.specs.Answers.{YesTells}
use Rattle.tda_audit.specs.Trees.{HasFewQueries}
use Rattle.tda_audit.proofs.Laws.{yes_tells}
use Rattle.tda_audit.proofs.Limits.{inputs_limited}
use Rattle.tda_fitnet.specs.Inputs.{inputs_of}
use Rattle.tda_descent.specs.Fits.{AreFirstFits}
use Rattle.tda_release.proofs.Kept.{all_taken, next_takes}
use Rattle.tda_release.proofs.Releasing.{texts_back, texts_released}
use Rattle.tda_release.proofs.release.release_texts.Goals as goal

pub descend-fitted-requires-clause-keep : goal.descend-fitted-requires-clause-keep
descend-fitted-requires-clause-keep c = λ fits last formed goes fit is y same a b d e f g.
    let t = all_taken _ (λ k x next step. record { name = search (rules, of_calls); schema = search (rules, of_calls); spine = search (rules, of_calls); has = search (rules, of_calls) }) fits _ last goes in
    next_takes _ last fits t c.requires.limits.depth fit y.now is same

pub returns-in-Ok : goal.returns-in-Ok
returns-in-Ok c =
    let e = c.in-Ok.ensures.handed in
    let grouped = c.in-Ok.ensures.grouped in
    let t = all_taken _ (λ k x next step. record { name = search (rules, of_calls); schema = search (rules, of_calls); spine = search (rules, of_calls); has = search (rules, of_calls) }) e.0 _ _ e.1 in
    let name = t.name in
    let i = inputs_of c.args.schema.now c.args.spine.now c.args.invariants.now c.args.measurements.now in
    let s = c.args.schema.now in
    let sp = c.args.spine.now in
    let inv = c.args.invariants.now in
    let m = c.args.measurements.now in
    let joined = c.requires.joined in
    let common : common_of s ≤ denominator_limit = omega (arith, c.common.ensures.value, c.common.ensures.limit) in
    let few : (level : ℕ) → level < length s.levels → HasFewQueries s level = λ level low. record { few = (grouped level low).few; over_all = (grouped level low).over_all } in
    let tells : YesTells Square i = yes_tells Square i joined.tree joined.kinds joined.most (always s sp inv joined).few c.requires.limits.depth
    (inputs_limited s sp inv m c.levels.ensures.queries common few c.requires.measured c.requires.limits)
    (λ level low. ((grouped level low).tree, (grouped level low).is_tree, (grouped level low).is_tree.listed)) in
    let first : AreFirstFits Square i e.0 = subst (λ curve. AreFirstFits curve i e.0) c.new-loss.ensures.curve e.2 in
    let all = texts_released i c.units.ensures.sound e.0 first e.3 tells c.in_ok-texts.texts c.descend-fitted.new.keep.0.now c.in_ok-texts.ensures t.has in
    let kinds : kind_count s ≤ 128 = omega (arith, c.kinds.ensures.count, c.kinds.ensures.limit) in
    let back = texts_back i c.units.ensures.sound e.0 first e.3 tells c.requires.limits c.cells.ensures.limits.cells kinds (λ level low. ((grouped level low).tree, (grouped level low).is_tree))
    c.in_ok-texts.texts c.descend-fitted.new.keep.0.now c.in_ok-texts.ensures t.has in
    record {
      texts = record {
        tables = all.tables;
        price = all.price;
        certified = all.certified;
        tables_are = let is = all.tables_are in search rules;
        prices_are = let is = all.prices_are in search rules;
        deviation = let is = all.deviation in search rules;
      };
      read_back = record {
        counts = back.counts;
        numbers = back.numbers;
        tables_back = let is = back.tables_back in search rules;
        prices_back = let is = back.prices_back in search rules;
        certified = back.certified;
        deviation = let is = back.deviation in search rules;
        yes = back.yes;
      };
    }
