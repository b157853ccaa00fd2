-- One more query.
use Rattle.std.proofs.Common.{◌<◌, ◌≤◌, ◌^◌, All, ◌∷◌, [], ◌++◌, ◌+◌, length, map, ap, ◌∙◌, sym, subst, arith, length-append, take}
use Rattle.std.proofs.lemmas.List.{map-append, map_more, length-map}
use Rattle.std.proofs.lemmas.List.Elements.{All-push}
use Rattle.tda_model.specs.Commons.{common_of}
use Rattle.tda_model.specs.Deviation.{weight_of}
use Rattle.tda_schema.specs.Stated.{queries_at}
use Rattle.tda_places.specs.Spots.{class_count}
use Rattle.tda_places.proofs.Nested.{sum_more}
use Rattle.tda_fitnet.specs.TermTable.{AreRowsOf}
use Rattle.tda_fitnet.proofs.TermRows.{rows_grow}
use Rattle.tda_fitnet.proofs.level_terms.level_terms.Goals as goal

pub loop-query-preserved : goal.loop-query-preserved
loop-query-preserved c =
    let s = c.args.schema.now in
    let level = c.args.level in
    let k = c.loop-query.query in
    let old = c.loop-query.invariant in
    let low : k < length (queries_at s level) = omega (arith, c.loop-query-test.true, c.queries-query-end.ensures.count) in
    let weight = weight_of (common_of s) in
    record {
      weights = c.in_ok-push.ensures.items ∙ ap (λ ws. ws ++ c.weight.result ∷ []) old.weights
          ∙ ap (λ w. map weight (take k (queries_at s level)) ++ w ∷ []) c.weight.ensures.value
          ∙ sym (map_more weight (queries_at s level) k _ low);
      light = subst (All (λ w. w ≤ 2 ^ 24)) (sym c.in_ok-push.ensures.items) (All-push (λ w. w ≤ 2 ^ 24) c.loop-query.weights.items c.weight.result old.light c.weight.ensures.limit);
      count = ap length c.in_ok-push-2.ensures.items ∙ length-append c.loop-query.places.items _ ∙ omega (arith, old.count);
      rows = subst (λ r. AreRowsOf s level c.args.tree.now.groups (k + 1) (record { weights = c.push.new.self.items; places = r }))
          (sym (ap (map (λ row. row.items)) c.in_ok-push-2.ensures.items ∙ map-append (λ row. row.items) c.loop-query.places.items _))
          (rows_grow s level c.args.tree.now.groups k c.loop-query.weights.items c.push.new.self.items (map (λ row. row.items) c.loop-query.places.items) c.in_ok-query_places.field-0.items
          (length-map _ _ ∙ old.count) old.rows c.in_ok-query_places.ensures);
      before = omega (arith, sum_more (class_count s level) k, old.before, ap length c.classes.ensures.value);
      few = omega (arith, old.few, c.classes.ensures.limit, c.cells.ensures.limits.cells);
    }
