use Rattle.std.proofs.Common.{◌≡◌, ◌+◌, ◌<◌, ◌≤◌, ◌^◌, ◌==◌, length, get_or, set, refl, sym, ap, ◌∙◌, subst, ne_eqb, eq-eqb, arith}
use Rattle.std.proofs.lemmas.List.{length-set}
use Rattle.tda_model.specs.Cells.{kind_of}
use Rattle.tda_out.specs.Counts.{count_at}
use Rattle.tda_audit.proofs.SumsBy.{AreSums, sums_more}
use Rattle.tda_audit.proofs.rules.count_kinds.Goals as goal

pub loop-cell-preserved : goal.loop-cell-preserved
loop-cell-preserved c =
    let s = c.args.schema.now in
    let x = count_at c.args.tables.now c.args.unit in
    let n = c.loop-cell.cell in
    let counts = c.loop-cell.counts in
    let a = kind_of s n in
    let at : c.from.result ≡ a = c.from.ensures ∙ c.kind_of.ensures.kind in
    let now : set counts c.from.result (get_or counts c.from.result 0 + c.get.result) ≡ set counts a (get_or counts a 0 + x n) =
    ap (λ k. set counts k (get_or counts k 0 + c.get.result)) at ∙ ap (λ m. set counts a (get_or counts a 0 + m)) c.get.ensures.count in
    let inside : a < length counts = omega (arith, c.loop-cell.invariant.size, c.kind_of.ensures.kind, c.kind_of.ensures.in_range) in
    let few : x n ≤ 2 ^ 30 = omega (arith, c.get.ensures.count, c.get.ensures.limit) in
    record {
      size = length-set counts c.from.result (get_or counts c.from.result 0 + c.get.result) ∙ c.loop-cell.invariant.size;
      sums = subst (AreSums (λ k j. kind_of s j == k) x (n + 1)) (sym now)
          (sums_more (λ k j. kind_of s j == k) x n a few (eq-eqb a a refl) (λ k other. ne_eqb a k (λ e. other (sym e))) counts inside c.loop-cell.invariant.sums);
    }
