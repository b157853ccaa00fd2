use Rattle.std.proofs.Common.{◌≡◌, ◌∙◌, ◌+◌, ◌*◌, ◌≤◌, ◌^◌, sum_by, ap, arith}
use Rattle.std.specs.List.{range_with_len}
use Rattle.tda_invar.specs.KindTable.{number_at}
use Rattle.tda_invar.proofs.RangeLemmas.{sum_more}
use Rattle.tda_invar.proofs.kind_table.KindTable.row_sum.Goals as goal

pub loop-kind-preserved : goal.loop-kind-preserved
loop-kind-preserved c = record {
  sum_is =
      sum_more (number_at c.args.self.now c.args.unit) c.loop-kind.kind c.loop-kind.sum c.get-sum.result
      c.loop-kind.invariant.sum_is c.get-sum.ensures.number;
  small = omega (arith, c.loop-kind.invariant.small, c.get-sum.ensures.limit);
}

pub returns : goal.returns
returns c =
    let all : c.loop-kind.kind ≡ c.args.self.now.kinds = omega (arith, c.loop-kind-test.false, c.loop-kind.auto.kind-end, c.kinds-kind-end.ensures) in
    c.loop-kind.invariant.sum_is ∙ ap (λ n. sum_by (number_at c.args.self.now c.args.unit) (range_with_len 0 n)) all
