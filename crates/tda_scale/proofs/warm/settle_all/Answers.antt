use Rattle.std.proofs.Common.{◌^◌, ◌∙◌, subst, sym}
use Rattle.tda_loss.specs.Curve.{IsWithin}
use Rattle.tda_scale.proofs.warm.settle_all.Goals as goal

pub loop-k-preserved : goal.loop-k-preserved
loop-k-preserved c =
    let i = c.loop-k.invariant.same in
    let e = c.settle.ensures.same in
    record {
      tracked = c.settle.ensures.tracked;
      same = record { count = e.count ∙ i.count; price = λ v. e.price v ∙ i.price v; mark = λ v. e.mark v ∙ i.mark v };
    }

pub settle-requires-clause-small : goal.settle-requires-clause-small
settle-requires-clause-small c v = subst (IsWithin (2 ^ 92)) (sym (c.loop-k.invariant.same.price v)) (c.requires.small v)
