use Rattle.std.proofs.Common.{◌∙◌, inl, inr, sym, subst, arith}
use Rattle.std.proofs.lemmas.Bool.{cases_eq}
use Rattle.tda_scale.specs.Searching.{price_of}
use Rattle.tda_scale.specs.Adjusted.{KeepsAt}
use Rattle.tda_scale.specs.Phase.{square}
use Rattle.tda_scale.proofs.Arcs.{priced_of_keeps}
use Rattle.tda_scale.proofs.Adjusting.{keeps_same}
use Rattle.tda_scale.proofs.warm.settle.Goals as goal

pub loop-i-preserved : goal.loop-i-preserved
loop-i-preserved c =
    let i = c.loop-i.invariant in
    let e = c.settle_arc.ensures in
    let n = c.args.body.now.net.now in
    record {
      kept =
          λ k l.
          elim (cases_eq k c.loop-i.i) [
            | inl q ↦ subst (KeepsAt square n 1 c.settle_arc.new.flow (price_of c.settle_arc.new.spots)) (sym q) e.kept
            | inr ne ↦ keeps_same n 1 k c.loop-i.flow c.settle_arc.new.flow (price_of c.loop-i.spots) (price_of c.settle_arc.new.spots) (e.flow k ne) e.same.price (i.kept k (omega arith))
          ];
      tracked = e.tracked;
      same = record { count = e.same.count ∙ i.same.count; price = λ v. e.same.price v ∙ i.same.price v; mark = λ v. e.same.mark v ∙ i.same.mark v };
    }

pub returns-clause-priced : goal.returns-clause-priced
returns-clause-priced c = priced_of_keeps square c.args.body.now.net.now 1 c.loop-i.flow (price_of c.loop-i.spots) (λ k l. c.loop-i.invariant.kept k (omega arith))
