use Rattle.std.proofs.Common.{◌∙◌, arith, refl}
use Rattle.tda_scale.proofs.Adjusting.{kept-none, kept-more, priced_of_kept, quotes_of_kept}
use Rattle.tda_scale.proofs.adjust.adjust.Goals as goal

pub loop-i-init : goal.loop-i-init
loop-i-init c = record {
  kept = kept-none c.args.body.now.net.now c.args.body.now.slopes.now c.args.step c.args.flow.now c.args.spots.now c.args.quotes.now c.requires.priced;
  tracked = c.requires.tracked;
  same = record { count = refl; price = λ v. refl; mark = λ v. refl };
  count = c.requires.quotes;
}

pub loop-i-preserved : goal.loop-i-preserved
loop-i-preserved c =
    let i = c.loop-i.invariant in
    let e = c.adjust_arc.ensures in
    record {
      kept =
          kept-more c.args.body.now.net.now c.args.body.now.slopes.now c.args.step c.loop-i.i c.loop-i.flow c.adjust_arc.new.flow c.loop-i.spots c.adjust_arc.new.spots c.loop-i.quotes c.adjust_arc.new.quotes
          i.kept e.flow e.quotes e.same.price e.kept e.quote;
      tracked = e.tracked;
      same = record { count = e.same.count ∙ i.same.count; price = λ v. e.same.price v ∙ i.same.price v; mark = λ v. e.same.mark v ∙ i.same.mark v };
      count = c.adjust_arc.auto.quotes ∙ i.count;
    }

pub returns-clause-priced : goal.returns-clause-priced
returns-clause-priced c =
    priced_of_kept c.args.body.now.net.now c.args.body.now.slopes.now c.args.step c.loop-i.i c.loop-i.flow c.loop-i.spots c.loop-i.quotes (omega arith) c.loop-i.invariant.kept

pub returns-clause-quotes : goal.returns-clause-quotes
returns-clause-quotes c =
    quotes_of_kept c.args.body.now.net.now c.args.body.now.slopes.now c.args.step c.loop-i.i c.loop-i.flow c.loop-i.spots c.loop-i.quotes (omega arith) c.loop-i.invariant.count c.loop-i.invariant.kept
