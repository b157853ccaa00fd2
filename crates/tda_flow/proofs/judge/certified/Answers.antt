use Rattle.std.proofs.Common.{◌≡◌, Bool, true, false, arith, below_more}
use Rattle.tda_loss.specs.Curve.{value_of}
use Rattle.tda_loss.proofs.Laws.{IsCurve-value_of}
use Rattle.tda_flow.proofs.Least.{least}
use Rattle.tda_flow.proofs.Same.{same_certified}
use Rattle.tda_flow.proofs.judge.certified.Goals as goal

not_both : (b : Bool) → b ≡ true → b ≡ false → ⊥
not_both b t f = cc

pub returns-clause-least : goal.returns-clause-least
returns-clause-least g c =
    λ ok.
    least (value_of c.args.loss.now.curve) (IsCurve-value_of c.args.loss.now.curve).convex c.args.net.now c.arcs-i-end.ensures.sound
    c.args.flow.now c.args.prices.now c.requires.flow (λ k l. c.loop-i.invariant k (omega arith))

pub loop-i-preserved : goal.loop-i-preserved
loop-i-preserved g c =
    below_more _ _ c.loop-i.invariant
    (λ up. not_both c.is_bad_up.result (c.is_bad_up.ensures.1 up) c.if-is_bad_up.false, λ down. not_both c.is_bad_down.result (c.is_bad_down.ensures.1 down) c.if-is_bad_down.false)

pub returns-then-is_bad_up-clause-same : goal.returns-then-is_bad_up-clause-same
returns-then-is_bad_up-clause-same g c =
    λ e.
    let bad = c.is_bad_up.ensures.0 c.if-is_bad_up.true in
    let mine = same_certified (value_of c.args.loss.now.curve) (IsCurve-value_of c.args.loss.now.curve).convex c.args.net.now c.arcs-i-end.ensures.sound
    e.other c.args.flow.now c.args.prices.now e.circulates e.certified c.requires.flow e.costs c.loop-i.i (omega arith) in
    absurd (mine.0 bad)

pub returns-then-is_bad_down-clause-same : goal.returns-then-is_bad_down-clause-same
returns-then-is_bad_down-clause-same g c =
    λ e.
    let bad = c.is_bad_down.ensures.0 c.if-is_bad_down.true in
    let mine = same_certified (value_of c.args.loss.now.curve) (IsCurve-value_of c.args.loss.now.curve).convex c.args.net.now c.arcs-i-end.ensures.sound
    e.other c.args.flow.now c.args.prices.now e.circulates e.certified c.requires.flow e.costs c.loop-i.i (omega arith) in
    absurd (mine.1 bad)
