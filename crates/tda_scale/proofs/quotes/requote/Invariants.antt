use Rattle.std.proofs.Common.{drop}
use Rattle.tda_scale.specs.Quotes.{AreQuotesBut}
use Rattle.tda_scale.proofs.quotes.requote.Given as goal

abbrev pub invariant-loop-turn : goal.invariant-loop-turn
invariant-loop-turn l = AreQuotesBut l.body.net.now l.body.slopes.now l.step l.flow (drop l.turn-index l.walk) l.quotes
