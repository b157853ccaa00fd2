use Rattle.tda_noise.proofs.CoinDraws.{no_coin}
use Rattle.tda_noise.proofs.coins.coin.Goals as goal

pub returns-in_err-number-clause-drawn : goal.returns-in_err-number-clause-drawn
returns-in_err-number-clause-drawn g c =
    let none = c.in_err-number.ensures.drawn in
    rw c.from_residual.ensures (no_coin c.args.n c.args.d _ none.0, none.1)
