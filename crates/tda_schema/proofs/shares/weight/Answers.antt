use Rattle.tda_schema.proofs.Weights.{product_bound, product_found}
use Rattle.std.proofs.Common.{arith}
use Rattle.tda_schema.proofs.shares.weight.Goals as goal

pub unwrap-requires : goal.unwrap-requires
unwrap-requires c =
    c.weight.ensures.whole.1 (product_found c.args.share c.args.common (omega (arith, c.requires.share.some, c.requires.share.most)) c.requires.share.most c.requires.parts c.requires.limit)

pub returns-clause-bound : goal.returns-clause-bound
returns-clause-bound c =
    product_bound c.args.share c.args.common c.unwrap.result (omega (arith, c.requires.share.some, c.requires.share.most)) c.requires.share.most (rw c.unwrap.ensures at c.weight.ensures.product)
