use Rattle.std.proofs.Common.{◌∷◌, ◌++◌, [], None, ap, ◌∙◌, replicate, arith}
use Rattle.std.proofs.lemmas.List.{replicate_more}
use Rattle.tda_flow.proofs.work.no_marks.Goals as goal

pub loop-preserved : goal.loop-preserved
loop-preserved c = c.in_ok-push.ensures.items ∙ ap (λ xs. xs ++ None ∷ []) c.loop.invariant ∙ replicate_more c.loop.counter None

pub returns : goal.returns
returns c = c.loop.invariant ∙ ap (λ n. replicate n None) (omega arith)
