use Rattle.tda_tool.proofs.audit.verdict.Goals as goal

pub returns-clause-verdict : goal.returns-clause-verdict
returns-clause-verdict c = rw c.new-loss.ensures.curve at c.audit.ensures.verdict

pub returns-clause-tells : goal.returns-clause-tells
returns-clause-tells c = rw c.new-loss.ensures.curve at c.audit.ensures.tells
