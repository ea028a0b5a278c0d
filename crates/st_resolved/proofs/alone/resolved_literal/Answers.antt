use Rattle.st_resolved.proofs.alone.resolved_literal.Goals as goal

pub returns-in-Number : goal.returns-in-Number
returns-in-Number c env serves = let is = c.in-Number.is in rw is (c.resolved_number.ensures env)
