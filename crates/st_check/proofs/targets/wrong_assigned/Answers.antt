use Rattle.st_check.proofs.targets.wrong_assigned.Goals as goal

pub returns-in-Target : goal.returns-in-Target
returns-in-Target c env serves = rw c.in-Target.is (c.wrong_target.ensures env serves)
