use Rattle.std.proofs.Common.{inr, Ok, Err, refl}
use Rattle.commit_lock.proofs.driving.commit_held.Goals as goal

pub returns-in-Ok-commit-clause-commits : goal.returns-in-Ok-commit-clause-commits
returns-in-Ok-commit-clause-commits g c = rw c.in-Some.is
    (inr (c.in-Ok.execution, Ok c.in-Ok-commit.answer, c.in-Ok.ensures, c.in-Ok-commit.ensures.commits, refl))

pub returns-in-Err-commit-clause-commits : goal.returns-in-Err-commit-clause-commits
returns-in-Err-commit-clause-commits g c = rw c.in-Some.is
    (inr (c.in-Ok.execution, Err c.in-Err-commit.refusal, c.in-Ok.ensures, c.in-Err-commit.ensures.commits, refl))
