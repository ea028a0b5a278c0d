use Rattle.std.proofs.Common.{refl}
use Rattle.st_meaning.specs.PlanExamples.{of}
use Rattle.checkpoints.proofs.examples.programs_that_wait.Goals as goal

pub returns-clause-not_first : goal.returns-clause-not_first
returns-clause-not_first c = λ b. let e = b.best (of 1 1) refl refl in absurd (cc)

pub returns-clause-not_none : goal.returns-clause-not_none
returns-clause-not_none c = λ n. n (of 1 1) refl refl
