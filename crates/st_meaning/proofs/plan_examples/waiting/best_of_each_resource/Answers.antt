use Rattle.std.proofs.Common.{rules, refl}
use Rattle.st_meaning.specs.PlanExamples.{of}
use Rattle.st_meaning.proofs.plan_examples.waiting.best_of_each_resource.Goals as goal

pub returns : goal.returns
returns c = (
  search rules,
  search rules,
  search rules,
  search rules,
  search rules,
  search rules,
  λ none. none (of 1 0) (search rules) refl,
  search rules,
)
