use Rattle.std.proofs.Common.{◌≡◌, true, false, rules, refl}
use Rattle.st_meaning.specs.PlanExamples.{of}
use Rattle.st_meaning.proofs.plan_examples.waiting.row_before_declaration.Goals as goal

pub returns : goal.returns
returns c =
    (search rules, λ best. let e : true ≡ false = best.best (of 1 0) (search rules) refl in absurd (cc), search rules)
