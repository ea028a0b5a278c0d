use Rattle.std.proofs.Common.{subst, List}
use Rattle.st_meaning.specs.declared.plan.PlanInput.{PlanInput}
use Rattle.image.specs.Plants.{IsRowOf}
use Rattle.trace_segments.proofs.HeadLemmas.{row_typed}
use Rattle.trace_segments.proofs.parsing.last_line.Goals as goal

pub returns-in-Ok-clause-typed : goal.returns-in-Ok-clause-typed
returns-in-Ok-clause-typed c = row_typed c.args.plan.now c.in-Ok.row
    (subst (λ (is : List PlanInput). IsRowOf is c.in-Ok.row) c.inputs.ensures c.in-Ok.ensures.fits)
