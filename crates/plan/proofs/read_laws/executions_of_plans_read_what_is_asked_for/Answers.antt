use Rattle.plan.proofs.PlanReads.{asks_for_reads}
use Rattle.plan.proofs.read_laws.executions_of_plans_read_what_is_asked_for.Goals as goal

pub returns : goal.returns
returns c = asks_for_reads
