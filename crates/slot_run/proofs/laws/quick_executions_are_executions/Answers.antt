use Rattle.slot_run.proofs.QuickParts.{part_of}
use Rattle.slot_run.proofs.laws.quick_executions_are_executions.Goals as goal

pub returns : goal.returns
returns c snapshot quick effect part is = part_of snapshot quick effect part is
