use Rattle.machine_code.proofs.UnmarkedRuns.{runs_without_marks}
use Rattle.machine_code.proofs.code_laws.marks_change_nothing.Goals as goal

pub returns : goal.returns
returns c = runs_without_marks
