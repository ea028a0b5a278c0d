use Rattle.machine_code.proofs.ProgramRuns.{marked_program_runs}
use Rattle.machine_code.proofs.code_laws.marked_code_does_what_its_program_does.Goals as goal

pub returns : goal.returns
returns c = marked_program_runs
