use Rattle.machine_code.proofs.ProgramRuns.{program_runs}
use Rattle.machine_code.proofs.code_laws.code_does_what_its_program_does.Goals as goal

pub returns : goal.returns
returns c = program_runs
