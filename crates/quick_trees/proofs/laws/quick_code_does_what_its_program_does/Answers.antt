use Rattle.quick_trees.proofs.Programs.{program_runs}
use Rattle.quick_trees.proofs.laws.quick_code_does_what_its_program_does.Goals as goal

pub returns : goal.returns
returns c = program_runs
