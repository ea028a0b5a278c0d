use Rattle.std.proofs.Common.{refl}
use Rattle.machine_code.specs.MarkedExecution.{marked_turns, marked_loop, marked_guarded, marked_runs_on, marked_step_on}
use Rattle.machine_code.specs.MarkedRuns.{marked_ran, marked_units_within}
use Rattle.machine_code.proofs.examples.a_marked_program.Goals as goal

pub returns : goal.returns
unfolding marked_ran marked_units_within marked_runs_on marked_step_on marked_turns marked_loop marked_guarded
returns c = refl
