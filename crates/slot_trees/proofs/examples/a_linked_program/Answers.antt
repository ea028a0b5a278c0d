use Rattle.std.proofs.Common.{refl}
use Rattle.st_meaning.specs.Loops.{turns, looped, guarded}
use Rattle.slot_trees.specs.SlotExecution.{slot_runs_on, slot_step_on}
use Rattle.slot_trees.specs.SlotRuns.{slots_ran, slot_units_within}
use Rattle.slot_trees.proofs.ProgramExampleLemmas.{program_link}
use Rattle.slot_trees.proofs.examples.a_linked_program.Goals as goal

pub returns-clause-link : goal.returns-clause-link
returns-clause-link c = program_link

pub returns-clause-run : goal.returns-clause-run
unfolding slots_ran slot_units_within slot_runs_on slot_step_on turns looped guarded
returns-clause-run c = refl

pub returns-clause-fault : goal.returns-clause-fault
unfolding slots_ran slot_units_within slot_runs_on slot_step_on turns looped guarded
returns-clause-fault c = refl
