use Rattle.std.proofs.Common.{refl}
use Rattle.st_meaning.specs.Loops.{turns, looped, guarded}
use Rattle.st_meaning.specs.StandardBlocks.{block_of}
use Rattle.st_meaning.specs.StandardFunctions.{standard_of, standard_functions}
use Rattle.layout.specs.Types.{shape_within}
use Rattle.slot_trees.specs.SlotExecution.{slot_runs_on, slot_step_on}
use Rattle.slot_trees.specs.SlotRuns.{slots_ran, slot_units_within}
use Rattle.slot_trees.proofs.examples.a_linked_text_over_parts.Goals as goal

pub returns-clause-run : goal.returns-clause-run
unfolding shape_within block_of standard_of standard_functions slots_ran slot_units_within slot_runs_on slot_step_on
    turns looped guarded
returns-clause-run c = refl

pub returns-clause-too_few : goal.returns-clause-too_few
unfolding shape_within block_of standard_of standard_functions slots_ran slot_units_within slot_runs_on slot_step_on
    turns looped guarded
returns-clause-too_few c = refl
