use Rattle.std.proofs.Common.{refl}
use Rattle.st_meaning.specs.StandardBlocks.{block_of}
use Rattle.st_meaning.specs.StandardFunctions.{standard_of, standard_functions}
use Rattle.layout.specs.Types.{shape_within, is_within_depth}
use Rattle.slot_trees.specs.SlotRuns.{slots_ran, slot_units_within}
use Rattle.slot_trees.proofs.examples.a_linked_text.Goals as goal

pub returns-clause-is : goal.returns-clause-is
unfolding shape_within block_of standard_of standard_functions
returns-clause-is c = refl

pub returns-clause-link : goal.returns-clause-link
unfolding shape_within is_within_depth block_of standard_of standard_functions
returns-clause-link c = record { names = refl; units = refl; is = refl }

pub returns-clause-programs : goal.returns-clause-programs
unfolding shape_within block_of
returns-clause-programs c = refl

pub returns-clause-run : goal.returns-clause-run
unfolding slots_ran slot_units_within
returns-clause-run c = refl
