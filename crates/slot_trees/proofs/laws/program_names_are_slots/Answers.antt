use Rattle.slot_trees.proofs.ProgramTableLemmas.{program_names}
use Rattle.slot_trees.proofs.laws.program_names_are_slots.Goals as goal

pub returns : goal.returns
returns c = program_names
