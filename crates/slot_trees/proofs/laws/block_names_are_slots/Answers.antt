use Rattle.slot_trees.proofs.BlockTableLemmas.{externals_stand, members_stand}
use Rattle.slot_trees.proofs.laws.block_names_are_slots.Goals as goal

pub returns-clause-externals : goal.returns-clause-externals
returns-clause-externals c = λ text vs once ps externals xs. externals_stand text vs ps externals once xs

pub returns-clause-members : goal.returns-clause-members
returns-clause-members c = members_stand
