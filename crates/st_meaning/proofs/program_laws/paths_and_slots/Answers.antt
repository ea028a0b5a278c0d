use Rattle.st_meaning.proofs.SlotLemmas.{seen_slot, assigned_slot, assigned_input}
use Rattle.st_meaning.proofs.program_laws.paths_and_slots.Goals as goal

pub returns-clause-read : goal.returns-clause-read
returns-clause-read c = seen_slot

pub returns-clause-assigned : goal.returns-clause-assigned
returns-clause-assigned c = assigned_slot

pub returns-clause-input : goal.returns-clause-input
returns-clause-input c = assigned_input
