use Rattle.layout.specs.TextLayouts.{slots_of_text}
use Rattle.slot_trees.proofs.ProgramLinks.{program_of_source}
use Rattle.slot_trees.proofs.ProgramSim.{ends_alike, outcome_alike, store_alike}
use Rattle.slot_trees.proofs.laws.linked_texts_mean_the_same.Goals as goal

pub returns-clause-ends : goal.returns-clause-ends
returns-clause-ends c = λ source linked h n p body g l.
    ends_alike (slots_of_text source) p 0 linked.library body (program_of_source source linked h n p body g l)

pub returns-clause-outcome : goal.returns-clause-outcome
returns-clause-outcome c = λ source linked h n p body g l.
    outcome_alike (slots_of_text source) p 0 linked.library body (program_of_source source linked h n p body g l)

pub returns-clause-store : goal.returns-clause-store
returns-clause-store c = λ source linked h n p body g l.
    store_alike (slots_of_text source) p 0 linked.library body (program_of_source source linked h n p body g l)
