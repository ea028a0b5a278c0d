use Rattle.st_meaning.proofs.RunLemmas.{fault_leaves_store}
use Rattle.st_meaning.proofs.program_laws.faults_change_nothing.Goals as goal

pub returns : goal.returns
returns c = fault_leaves_store
