use Rattle.machine_code.specs.Memories.{plain}
use Rattle.machine_code.proofs.Fixpoint.{at_instr, at_end, is_over}
use Rattle.machine_code.proofs.machine_laws.machine_goes_on.Goals as goal

pub returns-clause-instruction : goal.returns-clause-instruction
returns-clause-instruction c = λ t now code. at_instr plain t now code

pub returns-clause-end : goal.returns-clause-end
returns-clause-end c = λ t now code. at_end plain t now code

pub returns-clause-over : goal.returns-clause-over
returns-clause-over c = λ t now code. is_over plain t now code
