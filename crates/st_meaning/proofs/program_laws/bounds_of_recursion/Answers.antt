use Rattle.st_meaning.proofs.Agrees.{ran_agrees, loop_enough}
use Rattle.st_meaning.proofs.program_laws.bounds_of_recursion.Goals as goal

pub returns-clause-calls : goal.returns-clause-calls
returns-clause-calls c = λ p image now budget depth s le. ran_agrees p image now budget depth s le

pub returns-clause-turns : goal.returns-clause-turns
returns-clause-turns c = loop_enough
