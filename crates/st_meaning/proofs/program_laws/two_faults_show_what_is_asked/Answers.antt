use Rattle.st_meaning.proofs.Alike.{missing_alike, wrong_alike, asked_by_two}
use Rattle.st_meaning.proofs.program_laws.two_faults_show_what_is_asked.Goals as goal

pub returns-clause-ends : goal.returns-clause-ends
returns-clause-ends c = missing_alike

pub returns-clause-wrong : goal.returns-clause-wrong
returns-clause-wrong c = wrong_alike

pub returns-clause-asked : goal.returns-clause-asked
returns-clause-asked c = asked_by_two
