use Rattle.st_link.proofs.GivenPrograms.{program_is_given, program_is_of}
use Rattle.st_link.proofs.homes.programs_of_a_text_are_of_its_instances.Goals as goal

pub returns-clause-each : goal.returns-clause-each
returns-clause-each c = λ source c owner u only instance. program_is_given source c only owner u instance

pub returns-clause-no_other : goal.returns-clause-no_other
returns-clause-no_other c = λ source c p only among. program_is_of source c only p among
