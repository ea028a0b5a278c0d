use Rattle.st_meaning.proofs.Scenes.{first, second, third, then_none, overruns_1, overruns_2, overruns_3}
use Rattle.st_meaning.proofs.plan_laws.three_programs_in_order.Goals as goal

pub returns-clause-first : goal.returns-clause-first
returns-clause-first c = first

pub returns-clause-second : goal.returns-clause-second
returns-clause-second c = second

pub returns-clause-third : goal.returns-clause-third
returns-clause-third c = third

pub returns-clause-then_none : goal.returns-clause-then_none
returns-clause-then_none c = then_none

pub returns-clause-overruns_of_p1 : goal.returns-clause-overruns_of_p1
returns-clause-overruns_of_p1 c = overruns_1

pub returns-clause-overruns_of_p2 : goal.returns-clause-overruns_of_p2
returns-clause-overruns_of_p2 c = overruns_2

pub returns-clause-overruns_of_p3 : goal.returns-clause-overruns_of_p3
returns-clause-overruns_of_p3 c = overruns_3
