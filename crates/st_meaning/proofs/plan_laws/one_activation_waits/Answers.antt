use Rattle.st_meaning.proofs.DueLemmas.{Waits-same, done_waits_no_more}
use Rattle.st_meaning.proofs.plan_laws.one_activation_waits.Goals as goal

pub returns-clause-one : goal.returns-clause-one
returns-clause-one c = Waits-same

pub returns-clause-none_behind_a_done : goal.returns-clause-none_behind_a_done
returns-clause-none_behind_a_done c = done_waits_no_more
