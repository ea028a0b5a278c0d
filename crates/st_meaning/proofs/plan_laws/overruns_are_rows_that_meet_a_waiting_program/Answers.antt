use Rattle.st_meaning.proofs.OverrunLemmas as lemmas
use Rattle.st_meaning.proofs.plan_laws.overruns_are_rows_that_meet_a_waiting_program.Goals as goal

pub returns-clause-none_at_first : goal.returns-clause-none_at_first
returns-clause-none_at_first c = lemmas.none_at_first

pub returns-clause-met : goal.returns-clause-met
returns-clause-met c = lemmas.met

pub returns-clause-begun : goal.returns-clause-begun
returns-clause-begun c = lemmas.begun

pub returns-clause-passed : goal.returns-clause-passed
returns-clause-passed c = lemmas.passed

pub returns-clause-done : goal.returns-clause-done
returns-clause-done c = lemmas.done
