use Rattle.st_meaning.proofs.LogLemmas.{past_of-add}
use Rattle.st_meaning.proofs.plan_laws.logs_grow_by_one_step.Goals as goal

pub returns : goal.returns
returns c = past_of-add
