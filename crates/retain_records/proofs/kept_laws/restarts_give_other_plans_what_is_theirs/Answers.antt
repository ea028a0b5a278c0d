use Rattle.retain_records.proofs.OtherPlanLemmas.{carried_over}
use Rattle.retain_records.proofs.kept_laws.restarts_give_other_plans_what_is_theirs.Goals as goal

pub returns-clause-store : goal.returns-clause-store
returns-clause-store c = carried_over
