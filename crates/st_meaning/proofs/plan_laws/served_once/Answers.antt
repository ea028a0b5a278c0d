use Rattle.st_meaning.proofs.DueLemmas.{served_by_done, served_stays, served_waits_no_more, served_within_first}
use Rattle.st_meaning.proofs.DueLemmas.{served_within_done, served_within_row}
use Rattle.st_meaning.proofs.plan_laws.served_once.Goals as goal

pub returns-clause-by_its_done : goal.returns-clause-by_its_done
returns-clause-by_its_done c = served_by_done

pub returns-clause-over_dones : goal.returns-clause-over_dones
returns-clause-over_dones c = served_stays

pub returns-clause-over_rows : goal.returns-clause-over_rows
returns-clause-over_rows c = λ h moment samples p k l. l

pub returns-clause-never_waits : goal.returns-clause-never_waits
returns-clause-never_waits c = served_waits_no_more

pub returns-clause-within_at_first : goal.returns-clause-within_at_first
returns-clause-within_at_first c = served_within_first

pub returns-clause-within_over_dones : goal.returns-clause-within_over_dones
returns-clause-within_over_dones c = served_within_done

pub returns-clause-within_over_rows : goal.returns-clause-within_over_rows
returns-clause-within_over_rows c = served_within_row
