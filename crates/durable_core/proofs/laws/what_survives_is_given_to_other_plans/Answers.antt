use Rattle.std.proofs.Common.{ap}
use Rattle.retain_records.specs.Records.{Content}
use Rattle.durable_core.proofs.GivenToOthers.{others_given}
use Rattle.durable_core.proofs.laws.what_survives_is_given_to_other_plans.Goals as goal

pub returns-clause-store : goal.returns-clause-store
returns-clause-store c = others_given

pub returns-clause-moment : goal.returns-clause-moment
returns-clause-moment c = λ plan other start before log acked generation content s.
    ap (λ (x : Content). x.moment) s.holds
