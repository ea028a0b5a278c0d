use Rattle.std.proofs.Common.{refl}
use Rattle.trace.proofs.ReadLemmas.{none_some}
use Rattle.trace_segments.proofs.beginning.segment_budget.Goals as goal

pub returns-in-None-clause-form : goal.returns-in-None-clause-form
returns-in-None-clause-form c = (refl, λ n rest low high is. none_some (n, rest) (c.in-None.ensures.1 n rest (low, high) is))
