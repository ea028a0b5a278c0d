use Rattle.std.proofs.Common.{List, ℕ, [], inl, inr, IsNone, IsSome}
use Rattle.plant_main.specs.Jobs.{RefusesTrace}
use Rattle.plant_main.proofs.ReplayLemmas.{device_or_memory, mapped_fault, none_or_some}
use Rattle.plant_main.proofs.replaying.replay.Goals as goal

pub returns-in-Ok-Segments-clause-refused : goal.returns-in-Ok-Segments-clause-refused
returns-in-Ok-Segments-clause-refused g c =
    mapped_fault (λ _. IsNone c.args.job.now.plant)
    (λ fault. IsSome c.args.job.now.plant → (trace : List ℕ) × RefusesTrace trace fault) c.replay_names.result
    (λ fault none some. absurd (none_or_some c.args.job.now.plant none some)) c.replay_names.ensures.refused

pub returns-in-Ok-Trace-clause-refused : goal.returns-in-Ok-Trace-clause-refused
returns-in-Ok-Trace-clause-refused g c =
    mapped_fault (λ fault. RefusesTrace c.deref-in-Ok-Trace.result.now fault)
    (λ fault. IsSome c.args.job.now.plant → (trace : List ℕ) × RefusesTrace trace fault) c.replay_trace.result
    (λ fault refuses some. (c.deref-in-Ok-Trace.result.now, refuses)) c.replay_trace.ensures.refused

pub returns-in-Err-clause-refused : goal.returns-in-Err-clause-refused
returns-in-Err-clause-refused g c = λ some. ([], λ is. absurd (device_or_memory c.in-Err.error c.in-Err.ensures is))
