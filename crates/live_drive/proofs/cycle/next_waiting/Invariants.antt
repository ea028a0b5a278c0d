use Rattle.std.proofs.Common.{ℕ, ◌<◌}
use Rattle.core_engine.specs.Steps.{none_waits}
use Rattle.durable_core.specs.Endless.{InEachCore}
use Rattle.live_drive.proofs.cycle.next_waiting.Given as goal

abbrev pub invariant-loop-resource : goal.invariant-loop-resource
invariant-loop-resource g l =
    InEachCore l.core (λ core. (resource : ℕ) → resource < l.resource → none_waits core.state resource)
