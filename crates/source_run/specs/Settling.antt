-- When a life has nothing left to do.
use Rattle.std.specs.Prelude.{ℕ}
use Rattle.durable_core.specs.Cores.{CoreView}
use Rattle.durable_core.specs.Flushing.{IsAcknowledged}
use Rattle.run_lock.specs.Lives.{NothingIsDue}

-- nothing waits on the resources below this number, and all of the log is acknowledged
abbrev pub IsSettled : {D : Type 0} → CoreView D → ℕ → Type 0
IsSettled core resources = IsAcknowledged core × NothingIsDue core.state resources
