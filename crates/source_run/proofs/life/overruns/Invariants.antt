use Rattle.std.proofs.Common.{◌≡◌, ◌-◌, ◌^◌, ℕ, List, min, sum}
use Rattle.commit_lock.proofs.FindingLemmas.{AreOverruns}
use Rattle.source_run.proofs.life.overruns.Given as goal

abbrev pub invariant-loop-program : goal.invariant-loop-program
invariant-loop-program g l =
    (each : List ℕ) × AreOverruns l.core.state l.program each × (l.overruns ≡ min (sum each) (2 ^ 64 - 1))
